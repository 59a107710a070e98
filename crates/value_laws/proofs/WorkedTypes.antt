-- The modules of five schemas, worked out by hand: an order with its lines, elements of many types, prices, which have simple
-- content with an attribute, settings, whose attributes have default and fixed values, and elements in any order. With the last
-- three stand the parts of their sets. The first two are those of `xer_items/proofs/WorkedModules`.
use Rattle.std.specs.Prelude.{ℕ, Bool, ◌^◌, ◌-◌, true, false, pos, negsuc, Some, None, List, [], ◌∷◌, codes}
use Rattle.base_trees.specs.Rose.{Rose, node, roses_of}
use Rattle.base_texts.specs.declared.white_space.WhiteSpace.TheVariants.{Collapse}
use Rattle.simple_types.specs.declared.simples.Class.TheVariants.{Any}
use Rattle.simple_types.specs.declared.standards.Standard.{Standard}
use Rattle.simple_types.specs.declared.standards.Standard.TheVariants.{Free, Default, Fixed}
use Rattle.content_models.specs.declared.particles.ParticleKind.TheVariants as particle
use Rattle.content_models.specs.declared.particles.ParticleLabel.{ParticleLabel}
use Rattle.schema_components.specs.declared.components.AttributeUse.{AttributeUse}
use Rattle.schema_components.specs.declared.components.Content.TheVariants as content
use Rattle.schema_components.specs.declared.components.TypeOf.TheVariants as kind
use Rattle.schema_components.specs.SetParts.{SetParts}
use Rattle.validity_rules.specs.Private.WorkedSets.{unqualified, element_decl, particle_of, element_particle, attribute_use, complex_def, unnamed_type, any_text, any_token, any_byte}
use Rattle.asn_types.specs.declared.marks.Instruction.{Instruction}
use Rattle.asn_types.specs.declared.marks.Instruction.TheVariants as mark
use Rattle.asn_types.specs.declared.modules.Assignment.{Assignment}
use Rattle.asn_types.specs.declared.types.Form.TheVariants as form
use Rattle.asn_types.specs.declared.types.TypeLabel.{TypeLabel}
use Rattle.asn_types.specs.declared.types.Component.{Component}
use Rattle.asn_types.specs.declared.types.Form.{Form}

abbrev pub component : List ℕ → Bool → List Instruction → Component
component identifier optional marks = record { identifier = identifier; optional = optional; standard = Free; marks = marks }

abbrev type : Form → List Instruction → List (Rose TypeLabel) → Rose TypeLabel
type f marks ts = node (record { form = f; marks = marks }) (roses_of ts)

abbrev assigned : List ℕ → List Instruction → Rose TypeLabel → Assignment
assigned reference marks body = record { reference = reference; marks = marks; body = body }

abbrev names_element : List ℕ → List ℕ → Rose TypeLabel → Assignment
names_element reference name body = assigned reference (mark.Name name ∷ []) body

abbrev pub refers : ℕ → Rose TypeLabel
refers n = type (form.Ref n) [] []

abbrev pub text_type : Rose TypeLabel
text_type = type (form.Utf8 0 None Any) [] []

abbrev pub token_type : Rose TypeLabel
token_type = type (form.Utf8 0 None Any) (mark.WhiteSpace Collapse ∷ []) []

abbrev int_type : Rose TypeLabel
int_type = type (form.Int (Some (negsuc (2 ^ 31 - 1))) (Some (pos (2 ^ 31 - 1)))) [] []

abbrev pub byte_type : Rose TypeLabel
byte_type = type (form.Int (Some (pos 0)) (Some (pos 255))) [] []

-- ---- orders

abbrev po : Instruction
po = mark.Namespace (codes "urn:po")

-- SEQUENCE { sku [NAMESPACE AS "urn:po"] [WHITESPACE COLLAPSE] UTF8String, qty [NAMESPACE AS "urn:po"] Qty }
abbrev line_type : Rose TypeLabel
line_type =
    type (form.Sequence (component (codes "sku") false (po ∷ []) ∷ component (codes "qty") false (po ∷ []) ∷ [])) [] (token_type ∷ refers 3 ∷ [])

-- SEQUENCE { id [ATTRIBUTE] INTEGER (0..65535), line-list [UNTAGGED] SEQUENCE (SIZE (1..MAX)) OF line .. Line, note .. UTF8String OPTIONAL }
abbrev order_type : Rose TypeLabel
order_type =
    type (form.Sequence (
    component (codes "id") false (mark.Attribute ∷ []) ∷ component (codes "line-list") false (mark.Untagged ∷ [])
    ∷ component (codes "note") true (po ∷ []) ∷ [])) []
    (type (form.Int (Some (pos 0)) (Some (pos 65535))) [] []
    ∷ type (form.SequenceOf (component (codes "line") false (po ∷ [])) 1 None) [] (refers 1 ∷ []) ∷ text_type ∷ [])

unfoldable pub order_types : List Assignment
order_types =
    assigned (codes "Order") (mark.Name (codes "order") ∷ po ∷ []) (refers 2)
    ∷ assigned (codes "Line") [] line_type
    ∷ assigned (codes "Order-1") (mark.Name (codes "Order") ∷ []) order_type
    ∷ assigned (codes "Qty") [] (type (form.Int (Some (pos 1)) (Some (pos 100))) [] [])
    ∷ []

-- ---- elements of many types

-- [USE-NIL] SEQUENCE { content INTEGER (0..255) OPTIONAL }
abbrev nillable_type : Rose TypeLabel
nillable_type = type (form.Sequence (component (codes "content") true [] ∷ [])) (mark.UseNil ∷ []) (byte_type ∷ [])

-- CHOICE { b UTF8String, i UTF8String }
abbrev choice_type : Rose TypeLabel
choice_type = type (form.Choice (component (codes "b") false [] ∷ component (codes "i") false [] ∷ [])) [] (text_type ∷ text_type ∷ [])

-- [EMBED-VALUES] SEQUENCE { embed-values SEQUENCE OF UTF8String, choice-list [UNTAGGED] SEQUENCE OF choice [UNTAGGED] CHOICE .. }
abbrev mixed_type : Rose TypeLabel
mixed_type =
    type (form.Sequence (component (codes "embed-values") false [] ∷ component (codes "choice-list") false (mark.Untagged ∷ []) ∷ [])) (mark.EmbedValues ∷ [])
    (type (form.SequenceOf (component [] false []) 0 None) [] (text_type ∷ [])
    ∷ type (form.SequenceOf (component (codes "choice") false (mark.Untagged ∷ [])) 0 None) [] (choice_type ∷ []) ∷ [])

-- SEQUENCE { t [ATTRIBUTE] UTF8String OPTIONAL }
abbrev attribute_type : Rose TypeLabel
attribute_type = type (form.Sequence (component (codes "t") true (mark.Attribute ∷ []) ∷ [])) [] (text_type ∷ [])

-- SEQUENCE { e-list [UNTAGGED] SEQUENCE OF e E }
abbrev repeated_type : Rose TypeLabel
repeated_type =
    type (form.Sequence (component (codes "e-list") false (mark.Untagged ∷ []) ∷ [])) []
    (type (form.SequenceOf (component (codes "e") false []) 0 None) [] (refers 1 ∷ []) ∷ [])

-- [USE-UNION] CHOICE of these two
abbrev union_type : Rose TypeLabel → Rose TypeLabel → Rose TypeLabel
union_type one other =
    type (form.Choice (component (codes "alt") false [] ∷ component (codes "alt-1") false [] ∷ [])) (mark.UseUnion ∷ []) (one ∷ other ∷ [])

abbrev seven_type : Rose TypeLabel
seven_type = type (form.Words (codes "x7" ∷ []) (codes "7" ∷ [])) (mark.WhiteSpace Collapse ∷ mark.Text 0 (codes "7") ∷ []) []

abbrev colour_type : Rose TypeLabel
colour_type =
    type (form.Words (codes "green" ∷ codes "blue" ∷ codes "red" ∷ []) (codes "Green" ∷ codes "blue" ∷ codes "red" ∷ []))
    (mark.WhiteSpace Collapse ∷ mark.Text 0 (codes "Green") ∷ []) []

-- [USE-NUMBER] ENUMERATED { int-5(-5), int5(5) }
abbrev fives_type : Rose TypeLabel
fives_type = type (form.Numbers (negsuc 4 ∷ pos 5 ∷ [])) (mark.UseNumber ∷ []) []

unfoldable pub element_types : List Assignment
element_types =
    names_element (codes "C") (codes "c") (refers 15)
    ∷ names_element (codes "E") (codes "e") (type (form.Sequence []) [] [])
    ∷ names_element (codes "I") (codes "i") int_type
    ∷ names_element (codes "K") (codes "k") nillable_type
    ∷ names_element (codes "M") (codes "m") fives_type
    ∷ names_element (codes "N") (codes "n") (type (form.Int None None) [] [])
    ∷ names_element (codes "P") (codes "p") mixed_type
    ∷ names_element (codes "Q") (codes "q") attribute_type
    ∷ names_element (codes "R") (codes "r") repeated_type
    ∷ names_element (codes "S") (codes "s") text_type
    ∷ names_element (codes "U") (codes "u") (union_type int_type token_type)
    ∷ names_element (codes "V") (codes "v") (refers 16)
    ∷ names_element (codes "W") (codes "w") (union_type seven_type int_type)
    ∷ names_element (codes "Z") (codes "z") (type (form.Sequence (component (codes "z") true [] ∷ [])) [] (refers 13 ∷ []))
    ∷ assigned (codes "Bytes") [] (type (form.SequenceOf (component [] false []) 0 None) (mark.List ∷ []) (byte_type ∷ []))
    ∷ assigned (codes "Colour") [] colour_type
    ∷ assigned (codes "Few") [] (type (form.SequenceOf (component [] false []) 1 (Some 3)) (mark.List ∷ []) (byte_type ∷ []))
    ∷ assigned (codes "Seven") [] seven_type
    ∷ []

-- ---- prices: bytes with the attribute `currency`, a text that is required; the element `rebate` may be nil

unfoldable pub prices : SetParts
prices = record {
  elements = element_decl (unqualified (codes "price")) false (kind.Complex 0) ∷ element_decl (unqualified (codes "rebate")) true (kind.Complex 0) ∷ [];
  globals = 2;
  simples = unnamed_type any_text ∷ unnamed_type any_byte ∷ [];
  complexes = complex_def (Some (unqualified (codes "Price"))) (attribute_use (unqualified (codes "currency")) 0 true ∷ []) (content.Simple 1) ∷ [];
  attributes = [];
}

abbrev currency : Component
currency = component (codes "currency") false (mark.Attribute ∷ [])

-- the second type is that of the nillable elements of the complex type: [USE-NIL] SEQUENCE { currency .., content INTEGER (0..255) OPTIONAL }
unfoldable pub price_types : List Assignment
price_types =
    names_element (codes "Price") (codes "price") (refers 2)
    ∷ names_element (codes "Rebate") (codes "rebate") (refers 3)
    ∷ assigned (codes "Price-1") (mark.Name (codes "Price") ∷ []) (type (form.Sequence (currency ∷ component (codes "base") false (mark.Untagged ∷ []) ∷ [])) [] (text_type ∷ byte_type ∷ []))
    ∷ assigned (codes "Price-1-nillable") [] (type (form.Sequence (currency ∷ component (codes "content") true [] ∷ [])) (mark.UseNil ∷ []) (text_type ∷ byte_type ∷ []))
    ∷ []

-- ---- settings: `g` has a byte `v` with a default value and a token `x` with a fixed one; `h` has the token, which is required

abbrev constrained_use : List ℕ → ℕ → Bool → Standard → AttributeUse
constrained_use local simple required standard = record { name = unqualified local; simple = simple; required = required; standard = standard }

unfoldable pub settings : SetParts
settings = record {
  elements = element_decl (unqualified (codes "g")) false (kind.Complex 0) ∷ element_decl (unqualified (codes "h")) false (kind.Complex 1) ∷ [];
  globals = 2;
  simples = unnamed_type any_byte ∷ unnamed_type any_token ∷ [];
  complexes =
      complex_def None (constrained_use (codes "v") 0 false (Default (codes "5")) ∷ constrained_use (codes "x") 1 false (Fixed (codes "on")) ∷ []) content.Empty
      ∷ complex_def None (constrained_use (codes "x") 1 true (Fixed (codes "on")) ∷ []) content.Empty ∷ [];
  attributes = [];
}

abbrev constrained : List ℕ → Bool → Standard → Component
constrained identifier optional standard = record { identifier = identifier; optional = optional; standard = standard; marks = mark.Attribute ∷ [] }

unfoldable pub setting_types : List Assignment
setting_types =
    names_element (codes "G") (codes "g")
    (type (form.Sequence (constrained (codes "v") true (Default (codes "5")) ∷ constrained (codes "x") true (Fixed (codes "on")) ∷ [])) [] (byte_type ∷ token_type ∷ []))
    ∷ names_element (codes "H") (codes "h") (type (form.Sequence (constrained (codes "x") false (Fixed (codes "on")) ∷ [])) [] (token_type ∷ []))
    ∷ []

-- ---- children in any order: `y` has an `a` and may have a `b`

abbrev pub any_model : Rose ParticleLabel
any_model = particle_of particle.All 1 (Some 1) (element_particle 1 (unqualified (codes "a")) 1 (Some 1) ∷ element_particle 2 (unqualified (codes "b")) 0 (Some 1) ∷ [])

unfoldable pub any_order : SetParts
any_order = record {
  elements =
      element_decl (unqualified (codes "y")) false (kind.Complex 0) ∷ element_decl (unqualified (codes "a")) false (kind.Simple 0)
      ∷ element_decl (unqualified (codes "b")) false (kind.Simple 0) ∷ [];
  globals = 1;
  simples = unnamed_type any_byte ∷ [];
  complexes = complex_def None [] (content.ElementOnly any_model) ∷ [];
  attributes = [];
}

-- [USE-ORDER] SEQUENCE { order SEQUENCE OF ENUMERATED { a, b }, a INTEGER (0..255), b INTEGER (0..255) OPTIONAL }
unfoldable pub any_types : List Assignment
any_types =
    names_element (codes "Y") (codes "y")
    (type (form.Sequence (component (codes "order") false [] ∷ component (codes "a") false [] ∷ component (codes "b") true [] ∷ [])) (mark.UseOrder ∷ [])
    (type (form.SequenceOf (component [] false []) 0 None) [] (type (form.Order (codes "a" ∷ codes "b" ∷ [])) [] [] ∷ []) ∷ byte_type ∷ byte_type ∷ []))
    ∷ []
