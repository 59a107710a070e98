-- Types and values for worked terms.
use Rattle.std.proofs.Common.{ℕ, true, false, pos, negsuc, Some, None, List, [], ◌∷◌, codes, Bool}
use Rattle.base_trees.specs.Rose.{Rose, node, none as no_kids, roses_of}
use Rattle.base_texts.specs.declared.white_space.WhiteSpace.TheVariants.{Collapse}
use Rattle.simple_types.specs.declared.simples.Class.TheVariants.{Any}
use Rattle.simple_types.specs.declared.labels.ValueLabel.{ValueLabel}
use Rattle.simple_types.specs.declared.labels.ValueLabel.TheVariants as value
use Rattle.simple_types.specs.declared.standards.Standard.{Standard}
use Rattle.simple_types.specs.declared.standards.Standard.TheVariants.{Free, Default, Fixed}
use Rattle.asn_types.specs.declared.marks.Instruction.{Instruction}
use Rattle.asn_types.specs.declared.marks.Instruction.TheVariants as mark
use Rattle.asn_types.specs.declared.modules.Assignment.{Assignment}
use Rattle.asn_types.specs.declared.types.Component.{Component}
use Rattle.asn_types.specs.declared.types.Form.{Form}
use Rattle.asn_types.specs.declared.types.Form.TheVariants as form
use Rattle.asn_types.specs.declared.types.TypeLabel.{TypeLabel}

abbrev pub part : List ℕ → Bool → List Instruction → Component
part identifier optional marks = record { identifier = identifier; optional = optional; standard = Free; marks = marks }

abbrev pub type : Form → List Instruction → List (Rose TypeLabel) → Rose TypeLabel
type f marks ts = node (record { form = f; marks = marks }) (roses_of ts)

abbrev pub assigned : Rose TypeLabel → Assignment
assigned body = record { reference = []; marks = []; body = body }

abbrev pub leaf : ValueLabel → Rose ValueLabel
leaf v = node v no_kids

abbrev pub tree : ValueLabel → List (Rose ValueLabel) → Rose ValueLabel
tree v vs = node v (roses_of vs)

-- order: { id INTEGER (0..65535), line-list SEQUENCE (SIZE (1..MAX)) OF line Line, note UTF8String OPTIONAL }
abbrev pub text_type : Rose TypeLabel
text_type = type (form.Utf8 0 None Any) [] []

abbrev pub token_type : Rose TypeLabel
token_type = type (form.Utf8 0 None Any) (mark.WhiteSpace Collapse ∷ []) []

abbrev pub ref : ℕ → Rose TypeLabel
ref k = type (form.Ref k) [] []

abbrev pub lines : Rose TypeLabel
lines = type (form.SequenceOf (part (codes "line") false []) 1 None) [] (ref 1 ∷ [])

abbrev pub orders : List Assignment
orders =
    assigned (ref 2)
    ∷ assigned (type (form.Sequence (part (codes "sku") false [] ∷ part (codes "qty") false [] ∷ [])) [] (token_type ∷ ref 3 ∷ []))
    ∷ assigned (type (form.Sequence (part (codes "id") false (mark.Attribute ∷ []) ∷ part (codes "line-list") false (mark.Untagged ∷ []) ∷ part (codes "note") true [] ∷ [])) []
    (type (form.Int (Some (pos 0)) (Some (pos 65535))) [] [] ∷ lines ∷ text_type ∷ []))
    ∷ assigned (type (form.Int (Some (pos 1)) (Some (pos 100))) [] [])
    ∷ []

abbrev pub line : Rose ValueLabel
line = tree (value.Sequence (true ∷ true ∷ [])) (leaf (value.Utf8 (codes "A1")) ∷ leaf (value.Int (pos 3)) ∷ [])

abbrev pub order : Rose ValueLabel
order = tree (value.Sequence (true ∷ true ∷ false ∷ [])) (leaf (value.Int (pos 7)) ∷ tree value.SequenceOf (line ∷ []) ∷ [])

abbrev pub int_type : Rose TypeLabel
int_type = type (form.Int (Some (negsuc 2147483647)) (Some (pos 2147483647))) [] []

abbrev pub seven_type : Rose TypeLabel
seven_type = type (form.Words (codes "x7" ∷ []) (codes "7" ∷ [])) (mark.WhiteSpace Collapse ∷ mark.Text 0 (codes "7") ∷ []) []

abbrev pub two : List Component
two = part (codes "alt") false [] ∷ part (codes "alt-1") false [] ∷ []

-- SEQUENCE OF UTF8String
abbrev pub texts : Rose TypeLabel
texts = type (form.SequenceOf (part [] false []) 0 None) [] (text_type ∷ [])

abbrev pub choices : Rose TypeLabel
choices = type (form.SequenceOf (part (codes "choice") false (mark.Untagged ∷ [])) 0 None) [] (type (form.Choice (part (codes "b") false [] ∷ part (codes "i") false [] ∷ [])) [] (text_type ∷ text_type ∷ []) ∷ [])

abbrev pub octet_type : Rose TypeLabel
octet_type = type (form.Int (Some (pos 0)) (Some (pos 255))) [] []

-- i, n, s, u, w, e; then k, v, c, m, r, z, p, q
abbrev pub others : List Assignment
others =
    assigned int_type
    ∷ assigned (type (form.Int None None) [] [])
    ∷ assigned text_type
    ∷ assigned (type (form.Choice two) (mark.UseUnion ∷ []) (int_type ∷ token_type ∷ []))
    ∷ assigned (type (form.Choice two) (mark.UseUnion ∷ []) (seven_type ∷ int_type ∷ []))
    ∷ assigned (type (form.Sequence []) [] [])
    ∷ assigned (type (form.Sequence (part (codes "content") true [] ∷ [])) (mark.UseNil ∷ []) (octet_type ∷ []))
    ∷ assigned (type (form.SequenceOf (part [] false []) 1 (Some 3)) (mark.List ∷ []) (octet_type ∷ []))
    ∷ assigned (type (form.Words (codes "green" ∷ codes "blue" ∷ codes "red" ∷ []) (codes "Green" ∷ codes "blue" ∷ codes "red" ∷ [])) (mark.WhiteSpace Collapse ∷ []) [])
    ∷ assigned (type (form.Numbers (negsuc 4 ∷ pos 5 ∷ [])) (mark.UseNumber ∷ []) [])
    ∷ assigned (type (form.Sequence (part (codes "e-list") false (mark.Untagged ∷ []) ∷ [])) [] (type (form.SequenceOf (part (codes "e") false []) 0 None) [] (ref 5 ∷ []) ∷ []))
    ∷ assigned (type (form.Sequence (part (codes "z") true [] ∷ [])) [] (ref 11 ∷ []))
    ∷ assigned (type (form.Sequence (part (codes "embed-values") false [] ∷ part (codes "choice-list") false (mark.Untagged ∷ []) ∷ [])) (mark.EmbedValues ∷ []) (texts ∷ choices ∷ []))
    ∷ assigned (type (form.Sequence (part (codes "t") true (mark.Attribute ∷ []) ∷ [])) [] (text_type ∷ []))
    ∷ []

-- BOOLEAN; and SEQUENCE { choice CHOICE { flag BOOLEAN, count INTEGER }, more BOOLEAN OPTIONAL }
abbrev pub flag_type : Rose TypeLabel
flag_type = type form.Bool [] []

abbrev pub chosen : List Assignment
chosen =
    assigned flag_type
    ∷ assigned (type (form.Sequence (part (codes "choice") false [] ∷ part (codes "more") true [] ∷ [])) [] (type (form.Choice (part (codes "flag") false [] ∷ part (codes "count") false [] ∷ [])) [] (flag_type ∷ type (form.Int None None) [] [] ∷ []) ∷ flag_type ∷ []))
    ∷ []

-- Default and fixed values: v INTEGER (0..255) DEFAULT 5 and x, which is "on" and may be absent; x alone, which may not; and
-- [USE-ORDER] SEQUENCE { order SEQUENCE OF ENUMERATED { a, b }, a BOOLEAN, b BOOLEAN OPTIONAL }.
abbrev pub attribute_part : List ℕ → Bool → Standard → Component
attribute_part identifier optional standard = record { identifier = identifier; optional = optional; standard = standard; marks = mark.Attribute ∷ [] }

abbrev pub small : Rose TypeLabel
small = type (form.Int (Some (pos 0)) (Some (pos 255))) [] []

abbrev pub standards : List Assignment
standards =
    assigned (type (form.Sequence (attribute_part (codes "v") true (Default (codes "5")) ∷ attribute_part (codes "x") true (Fixed (codes "on")) ∷ [])) [] (small ∷ token_type ∷ []))
    ∷ assigned (type (form.Sequence (attribute_part (codes "x") false (Fixed (codes "on")) ∷ [])) [] (token_type ∷ []))
    ∷ assigned (type (form.Sequence (part (codes "order") false [] ∷ part (codes "a") false [] ∷ part (codes "b") true [] ∷ [])) (mark.UseOrder ∷ [])
    (type (form.SequenceOf (part [] false []) 0 None) [] (type (form.Order (codes "a" ∷ codes "b" ∷ [])) [] [] ∷ []) ∷ type form.Bool [] [] ∷ type form.Bool [] [] ∷ []))
    ∷ []
