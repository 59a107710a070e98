-- A module in the notation of ASN.1 (X.680) with the encoding instructions of X.693: one assignment after the other.
use Rattle.std.specs.Prelude.{ℕ, suc, ℤ, Option, List, [], ◌∷◌, ◌++◌, map, slice_get, unwrap_or, codes, if◌then◌else◌}
use Rattle.std.specs.List.{flat_map}
use Rattle.std.specs.Option.{option_map}
use Rattle.std.specs.Fmt.{signed_decimal}
use Rattle.base_trees.specs.Rose.{Rose, node, Roses, none, more}
use Rattle.simple_types.specs.declared.simples.Class.{Class}
use Rattle.simple_types.specs.declared.standards.Standard.{Standard}
use Rattle.simple_types.specs.declared.standards.Standard.TheVariants.{Free, Default, Fixed}
use Rattle.asn_types.specs.declared.marks.Instruction.{Instruction}
use Rattle.asn_types.specs.declared.types.Component.{Component}
use Rattle.asn_types.specs.declared.types.Form.{Form}
use Rattle.asn_types.specs.declared.types.Form.TheVariants as form
use Rattle.asn_types.specs.declared.types.TypeLabel.{TypeLabel}
use Rattle.asn_types.specs.declared.modules.Assignment.{Assignment}
use Rattle.asn_types.specs.Parts.{parts_of}
use Rattle.module_print.specs.Notation.{number_range, size_range, class_range, fixed_range, enumerated, block}
use Rattle.module_print.specs.Instructions.{number_identifier, instructions}
use Rattle.module_print.specs.Values.{default}

-- The name of the assignment with this number.
abbrev pub reference_at : List Assignment → ℕ → List ℕ
reference_at M to = unwrap_or (option_map (λ a. a.reference) (slice_get M to)) []

-- An item that represents a number (clause 20): its identifier, and the number.
abbrev pub numbered_item : ℤ → List ℕ
numbered_item z = number_identifier z ++ codes "(" ++ signed_decimal z ++ codes ")"

-- INTEGER (clause 19).
abbrev pub integer : Option ℤ → Option ℤ → List ℕ
integer least greatest = codes "INTEGER" ++ number_range least greatest

-- UTF8String (clause 41).
abbrev pub text_type : ℕ → Option ℕ → Class → List ℕ
text_type least most class = codes "UTF8String" ++ size_range least most ++ class_range class

-- SEQUENCE OF (clauses 26 and 49), without its item.
abbrev pub sequence_of : ℕ → Option ℕ → List ℕ
sequence_of least most = codes "SEQUENCE" ++ size_range least most ++ codes " OF "

-- The level of the parts of a type. They are on lines of their own, or on the line of the type.
abbrev pub level_of_parts : ℕ → Form → ℕ
level_of_parts levels (form.SequenceOf part least most) = levels
level_of_parts levels _ = suc levels

-- A type (clauses 17 to 29) with its parts, on a line of this level of indentation.
abbrev pub type_of : List Assignment → ℕ → Form → List (List ℕ) → List ℕ
type_of M levels form.Bool parts = codes "BOOLEAN"
type_of M levels (form.Int least greatest) parts = integer least greatest
type_of M levels (form.Numbers numbers) parts = enumerated (map numbered_item numbers)
type_of M levels (form.Words identifiers words) parts = enumerated identifiers
type_of M levels (form.Order identifiers) parts = enumerated identifiers
type_of M levels (form.Utf8 least most class) parts = text_type least most class
type_of M levels (form.Sequence components) parts = codes "SEQUENCE " ++ block levels parts
type_of M levels (form.Choice alternatives) parts = codes "CHOICE " ++ block levels parts
type_of M levels (form.SequenceOf item least most) parts = sequence_of least most ++ flat_map (λ part. part) parts
type_of M levels (form.Ref to) parts = reference_at M to

-- An identifier with a space after it, if there is one.
abbrev pub labelled : List ℕ → List ℕ
labelled [] = []
labelled (byte ∷ bytes) = (byte ∷ bytes) ++ codes " "

-- The text after the type of a part that may be absent (clause 25.1).
abbrev pub if_absent : List Assignment → Rose TypeLabel → Standard → List ℕ
if_absent M t Free = codes " OPTIONAL"
if_absent M t (Default text) = default M t text
if_absent M t (Fixed text) = default M t text

abbrev pub ending : List Assignment → Component → Rose TypeLabel → List ℕ
ending M part t = if part.optional then if_absent M t part.standard else []

-- A component, an alternative or an item with its type (clauses 25, 26 and 29), whose print is `type`.
abbrev pub with_type : List Assignment → Component → Rose TypeLabel → List ℕ → List ℕ
with_type M part t type = labelled part.identifier ++ type ++ fixed_range part.standard ++ ending M part t

-- The instructions of a part or an assignment, then those of its type.
abbrev pub prefixes : List ℕ → List Instruction → TypeLabel → List ℕ
prefixes generated marks l = instructions generated l.form marks ++ instructions generated l.form l.marks

module _ (M : List Assignment) where
  abbrev mutual
    -- The type of a part or an assignment with this name and these instructions.
    pub printed_type : ℕ → List ℕ → List Instruction → Rose TypeLabel → List ℕ
    printed_type levels generated marks (node l ts) =
        prefixes generated marks l ++ type_of M levels l.form (printed_parts (level_of_parts levels l.form) (parts_of l.form) ts)

    -- The parts with these types.
    pub printed_parts : ℕ → List Component → Roses TypeLabel → List (List ℕ)
    printed_parts levels parts none = []
    printed_parts levels parts (more t ts) =
        elim parts [
          | [] ↦ []
          | part ∷ others ↦ with_type M part t (printed_type levels part.identifier part.marks t) ∷ printed_parts levels others ts
        ]

  -- An assignment (clause 16.1) on lines of its own.
  abbrev pub printed_assignment : Assignment → List ℕ
  printed_assignment a = a.reference ++ codes " ::= " ++ printed_type 0 a.reference a.marks a.body ++ codes "\n"

-- The name and the defaults of the module (clause 13).
abbrev pub opening : List ℕ
opening = codes "Schema-Set DEFINITIONS XER INSTRUCTIONS AUTOMATIC TAGS ::= BEGIN\n"

-- What holds of all types (clause 54, and GLOBAL-DEFAULTS of X.693).
abbrev pub closing : List ℕ
closing =
    codes "ENCODING-CONTROL XER\n"
    ++ codes "    GLOBAL-DEFAULTS MODIFIED-ENCODINGS\n"
    ++ codes "    GLOBAL-DEFAULTS CONTROL-NAMESPACE \"http://www.w3.org/2001/XMLSchema-instance\" PREFIX \"xsi\"\n"
    ++ codes "END\n"

abbrev pub printed : List Assignment → List ℕ
printed M = opening ++ flat_map (printed_assignment M) M ++ closing
