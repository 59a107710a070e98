-- Encoding instructions of X.693 as type prefixes (X.680, clause 31.3).
use Rattle.std.specs.Prelude.{◌==◌, ℕ, ℤ, Option, Some, None, List, [], ◌∷◌, ◌++◌, slice_get, unwrap_or, codes, if◌then◌else◌}
use Rattle.std.specs.List.{flat_map}
use Rattle.std.specs.Option.{option_map}
use Rattle.std.specs.Fmt.{signed_decimal}
use Rattle.base_texts.specs.declared.white_space.WhiteSpace.{WhiteSpace}
use Rattle.base_texts.specs.declared.white_space.WhiteSpace.TheVariants.{Preserve, Replace, Collapse}
use Rattle.asn_names.specs.declared.restoration.NameForm.{NameForm}
use Rattle.asn_names.specs.declared.restoration.NameForm.TheVariants.{Capitalized, Uncapitalized, Quoted}
use Rattle.asn_names.specs.Restoring.{form_of}
use Rattle.asn_types.specs.declared.marks.Instruction.{Instruction}
use Rattle.asn_types.specs.declared.marks.Instruction.TheVariants as mark
use Rattle.asn_types.specs.declared.types.Form.{Form}
use Rattle.asn_types.specs.declared.types.Form.TheVariants as form
use Rattle.module_print.specs.Notation.{quoted}

-- A name in the form that distinguishes it from the generated name, or in quotation marks if there is no such form.
abbrev pub in_form : Option NameForm → List ℕ → List ℕ
in_form (Some Capitalized) name = codes "CAPITALIZED"
in_form (Some Uncapitalized) name = codes "UNCAPITALIZED"
in_form (Some Quoted) name = quoted name
in_form None name = quoted name

abbrev pub as_name : List ℕ → List ℕ → List ℕ
as_name generated name = codes " AS " ++ in_form (form_of generated name) name

-- The identifier of an item that represents a number.
abbrev pub number_identifier : ℤ → List ℕ
number_identifier z = codes "int" ++ signed_decimal z

-- The identifier of the item of an ENUMERATED with this number, if there is one.
abbrev pub item_identifier : Form → ℕ → Option (List ℕ)
item_identifier (form.Words identifiers words) item = slice_get identifiers item
item_identifier (form.Numbers numbers) item = option_map number_identifier (slice_get numbers item)
item_identifier _ item = None

abbrev pub as_item : List ℕ → List ℕ → List ℕ
as_item identifier text = identifier ++ as_name identifier text

-- The instruction in brackets, with a space after it.
abbrev pub bracketed : List ℕ → List ℕ
bracketed instruction = 91 ∷ instruction ++ codes "] "

abbrev pub name_prefix : List ℕ → List ℕ → List ℕ
name_prefix generated name = bracketed (codes "NAME" ++ as_name generated name)

abbrev pub namespace_prefix : List ℕ → List ℕ
namespace_prefix space = bracketed (codes "NAMESPACE AS " ++ quoted space)

-- Preserving white space needs no instruction.
abbrev pub white_space_prefix : WhiteSpace → List ℕ
white_space_prefix Preserve = []
white_space_prefix Replace = bracketed (codes "WHITESPACE REPLACE")
white_space_prefix Collapse = bracketed (codes "WHITESPACE COLLAPSE")

abbrev pub text_prefix : Form → ℕ → List ℕ → List ℕ
text_prefix f item text = bracketed (codes "TEXT:" ++ as_item (unwrap_or (item_identifier f item) []) text)

-- An instruction of a type of this form, whose part or assignment has this generated name.
abbrev pub instruction : List ℕ → Form → Instruction → List ℕ
instruction generated f mark.Attribute = bracketed (codes "ATTRIBUTE")
instruction generated f mark.Untagged = bracketed (codes "UNTAGGED")
instruction generated f (mark.Name name) = name_prefix generated name
instruction generated f (mark.Namespace space) = namespace_prefix space
instruction generated f mark.UseNil = bracketed (codes "USE-NIL")
instruction generated f mark.EmbedValues = bracketed (codes "EMBED-VALUES")
instruction generated f mark.UseOrder = bracketed (codes "USE-ORDER")
instruction generated f mark.List = bracketed (codes "LIST")
instruction generated f mark.UseUnion = bracketed (codes "USE-UNION")
instruction generated f mark.UseNumber = bracketed (codes "USE-NUMBER")
instruction generated f (mark.WhiteSpace how) = white_space_prefix how
instruction generated f (mark.Text item text) = text_prefix f item text

-- ---- their order

-- The position of an instruction among others.
abbrev pub rank : Instruction → ℕ
rank mark.Attribute = 0
rank mark.Untagged = 1
rank (mark.Name name) = 2
rank (mark.Namespace space) = 3
rank mark.UseNil = 4
rank mark.EmbedValues = 5
rank mark.UseOrder = 6
rank mark.List = 7
rank mark.UseUnion = 8
rank mark.UseNumber = 9
rank (mark.WhiteSpace how) = 10
rank (mark.Text item text) = 11

abbrev pub ranks : List ℕ
ranks = 0 ∷ 1 ∷ 2 ∷ 3 ∷ 4 ∷ 5 ∷ 6 ∷ 7 ∷ 8 ∷ 9 ∷ 10 ∷ 11 ∷ []

abbrev pub if_ranked : List ℕ → Form → ℕ → Instruction → List ℕ
if_ranked generated f place mark = if rank mark == place then instruction generated f mark else []

-- The instructions of one rank, in the order in which they are given.
abbrev pub ranked : List ℕ → Form → List Instruction → ℕ → List ℕ
ranked generated f marks place = flat_map (if_ranked generated f place) marks

-- All instructions, in the order of their ranks.
abbrev pub instructions : List ℕ → Form → List Instruction → List ℕ
instructions generated f marks = flat_map (ranked generated f marks) ranks
