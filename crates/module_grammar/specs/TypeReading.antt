-- Reading types at the beginning of bytes, on lines of one level of indentation, with a greatest nesting depth.
use mathlib.Core.Logic.{inl, inr}
use Rattle.std.specs.Prelude.{ℕ, zero, suc, ◌⊎◌, Option, None, List, [], ◌++◌, map, codes, bytes_eq, if◌then◌else◌}
use Rattle.base_trees.specs.Rose.{Rose, node, Roses, none, more, roses_of}
use Rattle.module_print.specs.Notation.{new_line}
use Rattle.simple_types.specs.declared.simples.Class.{Class}
use Rattle.module_grammar.specs.Reading.{Reader, word_at, byte_at, nothing_at, then_at, or_at, as_at, behind_at, before_at, sunk_at}
use Rattle.module_text.specs.Names.{is_capital}
use Rattle.module_text.specs.declared.bounds.PlainNumber.{PlainNumber}
use Rattle.module_text.specs.declared.bounds.PlainEnds.{PlainEnds}
use Rattle.module_text.specs.declared.bounds.PlainRange.{PlainRange}
use Rattle.module_text.specs.declared.marks.PartMark.{PartMark}
use Rattle.module_text.specs.declared.marks.TypeMark.{TypeMark}
use Rattle.module_text.specs.declared.marks.TypeMarkKind.{TypeMarkKind}
use Rattle.module_text.specs.declared.values.PlainOctets.{PlainOctets}
use Rattle.module_text.specs.declared.values.Absence.{Absence}
use Rattle.module_text.specs.declared.values.Absence.TheVariants as absence
use Rattle.module_text.specs.declared.types.NumberedItem.{NumberedItem}
use Rattle.module_text.specs.declared.types.PlainName.{PlainName}
use Rattle.module_text.specs.declared.types.PlainPart.{PlainPart}
use Rattle.module_text.specs.declared.types.PlainForm.{PlainForm}
use Rattle.module_text.specs.declared.types.PlainForm.TheVariants as form
use Rattle.module_text.specs.declared.types.PlainLabel.{PlainLabel}
use Rattle.module_grammar.specs.NameReading.{identifier_at, plain_identifier_at, reference_at, name_here, number_at}
use Rattle.module_grammar.specs.BoundReading.{number_range_at, size_at, class_at, fixed_at}
use Rattle.module_grammar.specs.MarkReading.{part_marks_at, type_marks_at, own_mark_at}
use Rattle.module_grammar.specs.ValueReading.{listed_at, absence_at}

abbrev pub Typed : Type 0
Typed = Rose PlainLabel

abbrev pub TypedPart : Type 0
TypedPart = PlainPart × Typed

-- ---- parts, with a reader of their types

abbrev pub label_at : Reader (List ℕ)
label_at = before_at identifier_at (codes " ")

abbrev pub component_of : ℕ → List ℕ × (List PartMark × (Typed × (Option PlainOctets × Absence))) → TypedPart
component_of place x = (record { at = place; identifier = x.0; marks = x.1.0; fixed = x.1.1.1.0; absence = x.1.1.1.1 }, x.1.1.0)

-- What follows the type of a component. At most `most` values are nested.
abbrev pub ending_at : ℕ → Reader (Option PlainOctets × Absence)
ending_at most = then_at fixed_at (absence_at most)

abbrev pub component_at : ℕ → Reader Typed → Reader TypedPart
component_at most type = as_at component_of (then_at label_at (λ name. then_at part_marks_at (λ marks. then_at type (λ t. ending_at most))))

abbrev pub bare_of : ℕ → List ℕ × (List PartMark × Typed) → TypedPart
bare_of place x = (record { at = place; identifier = x.0; marks = x.1.0; fixed = None; absence = absence.Never }, x.1.1)

abbrev pub alternative_at : Reader Typed → Reader TypedPart
alternative_at type = as_at bare_of (then_at label_at (λ name. then_at part_marks_at (λ marks. type)))

abbrev pub label_or_none : ℕ → List ℕ ⊎ Unit {0} → List ℕ
label_or_none place (inl name) = name
label_or_none place (inr x) = []

abbrev pub item_label_at : Reader (List ℕ)
item_label_at = as_at label_or_none (or_at label_at nothing_at)

abbrev pub item_at : Reader Typed → Reader TypedPart
item_at type = as_at bare_of (then_at item_label_at (λ name. then_at part_marks_at (λ marks. type)))

-- ---- blocks of parts, each on a line of its own

abbrev pub opening : ℕ → List ℕ
opening levels = codes " {" ++ new_line (suc levels)

abbrev pub between : ℕ → List ℕ
between levels = codes "," ++ new_line (suc levels)

abbrev pub closing : ℕ → List ℕ
closing levels = new_line levels ++ codes "}"

abbrev pub block_at : ℕ → Reader TypedPart → Reader (List TypedPart)
block_at levels part = behind_at (opening levels) (before_at (listed_at (between levels) part) (closing levels))

-- ---- items of an ENUMERATED

abbrev pub numbered_of : ℕ → PlainName × PlainNumber → NumberedItem
numbered_of place x = record { identifier = x.0; number = x.1 }

abbrev pub numbered_at : Reader NumberedItem
numbered_at = as_at numbered_of (then_at (before_at plain_identifier_at (codes "(")) (λ name. before_at number_at (codes ")")))

abbrev pub enumerated_at : {A : Type 0} → Reader A → Reader (List A)
enumerated_at item = behind_at (codes " { ") (before_at (listed_at (codes ", ") item) (codes " }"))

-- ---- what follows a word, with the word

abbrev pub Form : Type 0
Form = PlainForm × Roses PlainLabel

abbrev pub kids_of : List TypedPart → Roses PlainLabel
kids_of parts = roses_of (map (λ (x : TypedPart). x.1) parts)

abbrev pub parts_of : List TypedPart → List PlainPart
parts_of parts = map (λ (x : TypedPart). x.0) parts

pub data Word : Type 0 where
  Boolean : Word
  Integer : Word
  Utf8String : Word
  Enumerated : Word
  Sequence : Word
  Choice : Word
  Other : Word

abbrev pub word_of : List ℕ → Word
word_of name =
    if bytes_eq name (codes "BOOLEAN") then Boolean
    else (if bytes_eq name (codes "INTEGER") then Integer
    else (if bytes_eq name (codes "UTF8String") then Utf8String
    else (if bytes_eq name (codes "ENUMERATED") then Enumerated
    else (if bytes_eq name (codes "SEQUENCE") then Sequence
    else (if bytes_eq name (codes "CHOICE") then Choice
    else Other)))))

abbrev pub bool_of : ℕ → Unit {0} → Form
bool_of place x = (form.Bool, none)

abbrev pub reference_of : PlainName → ℕ → Unit {0} → Form
reference_of word place x = (form.Ref word, none)

abbrev pub int_of : ℕ → Option PlainRange → Form
int_of place r = (form.Int r, none)

abbrev pub text_of : ℕ → Option PlainEnds × Class → Form
text_of place x = (form.Utf8 x.0 x.1, none)

abbrev pub enumerated_of : PlainName → ℕ → List NumberedItem ⊎ (List PlainName ⊎ Unit {0}) → Form
enumerated_of word place (inl items) = (form.Numbers items, none)
enumerated_of word place (inr (inl names)) = (form.Words names, none)
enumerated_of word place (inr (inr x)) = (form.Ref word, none)

abbrev pub choice_of : PlainName → ℕ → List TypedPart ⊎ Unit {0} → Form
choice_of word place (inl parts) = (form.Choice (parts_of parts), kids_of parts)
choice_of word place (inr x) = (form.Ref word, none)

abbrev pub sequence_of_at : Reader Typed → Reader (Option PlainEnds × TypedPart)
sequence_of_at here = then_at size_at (λ size. behind_at (codes " OF ") (item_at here))

abbrev pub sequence_of : PlainName → ℕ → Unit {0} ⊎ (List TypedPart ⊎ ((Option PlainEnds × TypedPart) ⊎ Unit {0})) → Form
sequence_of word place (inl x) = (form.Sequence [], none)
sequence_of word place (inr (inl parts)) = (form.Sequence (parts_of parts), kids_of parts)
sequence_of word place (inr (inr (inl x))) = (form.SequenceOf x.0 x.1.0, more x.1.1 none)
sequence_of word place (inr (inr (inr x))) = (form.Ref word, none)

-- The form that follows a word, with readers of types on lines of this level, and of the next.
abbrev pub tail_at : ℕ → ℕ → Reader Typed → Reader Typed → PlainName → Word → Reader Form
tail_at most levels here inside word Boolean = as_at bool_of nothing_at
tail_at most levels here inside word Integer = as_at int_of number_range_at
tail_at most levels here inside word Utf8String = as_at text_of (then_at size_at (λ size. class_at))
tail_at most levels here inside word Enumerated = as_at (enumerated_of word) (or_at (enumerated_at numbered_at) (or_at (enumerated_at plain_identifier_at) nothing_at))
tail_at most levels here inside word Sequence =
    as_at (sequence_of word)
    (or_at (word_at (codes " {}")) (or_at (block_at levels (component_at most inside)) (or_at (sequence_of_at here) nothing_at)))
tail_at most levels here inside word Choice = as_at (choice_of word) (or_at (block_at levels (alternative_at inside)) nothing_at)
tail_at most levels here inside word Other = as_at (reference_of word) nothing_at

abbrev pub plain_reference_at : Reader PlainName
plain_reference_at = as_at name_here reference_at

abbrev pub form_of : ℕ → PlainName × Form → Form
form_of place x = x.1

abbrev pub form_at : ℕ → ℕ → Reader Typed → Reader Typed → Reader Form
form_at most levels here inside = as_at form_of (then_at plain_reference_at (λ word. tail_at most levels here inside word (word_of word.name)))

abbrev pub typed_of : ℕ → List TypeMark × Form → Typed
typed_of place x = node (record { at = place; marks = x.0; form = x.1.0 }) x.1.1

abbrev pub typed_at : ℕ → ℕ → Reader Typed → Reader Typed → Reader Typed
typed_at most levels here inside = as_at typed_of (then_at type_marks_at (λ marks. form_at most levels here inside))

-- A type is shown by its first instruction, or else by the first letter of its word.
abbrev pub start_at : Reader (TypeMarkKind ⊎ ℕ)
start_at = or_at own_mark_at (byte_at is_capital)

abbrev pub type_at : ℕ → ℕ → ℕ → Reader Typed
type_at most zero levels = sunk_at start_at
type_at most (suc depth) levels = typed_at most levels (type_at most depth levels) (type_at most depth (suc levels))
