-- Where in the text of a type the first node begins that is nested too deep, and what shows it. The node is a type or a value with
-- this number of others around it. A type is shown by its first encoding instruction up to the bracket, or else by the first letter
-- of its word.
use Rattle.std.specs.Prelude.{ℕ, zero, suc, ◌-◌, Option, Some, None, List, [], ◌∷◌, ◌++◌, length, codes}
use Rattle.std.specs.Option.{option_map}
use Rattle.base_trees.specs.Rose.{node, Roses, none, more, list_of}
use Rattle.module_grammar.specs.Shapes.{Sunk, moved, deeper, shifted, each_deep}
use Rattle.module_text.specs.declared.marks.TypeMark.{TypeMark}
use Rattle.module_text.specs.declared.types.PlainPart.{PlainPart}
use Rattle.module_text.specs.declared.types.PlainForm.{PlainForm}
use Rattle.module_text.specs.declared.types.PlainForm.TheVariants as form
use Rattle.module_text.specs.declared.types.PlainLabel.{PlainLabel}
use Rattle.module_text.specs.Texts.{type_mark_text, part_marks_text, type_marks_text, size_text, fixed_text, part_text, type_text, assignment_text}
use Rattle.module_text.specs.declared.modules.PlainAssignment.{PlainAssignment}
use Rattle.module_grammar.specs.TypeReading.{Typed, TypedPart, opening, between}
use Rattle.module_grammar.specs.Depth.{first_node, listed_deep, absence_deep}
use Rattle.module_print.specs.Printed.{labelled, opening as start}

abbrev pub start_told : List TypeMark → ℕ
start_told [] = 1
start_told (m ∷ ms) = length (type_mark_text m.kind) - 1

-- Parts with their types.
abbrev pub paired : List PlainPart → List Typed → List TypedPart
paired [] types = []
paired (part ∷ parts) [] = []
paired (part ∷ parts) (t ∷ types) = (part, t) ∷ paired parts types

abbrev pub typed_part_text : ℕ → TypedPart → List ℕ
typed_part_text levels x = part_text x.0 (part_marks_text x.0.marks ++ type_text levels x.1)

-- The node in parts, where `deep` gives the node in a type.
module _ (most levels : ℕ) (deep : Typed → Option Sunk) where
  -- The node in a part whose type is on lines of this level.
  abbrev pub part_deep : TypedPart → Option Sunk
  part_deep x = option_map (moved (length (labelled x.0.identifier)))
      (option_map (moved (length (part_marks_text x.0.marks)))
      (deeper (length (type_text levels x.1)) (deep x.1) (option_map (moved (length (fixed_text x.0.fixed))) (absence_deep most x.0.absence))))

-- The node in a block, after the word.
abbrev pub block_deep : ℕ → ℕ → (Typed → Option Sunk) → List PlainPart → Roses PlainLabel → Option Sunk
block_deep most levels deep parts types = shifted (opening levels) (listed_deep (between levels) (typed_part_text (suc levels)) (part_deep most (suc levels) deep)) (paired parts (list_of types))

abbrev pub item_deep : ℕ → ℕ → (Typed → Option Sunk) → PlainPart → Roses PlainLabel → Option Sunk
item_deep most levels deep part none = None
item_deep most levels deep part (more t types) = part_deep most levels deep (part, t)

-- The node in a form, after its word.
abbrev pub tail_deep : ℕ → ℕ → (Typed → Option Sunk) → (Typed → Option Sunk) → PlainForm → Roses PlainLabel → Option Sunk
tail_deep most levels here inside (form.Sequence parts) types = block_deep most levels inside parts types
tail_deep most levels here inside (form.Choice parts) types = block_deep most levels inside parts types
tail_deep most levels here inside (form.SequenceOf size part) types = option_map (moved (length (size_text size))) (option_map (moved 4) (item_deep most levels here part types))
tail_deep most levels here inside _ types = None

abbrev pub form_word : PlainForm → List ℕ
form_word form.Bool = codes "BOOLEAN"
form_word (form.Int r) = codes "INTEGER"
form_word (form.Numbers items) = codes "ENUMERATED"
form_word (form.Words names) = codes "ENUMERATED"
form_word (form.Utf8 size class) = codes "UTF8String"
form_word (form.Sequence parts) = codes "SEQUENCE"
form_word (form.Choice parts) = codes "CHOICE"
form_word (form.SequenceOf size part) = codes "SEQUENCE"
form_word (form.Ref reference) = reference.name

abbrev pub form_deep : ℕ → ℕ → (Typed → Option Sunk) → (Typed → Option Sunk) → PlainForm → Roses PlainLabel → Option Sunk
form_deep most levels here inside f types = option_map (moved (length (form_word f))) (tail_deep most levels here inside f types)

abbrev pub type_deep : ℕ → ℕ → ℕ → Typed → Option Sunk
type_deep most zero levels (node l types) = Some (first_node (start_told l.marks))
type_deep most (suc depth) levels (node l types) = option_map (moved (length (type_marks_text l.marks))) (form_deep most levels (type_deep most depth levels) (type_deep most depth (suc levels)) l.form types)

-- ---- of assignments, and of a module

abbrev pub assignment_deep : ℕ → PlainAssignment → Option Sunk
assignment_deep most a = option_map (moved (length (a.reference ++ codes " ::= "))) (option_map (moved (length (part_marks_text a.marks))) (type_deep most most 0 a.body))

abbrev pub module_deep : ℕ → List PlainAssignment → Option Sunk
module_deep most assignments = option_map (moved (length start)) (each_deep assignment_text (assignment_deep most) assignments)
