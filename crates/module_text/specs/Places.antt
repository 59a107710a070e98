-- The place of each thing in a text: its first byte.
use Rattle.std.specs.Prelude.{◌≡◌, ℕ, zero, suc, ◌+◌, Option, List, [], ◌∷◌, ◌++◌, length, codes}
use Rattle.std.specs.Option.{option_map}
use Rattle.base_trees.specs.Rose.{Rose, node, Roses, none, more}
use Rattle.module_print.specs.Notation.{new_line}
use Rattle.module_print.specs.Printed.{labelled, opening}
use Rattle.module_text.specs.declared.bounds.PlainNumber.{PlainNumber}
use Rattle.module_text.specs.declared.bounds.PlainEnds.{PlainEnds}
use Rattle.module_text.specs.declared.bounds.PlainEnds.TheVariants as ends
use Rattle.module_text.specs.declared.bounds.PlainRange.{PlainRange}
use Rattle.module_text.specs.declared.bounds.PlainRange.TheVariants as range
use Rattle.module_text.specs.declared.marks.PartMark.{PartMark}
use Rattle.module_text.specs.declared.marks.TypeMark.{TypeMark}
use Rattle.module_text.specs.declared.values.PlainValue.{PlainValue}
use Rattle.module_text.specs.declared.values.PlainValue.TheVariants as value
use Rattle.module_text.specs.declared.values.PlainValueLabel.{PlainValueLabel}
use Rattle.module_text.specs.declared.values.PlainOctets.{PlainOctets}
use Rattle.module_text.specs.declared.values.Absence.{Absence}
use Rattle.module_text.specs.declared.values.Absence.TheVariants as absence
use Rattle.module_text.specs.declared.types.NumberedItem.{NumberedItem}
use Rattle.module_text.specs.declared.types.PlainName.{PlainName}
use Rattle.module_text.specs.declared.types.PlainPart.{PlainPart}
use Rattle.module_text.specs.declared.types.PlainForm.{PlainForm}
use Rattle.module_text.specs.declared.types.PlainForm.TheVariants as form
use Rattle.module_text.specs.declared.types.PlainLabel.{PlainLabel}
use Rattle.module_text.specs.declared.modules.PlainAssignment.{PlainAssignment}
use Rattle.module_text.specs.Texts.{part_mark_text, type_mark_text, part_marks_text, type_marks_text, value_text, fixed_text, item_text, parts_of, level_of_parts, form_text, part_text, type_text, assignment_text}

-- The place after these bytes.
abbrev pub behind : List ℕ → ℕ → ℕ
behind text at = at + length text

-- ---- bounds

abbrev pub placed_number : ℕ → PlainNumber → PlainNumber
placed_number at n = record n { at = at }

abbrev pub placed_ends : ℕ → PlainEnds → PlainEnds
placed_ends at (ends.One number) = ends.One (placed_number at number)
placed_ends at (ends.Both least greatest) = ends.Both (placed_number at least) (placed_number (behind (least.written ++ codes "..") at) greatest)
placed_ends at (ends.From least max_at) = ends.From (placed_number at least) (behind (least.written ++ codes "..") at)

abbrev pub placed_range : ℕ → PlainRange → PlainRange
placed_range at (range.Ends e) = range.Ends (placed_ends at e)
placed_range at (range.To greatest) = range.To (placed_number (behind (codes "MIN..") at) greatest)

-- The constraint after the word INTEGER, and the one after UTF8String or SEQUENCE.
abbrev pub placed_number_range : ℕ → Option PlainRange → Option PlainRange
placed_number_range at r = option_map (placed_range (behind (codes " (") at)) r

abbrev pub placed_size : ℕ → Option PlainEnds → Option PlainEnds
placed_size at size = option_map (placed_ends (behind (codes " (SIZE (") at)) size

-- ---- encoding instructions

abbrev pub placed_part_marks : ℕ → List PartMark → List PartMark
placed_part_marks at [] = []
placed_part_marks at (m ∷ ms) = record m { at = at } ∷ placed_part_marks (behind (part_mark_text m.kind) at) ms

abbrev pub placed_type_marks : ℕ → List TypeMark → List TypeMark
placed_type_marks at [] = []
placed_type_marks at (m ∷ ms) = record m { at = at } ∷ placed_type_marks (behind (type_mark_text m.kind) at) ms

-- ---- values

-- The place where the nested values begin: after `{ `, or after the alternative and ` : `.
abbrev pub inside : ℕ → PlainValue → ℕ
inside at (value.Chosen identifier) = behind (identifier ++ codes " : ") at
inside at _ = behind (codes "{ ") at

abbrev mutual
  pub placed_value : ℕ → Rose PlainValueLabel → Rose PlainValueLabel
  placed_value at (node l vs) = node (record l { at = at }) (placed_values (inside at l.value) vs)

  -- Values with `, ` between each two.
  pub placed_values : ℕ → Roses PlainValueLabel → Roses PlainValueLabel
  placed_values at none = none
  placed_values at (more v vs) = more (placed_value at v) (placed_values (behind (value_text v ++ codes ", ") at) vs)

-- The fixed value after the type of a part.
abbrev pub placed_fixed : ℕ → Option PlainOctets → Option PlainOctets
placed_fixed at fixed = option_map (λ (octets : PlainOctets). record octets { at = behind (codes " (CONSTRAINED BY {/* fixed ") at }) fixed

abbrev pub placed_absence : ℕ → Absence → Absence
placed_absence at (absence.Default v) = absence.Default (placed_value (behind (codes " DEFAULT ") at) v)
placed_absence at absence.Optional = absence.Optional
placed_absence at absence.Never = absence.Never

-- ---- types

abbrev pub placed_name : ℕ → PlainName → PlainName
placed_name at i = record i { at = at }

abbrev pub placed_item : ℕ → NumberedItem → NumberedItem
placed_item at item =
    record { identifier = placed_name at item.identifier; number = placed_number (behind (item.identifier.name ++ codes "(") at) item.number }

-- Items with `, ` between each two.
abbrev pub placed_items : ℕ → List NumberedItem → List NumberedItem
placed_items at [] = []
placed_items at (item ∷ items) = placed_item at item ∷ placed_items (behind (item_text item ++ codes ", ") at) items

abbrev pub placed_names : ℕ → List PlainName → List PlainName
placed_names at [] = []
placed_names at (i ∷ is) = placed_name at i ∷ placed_names (behind (i.name ++ codes ", ") at) is

-- The place of the type of a part that begins here: after its identifier and its instructions. The fixed value and the absence
-- follow the type.
abbrev pub type_at : ℕ → PlainPart → ℕ
type_at at part = behind (part_marks_text part.marks) (behind (labelled part.identifier) at)

abbrev pub placed_part : ℕ → PlainPart → List ℕ → PlainPart
placed_part at part type = record {
  at = at;
  identifier = part.identifier;
  marks = placed_part_marks (behind (labelled part.identifier) at) part.marks;
  fixed = placed_fixed (behind type (type_at at part)) part.fixed;
  absence = placed_absence (behind (fixed_text part.fixed) (behind type (type_at at part))) part.absence;
}

-- The place of the first part of a form that begins here: after the opening brace and a new line, or after ` OF `. The form of a
-- type begins after its instructions.
abbrev pub parts_at : ℕ → ℕ → PlainForm → ℕ
parts_at levels at (form.Sequence components) = behind (codes "SEQUENCE {" ++ new_line (suc levels)) at
parts_at levels at (form.Choice alternatives) = behind (codes "CHOICE {" ++ new_line (suc levels)) at
parts_at levels at (form.SequenceOf size item) = behind (form_text levels (form.SequenceOf size item) []) at
parts_at levels at _ = at

-- The place of the next part: after the part, a comma and a new line.
abbrev pub next_at : ℕ → ℕ → List ℕ → ℕ
next_at levels at part = behind (part ++ codes "," ++ new_line levels) at

-- The parts, with the texts of their types.
abbrev pub placed_parts : ℕ → ℕ → List PlainPart → List (List ℕ) → List PlainPart
placed_parts levels at [] types = []
placed_parts levels at (part ∷ parts) [] = part ∷ parts
placed_parts levels at (part ∷ parts) (type ∷ types) =
    placed_part at part type
    ∷ placed_parts levels (next_at levels at (part_text part (part_marks_text part.marks ++ type))) parts types

abbrev pub type_texts : ℕ → Roses PlainLabel → List (List ℕ)
type_texts levels none = []
type_texts levels (more t ts) = type_text levels t ∷ type_texts levels ts

-- The form, which begins here, of a type on a line of this level of indentation. `types` has the texts of the types of its parts.
abbrev pub placed_form : ℕ → ℕ → PlainForm → List (List ℕ) → PlainForm
placed_form levels at form.Bool types = form.Bool
placed_form levels at (form.Int r) types = form.Int (placed_number_range (behind (codes "INTEGER") at) r)
placed_form levels at (form.Numbers numbered) types = form.Numbers (placed_items (behind (codes "ENUMERATED { ") at) numbered)
placed_form levels at (form.Words identifiers) types = form.Words (placed_names (behind (codes "ENUMERATED { ") at) identifiers)
placed_form levels at (form.Utf8 size class) types = form.Utf8 (placed_size (behind (codes "UTF8String") at) size) class
placed_form levels at (form.Sequence components) types =
    form.Sequence (placed_parts (suc levels) (parts_at levels at (form.Sequence components)) components types)
placed_form levels at (form.Choice alternatives) types =
    form.Choice (placed_parts (suc levels) (parts_at levels at (form.Choice alternatives)) alternatives types)
placed_form levels at (form.SequenceOf size item) types =
    form.SequenceOf
    (placed_size (behind (codes "SEQUENCE") at) size)
    (elim types [
      | [] ↦ item
      | type ∷ others ↦ placed_part (parts_at levels at (form.SequenceOf size item)) item type
    ])
placed_form levels at (form.Ref reference) types = form.Ref (placed_name at reference)

abbrev mutual
  -- A type that begins here, with its own instructions.
  pub placed_type : ℕ → ℕ → Rose PlainLabel → Rose PlainLabel
  placed_type levels at (node l ts) =
      node
      (record {
        at = at;
        marks = placed_type_marks at l.marks;
        form = placed_form levels (behind (type_marks_text l.marks) at) l.form (type_texts (level_of_parts levels l.form) ts);
      })
      (placed_types
      (level_of_parts levels l.form)
      (parts_at levels (behind (type_marks_text l.marks) at) l.form)
      (parts_of l.form)
      ts)

  -- The types of parts, the first of which begins here.
  pub placed_types : ℕ → ℕ → List PlainPart → Roses PlainLabel → Roses PlainLabel
  placed_types levels at parts none = none
  placed_types levels at parts (more t ts) =
      elim parts [
        | [] ↦ more t ts
        | part ∷ others ↦
            more
            (placed_type levels (type_at at part) t)
            (placed_types levels (next_at levels at (part_text part (part_marks_text part.marks ++ type_text levels t))) others ts)
      ]

-- ---- assignments

abbrev pub placed_assignment : ℕ → PlainAssignment → PlainAssignment
placed_assignment at a = record {
  at = at;
  reference = a.reference;
  marks = placed_part_marks (behind (a.reference ++ codes " ::= ") at) a.marks;
  body = placed_type 0 (behind (part_marks_text a.marks) (behind (a.reference ++ codes " ::= ") at)) a.body;
}

abbrev pub placed_from : ℕ → List PlainAssignment → List PlainAssignment
placed_from at [] = []
placed_from at (a ∷ others) = placed_assignment at a ∷ placed_from (behind (assignment_text a) at) others

-- The first line is the opening.
abbrev pub placed : List PlainAssignment → List PlainAssignment
placed assignments = placed_from (length opening) assignments

-- Each thing has the place where it is in the text.
abbrev pub IsPlaced : List PlainAssignment → Type 0
IsPlaced assignments = placed assignments ≡ assignments
