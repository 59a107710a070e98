-- Types and values that are nested too deep: those with 1,024 others of their kind around them.
use Rattle.std.specs.Prelude.{ℕ, zero, suc, ◌+◌, ◌-◌, List, [], ◌∷◌, ◌++◌, length}
use Rattle.std.specs.List.{flat_map}
use Rattle.base_trees.specs.Rose.{Rose, node, Roses, none, more}
use Rattle.module_text.specs.declared.marks.TypeMark.{TypeMark}
use Rattle.module_text.specs.declared.values.PlainValueLabel.{PlainValueLabel}
use Rattle.module_text.specs.declared.values.Absence.{Absence}
use Rattle.module_text.specs.declared.values.Absence.TheVariants as absence
use Rattle.module_text.specs.declared.types.PlainPart.{PlainPart}
use Rattle.module_text.specs.declared.types.PlainLabel.{PlainLabel}
use Rattle.module_text.specs.declared.modules.PlainAssignment.{PlainAssignment}
use Rattle.module_text.specs.Texts.{type_mark_text, parts_of}
use Rattle.module_text.specs.Plain.{limit}

-- Where a node begins, and the end of the bytes that show it. A value or a type is shown by its first byte. A type with
-- instructions of its own is shown by the first of these up to its bracket. An instruction of a part may begin with the same bytes.
pub record Start : Type 0 where
  pub at : ℕ
  pub told : ℕ

abbrev pub type_told : ℕ → List TypeMark → ℕ
type_told at [] = at + 1
type_told at (m ∷ ms) = at + (length (type_mark_text m.kind) - 1)

abbrev pub type_start : PlainLabel → Start
type_start l = record { at = l.at; told = type_told l.at l.marks }

abbrev pub value_start : PlainValueLabel → Start
value_start l = record { at = l.at; told = l.at + 1 }

-- The nested values with this number of others around them, in their order.
abbrev mutual
  pub deep_values : ℕ → Rose PlainValueLabel → List Start
  deep_values d (node l vs) = elim d [ zero ↦ value_start l ∷ [] | suc e ↦ deep_in_values e vs ]

  pub deep_in_values : ℕ → Roses PlainValueLabel → List Start
  deep_in_values d none = []
  deep_in_values d (more v vs) = deep_values d v ++ deep_in_values d vs

abbrev pub deep_default : Absence → List Start
deep_default absence.Never = []
deep_default absence.Optional = []
deep_default (absence.Default v) = deep_values limit v

-- The types with this number of others around them, and the values of parts, in their order.
abbrev mutual
  pub deep_types : ℕ → Rose PlainLabel → List Start
  deep_types d (node l ts) = elim d [ zero ↦ type_start l ∷ [] | suc e ↦ deep_in_parts e (parts_of l.form) ts ]

  pub deep_in_parts : ℕ → List PlainPart → Roses PlainLabel → List Start
  deep_in_parts d parts none = []
  deep_in_parts d parts (more t ts) =
      elim parts [
        | [] ↦ []
        | part ∷ others ↦ deep_types d t ++ deep_default part.absence ++ deep_in_parts d others ts
      ]

abbrev pub too_deep : List PlainAssignment → List Start
too_deep assignments = flat_map (λ a. deep_types limit a.body) assignments
