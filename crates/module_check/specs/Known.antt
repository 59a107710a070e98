-- The contents of the tables over all assignments.
use Rattle.std.specs.Prelude.{◌≡◌, ℕ, Bool, true, false, Option, Some, None, List, [], ◌∷◌, map, slice_get, is_some, bytes_eq, if◌then◌else◌}
use Rattle.simple_types.specs.declared.simples.Simple.{Simple}
use Rattle.asn_types.specs.Refs.{is_element}
use Rattle.base_trees.specs.Rose.{Rose, label_of}
use Rattle.indexmap.specs.IndexMap.{get}
use Rattle.module_text.specs.declared.types.PlainPart.{PlainPart}
use Rattle.module_text.specs.declared.types.PlainLabel.{PlainLabel}
use Rattle.module_text.specs.declared.modules.PlainAssignment.{PlainAssignment}
use Rattle.module_text.specs.declared.spots.Spot.TheVariants.{Elsewhere}
use Rattle.module_text.specs.Resolving.{role_of, number_of, near_references, chains_within}
use Rattle.module_text.specs.Simple.{simple_told}
use Rattle.module_pieces.specs.Indexed.{EachOf, AreIndexes}
use Rattle.module_simple.specs.Made.{Makes}
use Rattle.module_check.specs.declared.references.References.{References}
use Rattle.module_check.specs.declared.orders.Content.{Content}
use Rattle.module_check.specs.Elements.{elements_told, content_of}

-- The table has the number of the first assignment with each reference, and the index of the type of each assignment.
pub record Knows (table : References) (P : List PlainAssignment) : Type 0 where
  pub numbers : (reference : List ℕ) → get bytes_eq table.numbers reference ≡ number_of P reference
  pub indexes : AreIndexes table.indexes.items P

-- The numbers after one more reference. A reference that is already there keeps its number.
abbrev pub NotesReference : (List ℕ → Option ℕ) → List ℕ → ℕ → (List ℕ → Option ℕ) → Type 0
NotesReference old reference i new =
    (r : List ℕ) → new r ≡ (if is_some (old reference) then old r else (if bytes_eq reference r then Some i else old r))

-- There is the simple type that the type of each assignment represents.
abbrev pub AreSimples : List (Option Simple) → List PlainAssignment → Type 0
AreSimples [] [] = Unit {0}
AreSimples [] (a ∷ P) = ⊥
AreSimples (found ∷ simples) [] = ⊥
AreSimples (found ∷ simples) (a ∷ P) = Makes found (simple_told Elsewhere a.body) × AreSimples simples P

-- There are the elements of the type of each assignment, if the type may be a content.
abbrev pub AreContents : List Content → List PlainAssignment → Type 0
AreContents contents P = EachOf (λ c (a : PlainAssignment). elements_told c ≡ content_of (label_of a.body)) contents P

-- A reference leads on within a number of references. `within` states of each assignment whether its type leads on within one less.
abbrev pub leads_in : Option (List Bool) → List PlainAssignment → List ℕ → Bool
leads_in None P reference = false
leads_in (Some within) P reference = elim (number_of P reference) [ None ↦ true | Some k ↦ elim (slice_get within k) [ None ↦ true | Some is ↦ is ] ]

-- The part has the role of an element, or the condition holds of each reference that its type reaches without passing such a part.
abbrev pub near_part : (List ℕ → Bool) → PlainLabel → ℕ → PlainPart → Rose PlainLabel → Bool
near_part is l i part t = if is_element (role_of l i part) then true else near_references is t

-- The list states of each assignment whether at most n references follow one another from its type.
abbrev pub all_within : ℕ → List PlainAssignment → List Bool
all_within n P = map (λ (a : PlainAssignment). chains_within P n a.body) P
