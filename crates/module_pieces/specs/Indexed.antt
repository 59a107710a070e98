-- What an index knows of a type.
use Rattle.std.specs.Prelude.{◌≡◌, ℕ, Bool, true, false, Option, Some, None, List, [], ◌∷◌, slice_get, position, is_some, bytes_eq, if◌then◌else◌}
use Rattle.std.specs.Option.{option_map}
use Rattle.indexmap.specs.IndexMap.{get}
use Rattle.base_trees.specs.Rose.{Rose, node, Roses, none, more, label_of}
use Rattle.module_text.specs.declared.types.NumberedItem.{NumberedItem}
use Rattle.module_text.specs.declared.types.PlainName.{PlainName}
use Rattle.module_text.specs.declared.types.PlainPart.{PlainPart}
use Rattle.module_text.specs.declared.types.PlainForm.{PlainForm}
use Rattle.module_text.specs.declared.types.PlainForm.TheVariants as form
use Rattle.module_text.specs.declared.types.PlainLabel.{PlainLabel}
use Rattle.module_text.specs.declared.modules.PlainAssignment.{PlainAssignment}
use Rattle.module_text.specs.Told.{words_of, has_list, has_use_union}
use Rattle.module_pieces.specs.declared.indexes.Index.{Index}

-- The place of the first item or alternative with this identifier.
abbrev pub place_in : PlainForm → List ℕ → Option ℕ
place_in (form.Numbers items) identifier = position (λ (i : NumberedItem). bytes_eq i.identifier.name identifier) items
place_in (form.Words identifiers) identifier = position (λ (i : PlainName). bytes_eq i.name identifier) identifiers
place_in (form.Choice parts) identifier = position (λ (p : PlainPart). bytes_eq p.identifier identifier) parts
place_in _ identifier = None

-- The words that the items of an ENUMERATED represent.
abbrev pub words_in : PlainLabel → List (List ℕ)
words_in l = elim l.form [ form.Words identifiers ↦ words_of l.marks identifiers | _ ↦ [] ]

-- The index has the place of each identifier, and the words.
pub record IsIndex (index : Index) (l : PlainLabel) : Type 0 where
  pub places : (identifier : List ℕ) → get bytes_eq index.places identifier ≡ place_in l.form identifier
  pub words : index.words.items ≡ words_in l

-- Each type nested in a type has its index, which has its identifiers and words.
abbrev mutual
  pub Indexes : Rose Index → Rose PlainLabel → Type 0
  Indexes (node index indexes) (node l ts) = IsIndex index l × IndexAll indexes ts

  pub IndexAll : Roses Index → Roses PlainLabel → Type 0
  IndexAll none none = Unit {0}
  IndexAll none (more t ts) = ⊥
  IndexAll (more index indexes) none = ⊥
  IndexAll (more index indexes) (more t ts) = Indexes index t × IndexAll indexes ts

-- Values at a type with this label may name items or alternatives: it is an ENUMERATED, a union or a list.
abbrev pub may_name : PlainLabel → Bool
may_name l = elim l.form [
  | form.Numbers items ↦ true
  | form.Words identifiers ↦ true
  | form.Choice parts ↦ has_use_union l.marks
  | form.SequenceOf size item ↦ has_list l.marks
  | _ ↦ false
]

-- The index of a type whose values may name items or alternatives. Other types have none.
abbrev pub IsKept : Option (Rose Index) → Rose PlainLabel → Type 0
IsKept None t = may_name (label_of t) ≡ false
IsKept (Some index) t = (may_name (label_of t) ≡ true) × Indexes index t

-- There is one thing for each assignment, and `Is` holds of it.
abbrev pub EachOf : {X : Type 0} → (X → PlainAssignment → Type 0) → List X → List PlainAssignment → Type 0
EachOf Is [] [] = Unit {0}
EachOf Is [] (a ∷ P) = ⊥
EachOf Is (x ∷ xs) [] = ⊥
EachOf Is (x ∷ xs) (a ∷ P) = Is x a × EachOf Is xs P

-- There is the index of the type of each assignment.
abbrev pub AreIndexes : List (Option (Rose Index)) → List PlainAssignment → Type 0
AreIndexes indexes P = EachOf (λ kept (a : PlainAssignment). IsKept kept a.body) indexes P

-- ---- as the code builds them

-- The places after one more identifier. An identifier that is already there keeps its place.
abbrev pub Notes : (List ℕ → Option ℕ) → List ℕ → ℕ → (List ℕ → Option ℕ) → Type 0
Notes old identifier i new =
    (r : List ℕ) → new r ≡ (if is_some (old identifier) then old r else (if bytes_eq identifier r then Some i else old r))

-- The number of the item at a place, as it is written.
abbrev pub number_at : List NumberedItem → Option ℕ → Option (List ℕ)
number_at items None = None
number_at items (Some i) = option_map (λ (item : NumberedItem). item.number.written) (slice_get items i)
