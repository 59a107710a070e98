-- The first fault of a schema document: the least place with a reason against it, and the first reason there.
use Rattle.std.specs.Prelude.{◌≡◌, ◌⊎◌, ℕ, ◌≤◌, List, [], ◌∷◌, Some, None}
use Rattle.base_trees.specs.Rose.{Rose}
use Rattle.xml_items.specs.declared.label.ItemLabel.{ItemLabel}
use Rattle.schema_faults.specs.Faults.{LookedAt, reasons}
use Rattle.schema_syntax.specs.declared.why.SchemaWhy.{SchemaWhy}

-- The reason is the first against the node at this place.
abbrev pub Stands : ℕ → SchemaWhy → List LookedAt → Type 0
Stands at why [] = ⊥
Stands at why (s ∷ seen) = ((s.0 ≡ at) × (s.1 ≡ Some why)) ⊎ Stands at why seen

-- There is no reason at a lesser place.
abbrev pub NoneBelow : ℕ → List LookedAt → Type 0
NoneBelow at [] = Unit {0}
NoneBelow at (s ∷ seen) = ((why : SchemaWhy) → s.1 ≡ Some why → at ≤ s.0) × NoneBelow at seen

-- There is no reason at any place.
abbrev pub NoneAtAll : List LookedAt → Type 0
NoneAtAll [] = Unit {0}
NoneAtAll (s ∷ seen) = (s.1 ≡ None) × NoneAtAll seen

abbrev pub Shown : Rose ItemLabel → ℕ → SchemaWhy → Type 0
Shown root at why = Stands at why (reasons root) × NoneBelow at (reasons root)

-- The document has no fault.
abbrev pub IsSchema : Rose ItemLabel → Type 0
IsSchema root = NoneAtAll (reasons root)
