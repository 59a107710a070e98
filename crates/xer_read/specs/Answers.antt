-- What an answer says.
use Rattle.std.specs.Prelude.{◌≡◌, ◌⊎◌, ℕ, ◌<◌, ◌≤◌, List, Some, Result, Ok, Err, MatchResult}
use Rattle.base_trees.specs.Rose.{Rose, node_count, shown_count}
use Rattle.simple_types.specs.declared.labels.ValueLabel.{ValueLabel}
use Rattle.xml_items.specs.declared.label.ItemLabel.{ItemLabel}
use Rattle.xml_items.specs.Plain.{Plain, plain_of}
use Rattle.schema_components.specs.Components.{Set}
use Rattle.schema_components.specs.Linked.{IsLinked}
use Rattle.schema_components.specs.SetParts.{parts_of}
use Rattle.asn_types.specs.declared.modules.Assignment.{Assignment}
use Rattle.asn_values.specs.Values.{Fits, In}
use Rattle.map_assignments.specs.Mapped.{IsMapOf, root_at}
use Rattle.schema_components.specs.Small.{AreSmall}
use Rattle.xer_items.specs.Items.{Xer}
use Rattle.validity_rules.specs.Valid.{Valid}
use Rattle.validity_rules.specs.Faults.{FirstFault}
use Rattle.validity_rules.specs.declared.why.InvalidWhy.{InvalidWhy}
use Rattle.xer_read.specs.declared.error.ReadError.{ReadError}
use Rattle.xer_read.specs.declared.error.ReadError.TheVariants.{Invalid, TooManyNodes, Memory}

-- The document is valid, and the value is one of the type of the assignment with the number t whose items are the treated
-- items of the document.
abbrev pub IsValueOf : Set → ℕ → Rose ItemLabel → List Assignment → ℕ → Rose ValueLabel → Type 0
IsValueOf s d items M t v = (b : Rose Plain) × Valid (parts_of s) d items b × Fits M t v × (Xer M t v ≡ Some b)

-- such a value has more nodes than a value may have, and this is their number as it is shown
abbrev pub IsTooLarge : Set → ℕ → Rose ItemLabel → List Assignment → ℕ → ℕ → Type 0
IsTooLarge s d items M t count = (v : Rose ValueLabel) × IsValueOf s d items M t v × (1048576 < node_count v) × (count ≡ shown_count v)

-- each value of the type with the items of this one is this one
abbrev pub IsOnlyValue : List Assignment → ℕ → Rose ValueLabel → Type 0
IsOnlyValue M t v = (w : Rose ValueLabel) → Fits M t w → Xer M t w ≡ Xer M t v → w ≡ v

-- the fault is one of these; or the value has so many nodes that it is too large; or memory is missing
abbrev pub ReadTells : (ℕ → InvalidWhy → Type 0) → (ℕ → Type 0) → ReadError → Type 0
ReadTells Invalidity large (Invalid at why) = Invalidity at why
ReadTells Invalidity large (TooManyNodes count) = large count
ReadTells Invalidity large Memory = Unit {0}

-- what may be answered of a document
abbrev pub IsAnswer : Set → ℕ → Rose ItemLabel → List Assignment → ℕ → Result (Rose ValueLabel) ReadError → Type 0
IsAnswer s d items M t r =
    MatchResult r (λ value. IsValueOf s d items M t value × (node_count value ≤ 1048576)) (ReadTells (FirstFault (parts_of s) d items) (IsTooLarge s d items M t))

-- of the items of a value, this value, or that memory is missing
abbrev pub ReadBack : Type 0
ReadBack =
    (s : Set) (M : List Assignment) → IsLinked s → AreSmall s → (is_map : IsMapOf s M) (d : ℕ) → d < s.globals
    → (v : Rose ValueLabel) → In M (root_at s M is_map d) v → (items : Rose ItemLabel) → Xer M (root_at s M is_map d) v ≡ Some (plain_of items)
    → (r : Result (Rose ValueLabel) ReadError) → IsAnswer s d items M (root_at s M is_map d) r → (r ≡ Ok v) ⊎ (r ≡ Err Memory)
