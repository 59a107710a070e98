-- Documents of a linked set and values of its map are two forms of one thing.
use Rattle.std.specs.Prelude.{◌≡◌, ℕ, ◌<◌, List, Some, true}
use Rattle.base_trees.specs.Rose.{Rose}
use Rattle.simple_types.specs.declared.labels.ValueLabel.{ValueLabel}
use Rattle.xml_items.specs.declared.label.ItemLabel.{ItemLabel}
use Rattle.xml_read.specs.Sound.{AreItems, is_sound}
use Rattle.xml_read.specs.Same.{SameItems}
use Rattle.xml_items.specs.Plain.{Plain, plain_of}
use Rattle.schema_components.specs.Components.{Set}
use Rattle.schema_components.specs.Small.{AreSmall}
use Rattle.schema_components.specs.Linked.{IsLinked}
use Rattle.schema_components.specs.SetParts.{parts_of}
use Rattle.validity_rules.specs.Valid.{Valid}
use Rattle.asn_types.specs.declared.modules.Assignment.{Assignment}
use Rattle.asn_values.specs.Values.{Fits}
use Rattle.map_assignments.specs.Mapped.{IsMapOf, root_at}
use Rattle.xer_items.specs.Items.{Xer}

-- The items are valid, wherever they are placed, and are their own treated items.
abbrev pub IsItsOwn : Set → ℕ → Rose Plain → Type 0
IsItsOwn s d b = (u : Rose ItemLabel) → plain_of u ≡ b → Valid (parts_of s) d u b

-- (1) A valid element has a value whose items are its treated items. Both have their attributes in the order of the type.
abbrev pub ValuesOfItems : Type 0
ValuesOfItems =
    (s : Set) (M : List Assignment) → IsLinked s → AreSmall s → (is_map : IsMapOf s M) (d : ℕ) → d < s.globals
    → (t : Rose ItemLabel) (b : Rose Plain) → AreItems t → Valid (parts_of s) d t b
    → (v : Rose ValueLabel) × Fits M (root_at s M is_map d) v × (Xer M (root_at s M is_map d) v ≡ Some b)

-- (2) The items of a value that fits are valid, and are their own treated items.
abbrev pub ItemsOfValues : Type 0
ItemsOfValues =
    (s : Set) (M : List Assignment) → IsLinked s → AreSmall s → (is_map : IsMapOf s M) (d : ℕ) → d < s.globals
    → (v : Rose ValueLabel) → Fits M (root_at s M is_map d) v
    → (b : Rose Plain) × (Xer M (root_at s M is_map d) v ≡ Some b) × IsItsOwn s d b

-- (3) Two values that fit and have equal items are equal.
abbrev pub OneValue : Type 0
OneValue =
    (s : Set) (M : List Assignment) → IsLinked s → AreSmall s → (is_map : IsMapOf s M) (d : ℕ) → d < s.globals
    → (v w : Rose ValueLabel) → Fits M (root_at s M is_map d) v → Fits M (root_at s M is_map d) w
    → Xer M (root_at s M is_map d) v ≡ Xer M (root_at s M is_map d) w → v ≡ w

-- (3) for items that differ in places, bindings and the order of attributes. It follows from (2) and (3).
abbrev pub OneValueOfSame : Type 0
OneValueOfSame =
    (s : Set) (M : List Assignment) → IsLinked s → AreSmall s → (is_map : IsMapOf s M) (d : ℕ) → d < s.globals
    → (v w : Rose ValueLabel) → Fits M (root_at s M is_map d) v → Fits M (root_at s M is_map d) w
    → (a b : Rose ItemLabel) → is_sound b ≡ true → Xer M (root_at s M is_map d) v ≡ Some (plain_of a) → Xer M (root_at s M is_map d) w ≡ Some (plain_of b)
    → SameItems a b → v ≡ w
