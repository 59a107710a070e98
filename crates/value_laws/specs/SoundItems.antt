-- Laws of the items of the values of a map, and of the documents that are written from them.
use Rattle.std.specs.Prelude.{◌≡◌, ℕ, ◌<◌, List, Some, IsSomeAnd}
use Rattle.base_trees.specs.Rose.{Rose}
use Rattle.simple_types.specs.declared.labels.ValueLabel.{ValueLabel}
use Rattle.xml_items.specs.declared.label.ItemLabel.{ItemLabel}
use Rattle.xml_read.specs.Documents.{DocOf}
use Rattle.xml_write.specs.ReadBack.{ReadsAs}
use Rattle.xml_items.specs.Plain.{Plain}
use Rattle.xml_items.specs.Unplaced.{unplaced}
use Rattle.schema_components.specs.Components.{Set}
use Rattle.schema_components.specs.Linked.{IsLinked}
use Rattle.schema_components.specs.SetParts.{parts_of}
use Rattle.validity_rules.specs.Valid.{Valid}
use Rattle.asn_types.specs.declared.modules.Assignment.{Assignment}
use Rattle.asn_values.specs.Values.{Fits}
use Rattle.map_assignments.specs.Mapped.{IsMapOf, root_at}
use Rattle.xer_items.specs.Items.{Xer}
use Rattle.xer_items.specs.Sound.{IsSound}
use Rattle.schema_components.specs.Small.{AreSmall}

-- The items of a value of the type of a global element are items that a document may have.
abbrev pub SoundItems : Type 0
SoundItems =
    (s : Set) (M : List Assignment) → IsLinked s → AreSmall s → (is_map : IsMapOf s M) (d : ℕ) → d < s.globals
    → (v : Rose ValueLabel) → Fits M (root_at s M is_map d) v → IsSomeAnd (Xer M (root_at s M is_map d) v) IsSound

-- Bytes that are read as the items of such a value, without places, are a valid document. Its treated items are these.
abbrev pub DocumentsOfValues : Type 0
DocumentsOfValues =
    (s : Set) (M : List Assignment) → IsLinked s → AreSmall s → (is_map : IsMapOf s M) (d : ℕ) → d < s.globals
    → (v : Rose ValueLabel) → Fits M (root_at s M is_map d) v → (b : Rose Plain) → Xer M (root_at s M is_map d) v ≡ Some b
    → (bytes : List ℕ) → ReadsAs bytes (unplaced b)
    → (again : Rose ItemLabel) × DocOf bytes again × Valid (parts_of s) d again b
