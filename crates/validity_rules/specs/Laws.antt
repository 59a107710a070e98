-- Each element is valid in one way, or has one first fault.
use Rattle.std.specs.Prelude.{◌≡◌, ℕ, ◌⊎◌, true, false, List}
use Rattle.base_trees.specs.Rose.{Rose, Roses}
use Rattle.content_models.specs.Language.{Leaf}
use Rattle.xml_items.specs.declared.label.ItemLabel.{ItemLabel}
use Rattle.xml_items.specs.Plain.{Plain, plain_of, plain_all}
use Rattle.xml_items.specs.Mixing.{interleaved, AllElements, AreTidy}
use Rattle.xml_read.specs.Same.{SameItems}
use Rattle.xml_read.specs.Sound.{is_element, is_sound, are_sound}
use Rattle.schema_components.specs.Components.{Set}
use Rattle.schema_components.specs.Linked.{IsLinked}
use Rattle.schema_components.specs.SetParts.{SetParts, parts_of}
use Rattle.validity_rules.specs.Asked.{Asked}
use Rattle.validity_rules.specs.OwnForms.{AreOwnForms}
use Rattle.validity_rules.specs.Valid.{Valid, KidsValid}
use Rattle.validity_rules.specs.Faults.{FirstFault}
use Rattle.validity_rules.specs.declared.why.InvalidWhy.{InvalidWhy}

-- There is at most one valid treated form or first fault, and never both.
abbrev pub AtMostOne : Type 0
AtMostOne = (s : Set) → IsLinked s → (d : ℕ) (t : Rose ItemLabel)
    → ((b : Rose Plain) (at : ℕ) (why : InvalidWhy) → Valid (parts_of s) d t b → FirstFault (parts_of s) d t at why → ⊥)
    × ((b c : Rose Plain) → Valid (parts_of s) d t b → Valid (parts_of s) d t c → b ≡ c)
    × ((at place : ℕ) (why what : InvalidWhy) → FirstFault (parts_of s) d t at why → FirstFault (parts_of s) d t place what → (at ≡ place) × (why ≡ what))

-- There is a valid treated form or a first fault.
abbrev pub AtLeastOne : Type 0
AtLeastOne = (s : Set) → IsLinked s → (d : ℕ) (t : Rose ItemLabel) → is_element t ≡ true
    → ((b : Rose Plain) × Valid (parts_of s) d t b) ⊎ ((at : ℕ) × (why : InvalidWhy) × FirstFault (parts_of s) d t at why)

-- Treated items are valid, and are their own treated items, wherever they are placed.
abbrev pub TreatedAgain : Type 0
TreatedAgain = (s : Set) → IsLinked s → (d : ℕ) (t : Rose ItemLabel) (b : Rose Plain) → Valid (parts_of s) d t b
    → (u : Rose ItemLabel) → plain_of u ≡ b → Valid (parts_of s) d u b

-- Items that differ at most in places, bindings and the order of attributes are valid with equal treated items.
abbrev pub SameValidity : Type 0
SameValidity = (s : SetParts) (d : ℕ) (t u : Rose ItemLabel) → is_sound u ≡ true → SameItems t u → (b : Rose Plain) → Valid s d t b → Valid s d u b

-- The treated children of mixed content are tidy, and those of element-only content are only elements.
abbrev pub TreatedKids : Type 0
TreatedKids = (asks : ℕ → Asked) (ts : Roses ItemLabel) (w : List Leaf) (vs : Roses Plain) → are_sound ts ≡ true
    → (KidsValid asks true ts w vs → AreTidy vs) × (KidsValid asks false ts w vs → AllElements vs)

-- Elements that are valid with themselves as treated form are also valid as children. In mixed content any texts may be between
-- them.
abbrev pub OwnKids : Type 0
OwnKids = (asks : ℕ → Asked) (w : List Leaf) (bs : Roses Plain) → AreOwnForms asks w bs
    → ((us : Roses ItemLabel) → plain_all us ≡ bs → KidsValid asks false us w bs)
    × ((texts : List (List ℕ)) (us : Roses ItemLabel) → plain_all us ≡ interleaved texts bs → KidsValid asks true us w (interleaved texts bs))
