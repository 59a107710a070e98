-- What an answer says.
use Rattle.std.specs.Prelude.{◌≡◌, ℕ, Bool, List, [], ◌⊎◌, Some, None}
use Rattle.base_texts.specs.declared.texts.Name.{Name}
use Rattle.base_trees.specs.Rose.{Rose, Roses, none}
use Rattle.simple_types.specs.Space.{Space}
use Rattle.simple_types.specs.Reading.{reads}
use Rattle.content_models.specs.Particle.{Particle}
use Rattle.content_models.specs.Language.{Leaf, names, Lang}
use Rattle.xml_items.specs.declared.label.ItemLabel.{ItemLabel}
use Rattle.xml_items.specs.Plain.{Plain}
use Rattle.schema_components.specs.Components.{Set}
use Rattle.schema_components.specs.SetParts.{parts_of}
use Rattle.validity_rules.specs.Asked.{Asked, Inside, nothing, simple, children, asked_at}
use Rattle.validity_rules.specs.Attributes.{nil_from, nil_of, xsi_type, text_of, left, Refuses, FirstWrong, AllRight, AllStand, OneMissing}
use Rattle.validity_rules.specs.Valid.{only_text, Spells, ValidBy, KidsValid, Valid}
use Rattle.validity_rules.specs.Faults.{Begins, Unfinished, front, Then, At, IsBad, FirstKid, why_kid, FirstElement, KidFault}
use Rattle.validity_rules.specs.declared.why.InvalidWhy.{InvalidWhy}
use Rattle.validity_rules.specs.declared.why.InvalidWhy.TheVariants.{XsiType, BadNil, MissingAttribute, BadText, MissingElement}
use Rattle.validity_check.specs.declared.error.CheckError.{CheckError}
use Rattle.validity_check.specs.declared.error.CheckError.TheVariants.{Invalid, Memory}

-- the fault is one of these; or memory is missing
abbrev pub Tells : (ℕ → InvalidWhy → Type 0) → CheckError → Type 0
Tells Invalidity (Invalid at why) = Invalidity at why
Tells Invalidity Memory = Unit {0}

-- ---- start tags

-- the first fault of a start tag at this place
abbrev pub TagFault : Asked → List (Name × List ℕ) → ℕ → ℕ → InvalidWhy → Type 0
TagFault a xs place at why =
    Then (At place XsiType (text_of xs xsi_type ≡ None → ⊥)) (text_of xs xsi_type ≡ None)
    (Then (At place BadNil (IsBad (nil_of a.nillable xs))) (IsBad (nil_of a.nillable xs) → ⊥)
    (Then (λ at why. (at ≡ place) × FirstWrong a.attributes why (left xs)) (AllRight a.attributes (left xs))
    (At place MissingAttribute (OneMissing a.attributes (left xs))))) at why

-- the start tag has no fault, and the element is nil or isn't
pub record IsGoodTag (a : Asked) (xs : List (Name × List ℕ)) (nil : Bool) : Type 0 where
  pub plain : text_of xs xsi_type ≡ None
  pub nil_is : nil_of a.nillable xs ≡ nil_from (Some nil)
  pub right : AllRight a.attributes (left xs)
  pub stand : AllStand a.attributes (left xs)

-- ---- elements

-- a text of the simple type, and no child element
abbrev pub IsSpelled : Space → Roses ItemLabel → Type 0
IsSpelled space ts = (vs : Roses Plain) × ((words : List ℕ) × (only_text ts ≡ Some words) × Spells space (reads space words) vs)

abbrev pub TextFault : Space → Roses ItemLabel → ℕ → ℕ → InvalidWhy → Type 0
TextFault space ts place at why =
    FirstElement ts at why ⊎ ((words : List ℕ) × (only_text ts ≡ Some words) × (at ≡ place) × Refuses (reads space words) BadText why)

module _ (asks : ℕ → Asked) where
  abbrev pub KidsFault : Bool → Particle → Roses ItemLabel → ℕ → ℕ → InvalidWhy → Type 0
  KidsFault mixed p ts place at why = (us : List Leaf) × Begins p us × (
      ((vs : Roses Plain) × KidsValid asks mixed ts us vs × Unfinished p (names us) × (at ≡ place) × (why ≡ MissingElement))
      ⊎ ((i : ℕ) × (vs : Roses Plain) × KidsValid asks mixed (front i ts) us vs × KidFault asks mixed p us ts i at why)
      )

  abbrev pub AreValidKids : Bool → Particle → Roses ItemLabel → Type 0
  AreValidKids mixed p ts = (vs : Roses Plain) × ((w : List Leaf) × Lang p 0 [] w × KidsValid asks mixed ts w vs)

  -- the kids are valid content, with some treated form
  abbrev pub IsValidInside : Inside → Roses ItemLabel → Type 0
  IsValidInside nothing ts = ts ≡ none
  IsValidInside (simple space) ts = IsSpelled space ts
  IsValidInside (children mixed p) ts = AreValidKids mixed p ts

  -- the first fault of the content of an element at this place
  abbrev pub InsideFault : Inside → Roses ItemLabel → ℕ → ℕ → InvalidWhy → Type 0
  InsideFault nothing ts place at why = FirstKid ts why_kid at why
  InsideFault (simple space) ts place at why = TextFault space ts place at why
  InsideFault (children mixed p) ts place at why = KidsFault mixed p ts place at why

-- the element is valid under the declaration, with some treated form
abbrev pub IsValidBy : Set → ℕ → Rose ItemLabel → Type 0
IsValidBy s d t = (b : Rose Plain) × ValidBy (asked_at (parts_of s)) d t b

abbrev pub IsValid : Set → ℕ → Rose ItemLabel → Type 0
IsValid s d t = (b : Rose Plain) × Valid (parts_of s) d t b
