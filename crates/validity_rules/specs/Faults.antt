-- The first fault of an element that isn't valid by XML Schema Part 1 (sections 3.3.4, 3.4.4 and 3.8.4). The order of the faults is
-- the profile's own: each counts only if there is none before.
use Rattle.std.specs.Prelude.{◌≡◌, ℕ, zero, suc, ◌⊎◌, List, [], ◌∷◌, ◌++◌, Some, None, Bool, false}
use Rattle.base_texts.specs.declared.texts.Name.{Name}
use Rattle.base_texts.specs.WhiteSpace.{is_blank}
use Rattle.base_trees.specs.Rose.{Rose, node, Roses, none, more, label_of}
use Rattle.simple_types.specs.Reading.{reads}
use Rattle.content_models.specs.Particle.{Particle}
use Rattle.content_models.specs.Language.{Leaf, names, Lang, Viable}
use Rattle.xml_items.specs.Labels.{item_place}
use Rattle.xml_items.specs.declared.label.ItemLabel.{ItemLabel}
use Rattle.xml_items.specs.declared.label.ItemLabel.TheVariants.{Element, Text}
use Rattle.xml_items.specs.Plain.{Plain}
use Rattle.schema_components.specs.SetParts.{SetParts}
use Rattle.validity_rules.specs.Asked.{Asked, nothing, simple, children, asked_at, name_at}
use Rattle.validity_rules.specs.Attributes.{Nil, not_nil, is_nil, bad_nil, nil_of, xsi_type, text_of, left, Refuses, FirstWrong, AllRight, AllStand, OneMissing}
use Rattle.validity_rules.specs.Valid.{only_text, KidsValid, HasName}
use Rattle.validity_rules.specs.declared.why.InvalidWhy.{InvalidWhy}
use Rattle.validity_rules.specs.declared.why.InvalidWhy.TheVariants.{WrongRoot, XsiType, BadNil, MissingAttribute, NilWithContent, TextNotAllowed, ElementNotAllowed, BadText, UnexpectedElement, MissingElement}

-- Some list of the particle begins with these leaves.
abbrev pub Begins : Particle → List Leaf → Type 0
Begins p us = (w : List Leaf) × Lang p 0 [] (us ++ w)

-- No list of the particle has exactly these names.
abbrev pub Unfinished : Particle → List Name → Type 0
Unfinished p xs = (w : List Leaf) → Lang p 0 [] w → names w ≡ xs → ⊥

-- The first i of them.
abbrev pub front : {L : Type 0} → ℕ → Roses L → Roses L
front zero ts = none
front (suc i) none = none
front (suc i) (more t ts) = more t (front i ts)

-- The first of two faults. The second counts only if `well` holds: then there is no first.
abbrev pub Then : (ℕ → InvalidWhy → Type 0) → Type 0 → (ℕ → InvalidWhy → Type 0) → ℕ → InvalidWhy → Type 0
Then F well G at why = F at why ⊎ (well × G at why)

-- A fault with this reason at this place, if P holds.
abbrev pub At : ℕ → InvalidWhy → Type 0 → ℕ → InvalidWhy → Type 0
At place reason P at why = (at ≡ place) × (why ≡ reason) × P

abbrev pub IsBad : Nil → Type 0
IsBad bad_nil = Unit {0}
IsBad _ = ⊥

-- The first child is a fault, for the reason that its label gives.
abbrev pub FirstKid : Roses ItemLabel → (ItemLabel → InvalidWhy) → ℕ → InvalidWhy → Type 0
FirstKid none reason at why = ⊥
FirstKid (more t ts) reason at why = (at ≡ item_place (label_of t)) × (why ≡ reason (label_of t))

abbrev pub why_kid : ItemLabel → InvalidWhy
why_kid (Element name xs declares at) = ElementNotAllowed
why_kid (Text words at) = TextNotAllowed

-- The first child element is a fault.
abbrev pub FirstElement : Roses ItemLabel → ℕ → InvalidWhy → Type 0
FirstElement none at why = ⊥
FirstElement (more t ts) at why =
    elim (label_of t) [ Element name xs declares place ↦ (at ≡ place) × (why ≡ ElementNotAllowed) | Text words place ↦ FirstElement ts at why ]

module _ (asks : ℕ → Asked) where
  abbrev mutual
    -- The first fault of the element under the declaration d.
    pub FaultBy : ℕ → Rose ItemLabel → ℕ → InvalidWhy → Type 0
    FaultBy d (node l ts) at why = elim l [
      | Text words place ↦ ⊥
      | Element name xs declares place ↦
          Then (At place XsiType (text_of xs xsi_type ≡ None → ⊥)) (text_of xs xsi_type ≡ None)
          (Then (At place BadNil (IsBad (nil_of (asks d).nillable xs))) (IsBad (nil_of (asks d).nillable xs) → ⊥)
          (Then (λ at why. (at ≡ place) × FirstWrong (asks d).attributes why (left xs)) (AllRight (asks d).attributes (left xs))
          (Then (At place MissingAttribute (OneMissing (asks d).attributes (left xs))) (AllStand (asks d).attributes (left xs))
          (λ at why. elim (nil_of (asks d).nillable xs) as (λ _. Type 0) [
            | bad_nil ↦ ⊥
            | is_nil ↦ FirstKid ts (λ _. NilWithContent) at why
            | not_nil ↦ elim (asks d).inside as (λ _. Type 0) [
              | nothing ↦ FirstKid ts why_kid at why
              | simple space ↦
                  FirstElement ts at why ⊎ ((words : List ℕ) × (only_text ts ≡ Some words) × (at ≡ place) × Refuses (reads space words) BadText why)
              | children mixed p ↦ (us : List Leaf) × Begins p us × (
                  -- All children are valid, and more are required.
                  ((vs : Roses Plain) × KidsValid asks mixed ts us vs × Unfinished p (names us) × (at ≡ place) × (why ≡ MissingElement))
                  -- Or the children before number i are valid, and child i isn't.
                  ⊎ ((i : ℕ) × (vs : Roses Plain) × KidsValid asks mixed (front i ts) us vs × KidFault mixed p us ts i at why)
                  )
            ]
          ])))) at why
    ]

    -- The child with number i, after these leaves, has this first fault.
    pub KidFault : Bool → Particle → List Leaf → Roses ItemLabel → ℕ → ℕ → InvalidWhy → Type 0
    KidFault mixed p us none i at why = ⊥
    KidFault mixed p us (more t ts) (suc i) at why = KidFault mixed p us ts i at why
    KidFault mixed p us (more t ts) zero at why = elim (label_of t) [
      | Text words place ↦ (mixed ≡ false) × (is_blank words ≡ false) × (at ≡ place) × (why ≡ TextNotAllowed)
      | Element name xs declares place ↦
          ((Viable p (names us ++ name ∷ []) → ⊥) × (at ≡ place) × (why ≡ UnexpectedElement))
          ⊎ ((l : Leaf) × (l.name ≡ name) × Begins p (us ++ l ∷ []) × FaultBy l.decl t at why)
    ]

-- The first fault of the element under this declaration of the set is at this place and has this reason.
abbrev pub FirstFault : SetParts → ℕ → Rose ItemLabel → ℕ → InvalidWhy → Type 0
FirstFault s d t at why =
    Then (At (item_place (label_of t)) WrongRoot (HasName (name_at s d) (label_of t) → ⊥)) (HasName (name_at s d) (label_of t)) (FaultBy (asked_at s) d t) at why
