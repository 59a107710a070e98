-- Valid elements, with their treated items (XML Schema Part 1, sections 3.3.4, 3.4.4 and 3.8.4).
use Rattle.std.specs.Prelude.{◌≡◌, ℕ, Bool, true, false, List, [], ◌∷◌, ◌++◌, Option, Some, None, Ok, Err}
use Rattle.base_texts.specs.declared.texts.Name.{Name}
use Rattle.base_texts.specs.WhiteSpace.{is_blank}
use Rattle.base_trees.specs.Rose.{Rose, node, Roses, none, more, label_of}
use Rattle.simple_types.specs.Space.{Space}
use Rattle.simple_types.specs.Reading.{Reading, reads, spelled}
use Rattle.content_models.specs.Language.{Leaf, Lang}
use Rattle.xml_items.specs.declared.label.ItemLabel.{ItemLabel}
use Rattle.xml_items.specs.declared.label.ItemLabel.TheVariants.{Element, Text}
use Rattle.xml_items.specs.Plain.{Plain, element, text}
use Rattle.schema_components.specs.SetParts.{SetParts}
use Rattle.validity_rules.specs.Asked.{Asked, nothing, simple, children, asked_at, name_at}
use Rattle.validity_rules.specs.Attributes.{not_nil, is_nil, bad_nil, nil_of, xsi_type, text_of, left, AllRight, AllStand, treated_attributes, with_nil}

abbrev pub put_before : List ℕ → Option (List ℕ) → Option (List ℕ)
put_before words None = None
put_before words (Some others) = Some (words ++ others)

-- The text of the element, empty if it has none. There is none if it has a child element.
abbrev pub only_text : Roses ItemLabel → Option (List ℕ)
only_text none = Some []
only_text (more t ts) = elim (label_of t) [ Element name xs declares at ↦ None | Text words at ↦ put_before words (only_text ts) ]

-- A text as a child. The empty text gives no child.
abbrev pub text_kids : List ℕ → Roses Plain
text_kids [] = none
text_kids (b ∷ bs) = more (node (text (b ∷ bs)) none) none

-- The children are what was read, in canonical spelling.
abbrev pub Spells : Space → Reading → Roses Plain → Type 0
Spells space (Ok value) us = us ≡ text_kids (spelled space value)
Spells space (Err why) us = ⊥

-- A text among child elements is kept in mixed content. In other content it is white space and is dropped.
abbrev pub Between : Bool → Bool → List ℕ → Roses Plain → Roses Plain → Type 0
Between true blank words vs us = us ≡ more (node (text words) none) vs
Between false blank words vs us = (blank ≡ true) × (us ≡ vs)

-- The treated element: its attributes as they are declared, and these children.
abbrev pub treated_element : Asked → Name → List (Name × List ℕ) → Roses Plain → Rose Plain
treated_element a name xs vs = node (element name (with_nil (nil_of a.nillable xs) (treated_attributes a.attributes (left xs)))) vs

module _ (asks : ℕ → Asked) where
  abbrev mutual
    -- The element is valid for the declaration d, and b is its treated form.
    pub ValidBy : ℕ → Rose ItemLabel → Rose Plain → Type 0
    ValidBy d (node l ts) b = elim l [
      | Text words at ↦ ⊥
      | Element name xs declares at ↦
          (vs : Roses Plain) × (b ≡ treated_element (asks d) name xs vs)
          × (text_of xs xsi_type ≡ None)
          × AllRight (asks d).attributes (left xs) × AllStand (asks d).attributes (left xs)
          × elim (nil_of (asks d).nillable xs) [
            | bad_nil ↦ ⊥
            | is_nil ↦ (ts ≡ none) × (vs ≡ none)
            | not_nil ↦ elim (asks d).inside [
              | nothing ↦ (ts ≡ none) × (vs ≡ none)
              | simple space ↦ (words : List ℕ) × (only_text ts ≡ Some words) × Spells space (reads space words) vs
              | children mixed p ↦ (w : List Leaf) × Lang p 0 [] w × KidsValid mixed ts w vs
            ]
          ]
    ]

    -- The child elements have the names of these leaves, and each is valid for the declaration of its leaf.
    pub KidsValid : Bool → Roses ItemLabel → List Leaf → Roses Plain → Type 0
    KidsValid mixed none w us = (w ≡ []) × (us ≡ none)
    KidsValid mixed (more t ts) w us = elim (label_of t) [
      | Text words at ↦ (vs : Roses Plain) × KidsValid mixed ts w vs × Between mixed (is_blank words) words vs us
      | Element name xs declares at ↦
          (l : Leaf) × (v : List Leaf) × (b : Rose Plain) × (vs : Roses Plain)
          × (w ≡ l ∷ v) × (us ≡ more b vs) × (l.name ≡ name) × ValidBy l.decl t b × KidsValid mixed ts v vs
    ]

abbrev pub HasName : Option Name → ItemLabel → Type 0
HasName wanted (Element name xs declares at) = wanted ≡ Some name
HasName wanted (Text words at) = ⊥

-- The element is valid for this declaration of the set, and these are its treated items.
abbrev pub Valid : SetParts → ℕ → Rose ItemLabel → Rose Plain → Type 0
Valid s d t b = HasName (name_at s d) (label_of t) × ValidBy (asked_at s) d t b
