-- The children of an element: its child elements, and the texts before, between and after them.
use Rattle.std.specs.Prelude.{◌≡◌, ℕ, List, [], ◌∷◌}
use Rattle.base_trees.specs.Rose.{node, Roses, none, more, label_of}
use Rattle.xml_items.specs.Plain.{Plain, element, text}

-- a text before other items; the empty text is no item
abbrev pub text_before : List ℕ → Roses Plain → Roses Plain
text_before [] items = items
text_before (b ∷ bs) items = more (node (text (b ∷ bs)) none) items

-- texts with elements between them
abbrev pub interleaved : List (List ℕ) → Roses Plain → Roses Plain
interleaved [] items = items
interleaved (words ∷ texts) none = text_before words none
interleaved (words ∷ texts) (more item items) = text_before words (more item (interleaved texts items))

abbrev pub child_elements : Roses Plain → Roses Plain
child_elements none = none
child_elements (more item items) = elim (label_of item) [ element name attributes ↦ more item (child_elements items) | text words ↦ child_elements items ]

abbrev pub behind_first : List (List ℕ) → List (List ℕ)
behind_first [] = []
behind_first (words ∷ texts) = texts

-- The texts before, between and after child elements, one more than these. A missing text is empty.
abbrev pub texts_between : Roses Plain → List (List ℕ)
texts_between none = [] ∷ []
texts_between (more item items) =
    elim (label_of item) [ element name attributes ↦ [] ∷ texts_between items | text words ↦ words ∷ behind_first (texts_between items) ]

abbrev pub AllElements : Roses Plain → Type 0
AllElements none = Unit {0}
AllElements (more item items) = elim (label_of item) as (λ _. Type 0) [ element name attributes ↦ Unit {0} | text words ↦ ⊥ ] × AllElements items

abbrev pub NoTextFirst : Roses Plain → Type 0
NoTextFirst none = Unit {0}
NoTextFirst (more item items) = elim (label_of item) [ element name attributes ↦ Unit {0} | text words ↦ ⊥ ]

-- texts aren't empty, have no children, and no two are neighbours
abbrev pub AreTidy : Roses Plain → Type 0
AreTidy none = Unit {0}
AreTidy (more item items) =
    elim (label_of item) [
      | element name attributes ↦ AreTidy items
      | text words ↦ (words ≡ [] → ⊥) × (item ≡ node (text words) none) × NoTextFirst items × AreTidy items
    ]
