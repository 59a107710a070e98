-- The path from the root of a document to an element, as XPath 1.0 writes it (section 2.5), with local names: /order/line[3]/qty.
use Rattle.std.specs.Prelude.{◌≡◌, ◌⊎◌, ◌<◌, ◌≤◌, ℕ, Bool, false, All, List, [], ◌∷◌, ◌++◌, count_by, nat_le, codes, decimal, if◌then◌else◌}
use Rattle.base_trees.specs.Rose.{Rose, label_of, kids_of}
use Rattle.base_texts.specs.declared.texts.Name.{Name}
use Rattle.base_texts.specs.Names.{name_eq}
use Rattle.xml_items.specs.Labels.{item_place}
use Rattle.xml_items.specs.declared.label.ItemLabel.{ItemLabel}
use Rattle.xml_items.specs.declared.label.ItemLabel.TheVariants.{Element, Text}

-- an element of the name
abbrev pub is_named : Name → ItemLabel → Bool
is_named name (Element other attributes declares at) = name_eq other name
is_named name (Text text at) = false

abbrev pub is_kid_named : Name → Rose ItemLabel → Bool
is_kid_named name kid = is_named name (label_of kid)

abbrev pub IsElement : ItemLabel → Name → Type 0
IsElement (Element other attributes declares at) name = other ≡ name
IsElement (Text text at) name = ⊥

abbrev pub IsText : ItemLabel → Type 0
IsText (Element name attributes declares at) = ⊥
IsText (Text text at) = Unit {0}

-- ---- one step

-- the number of an element among so many of its name, in brackets; nothing where it is the only one
abbrev pub place : ℕ → ℕ → List ℕ
place number of = if nat_le of 1 then [] else codes "[" ++ decimal number ++ codes "]"

abbrev pub step : Name → ℕ → ℕ → List ℕ
step name number of = codes "/" ++ name.local ++ place number of

-- ---- which step

-- the item begins by the byte
abbrev pub BeginsBy : ℕ → Rose ItemLabel → Type 0
BeginsBy at kid = item_place (label_of kid) ≤ at

-- there are none of these items, or the first begins after the byte
abbrev pub NoneBy : ℕ → List (Rose ItemLabel) → Type 0
NoneBy at kids = (kids ≡ []) ⊎ ((kid : Rose ItemLabel) × (others : List (Rose ItemLabel)) × (kids ≡ kid ∷ others) × (at < item_place (label_of kid)))

-- the last of the first items that begin by the byte, with those before it and those after it
pub record IsLastBy (at : ℕ) (kids before : List (Rose ItemLabel)) (kid : Rose ItemLabel) (behind : List (Rose ItemLabel)) : Type 0 where
  pub split : kids ≡ before ++ kid ∷ behind
  pub earlier : All (BeginsBy at) before
  pub here : BeginsBy at kid
  pub later : NoneBy at behind

-- the step from an element to the last item in it that begins by the byte, which is an element
pub record IsStep (at : ℕ) (tree kid : Rose ItemLabel) (text : List ℕ) : Type 0 where
  pub before : List (Rose ItemLabel)
  pub behind : List (Rose ItemLabel)
  pub last : IsLastBy at (kids_of tree) before kid behind
  pub name : Name
  pub named : IsElement (label_of kid) name
  -- its number among the elements of its name in this one, the first of which is 1
  pub is : text ≡ step name (count_by (is_kid_named name) (before ++ kid ∷ [])) (count_by (is_kid_named name) (kids_of tree))

-- ---- the whole path

-- nothing in the element begins by the byte, or the last that does is a text
abbrev pub Ends : ℕ → Rose ItemLabel → Type 0
Ends at tree =
    NoneBy at (kids_of tree)
    ⊎ ((before behind : List (Rose ItemLabel)) × (kid : Rose ItemLabel) × IsLastBy at (kids_of tree) before kid behind × IsText (label_of kid))

-- the steps from an element, down by these, to the innermost round the byte
abbrev pub PathTo : ℕ → Rose ItemLabel → List (Rose ItemLabel) → List ℕ → Type 0
PathTo at tree [] steps = Ends at tree × (steps ≡ [])
PathTo at tree (kid ∷ kids) steps = (text later : List ℕ) × IsStep at tree kid text × PathTo at kid kids later × (steps ≡ text ++ later)

-- the step to the root, which is the only one
abbrev pub root_step : ItemLabel → List ℕ
root_step (Element name attributes declares at) = step name 1 1
root_step (Text text at) = []

-- the path to the innermost element round the byte
pub record IsPath (at : ℕ) (items : Rose ItemLabel) (path : List ℕ) : Type 0 where
  pub elements : List (Rose ItemLabel)
  pub steps : List ℕ
  pub way : PathTo at items elements steps
  pub text : path ≡ root_step (label_of items) ++ steps
