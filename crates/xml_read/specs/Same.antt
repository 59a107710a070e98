-- Items that differ at most in their places and bindings, and in the order of attributes.
use Rattle.std.specs.Prelude.{◌≡◌, ℕ, List, [], ◌∷◌, ◌&&◌, Option, Some, None, if◌then◌else◌, bytes_eq}
use Rattle.base_texts.specs.declared.texts.Name.{Name}
use Rattle.base_trees.specs.Rose.{Rose, node, Roses, none, more}
use Rattle.xml_items.specs.declared.label.ItemLabel.{ItemLabel}
use Rattle.xml_items.specs.declared.label.ItemLabel.TheVariants.{Element, Text}

-- the value of the attribute with a name, given by its namespace and its local name
abbrev pub value_of : List ℕ → List ℕ → List (Name × List ℕ) → Option (List ℕ)
value_of space local [] = None
value_of space local (attribute ∷ attributes) =
    if bytes_eq attribute.0.space space && bytes_eq attribute.0.local local then Some attribute.1 else value_of space local attributes

abbrev pub SameAttributes : List (Name × List ℕ) → List (Name × List ℕ) → Type 0
SameAttributes attributes others = (space local : List ℕ) → value_of space local attributes ≡ value_of space local others

abbrev mutual
  pub SameItems : Rose ItemLabel → Rose ItemLabel → Type 0
  SameItems (node (Element name attributes declares at) kids) (node (Element other others binds place) items) =
      (name ≡ other) × SameAttributes attributes others × AllSameItems kids items
  SameItems (node (Text text at) kids) (node (Text other place) items) = (text ≡ other) × AllSameItems kids items
  SameItems _ _ = ⊥

  pub AllSameItems : Roses ItemLabel → Roses ItemLabel → Type 0
  AllSameItems none none = Unit {0}
  AllSameItems (more item items) (more other others) = SameItems item other × AllSameItems items others
  AllSameItems _ _ = ⊥
