-- The texts and the values of attributes of items are UTF-8.
use Rattle.std.specs.Prelude.{ℕ, List, [], ◌∷◌, IsUtf8}
use Rattle.base_texts.specs.declared.texts.Name.{Name}
use Rattle.base_trees.specs.Rose.{Rose, node, Roses, none, more}
use Rattle.xml_items.specs.declared.label.ItemLabel.{ItemLabel}
use Rattle.xml_items.specs.declared.label.ItemLabel.TheVariants.{Element, Text}

abbrev pub AreUtf8 : List (Name × List ℕ) → Type 0
AreUtf8 [] = Unit {0}
AreUtf8 (attribute ∷ attributes) = IsUtf8 attribute.1 × AreUtf8 attributes

abbrev pub LabelIsUtf8 : ItemLabel → Type 0
LabelIsUtf8 (Element name attributes declares at) = AreUtf8 attributes
LabelIsUtf8 (Text words at) = IsUtf8 words

abbrev mutual
  pub ItemIsUtf8 : Rose ItemLabel → Type 0
  ItemIsUtf8 (node label items) = LabelIsUtf8 label × ItemsAreUtf8 items

  pub ItemsAreUtf8 : Roses ItemLabel → Type 0
  ItemsAreUtf8 none = Unit {0}
  ItemsAreUtf8 (more item items) = ItemIsUtf8 item × ItemsAreUtf8 items
