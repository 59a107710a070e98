-- Items without their places and without the bindings of namespaces: the information of a document (XML Information Set).
use Rattle.std.specs.Prelude.{ℕ, List}
use Rattle.base_texts.specs.declared.texts.Name.{Name}
use Rattle.base_trees.specs.Rose.{Rose, node, Roses, none, more}
use Rattle.xml_items.specs.declared.label.ItemLabel.{ItemLabel}
use Rattle.xml_items.specs.declared.label.ItemLabel.TheVariants.{Element, Text}

pub data Plain : Type 0 where
  element : Name → List (Name × List ℕ) → Plain
  text : List ℕ → Plain

abbrev pub plain_label : ItemLabel → Plain
plain_label (Element name attributes declares at) = element name attributes
plain_label (Text words at) = text words

abbrev mutual
  pub plain_of : Rose ItemLabel → Rose Plain
  plain_of (node label items) = node (plain_label label) (plain_all items)

  pub plain_all : Roses ItemLabel → Roses Plain
  plain_all none = none
  plain_all (more item items) = more (plain_of item) (plain_all items)
