-- Items that come from no text: all have the place 0, and none binds a prefix.
use Rattle.std.specs.Prelude.{[]}
use Rattle.base_trees.specs.Rose.{Rose, node, Roses, none, more}
use Rattle.xml_items.specs.declared.label.ItemLabel.{ItemLabel}
use Rattle.xml_items.specs.declared.label.ItemLabel.TheVariants.{Element, Text}
use Rattle.xml_items.specs.Plain.{Plain, element, text}

abbrev pub unplaced_label : Plain → ItemLabel
unplaced_label (element name attributes) = Element name attributes [] 0
unplaced_label (text words) = Text words 0

abbrev mutual
  pub unplaced : Rose Plain → Rose ItemLabel
  unplaced (node label items) = node (unplaced_label label) (all_unplaced items)

  pub all_unplaced : Roses Plain → Roses ItemLabel
  all_unplaced none = none
  all_unplaced (more item items) = more (unplaced item) (all_unplaced items)
