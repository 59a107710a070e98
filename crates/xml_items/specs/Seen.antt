-- The label that a reference to a node's parts represents.
use Rattle.xml_items.specs.declared.label.ItemLabel.{ItemLabel}
use Rattle.xml_items.specs.declared.label.ItemLabel.TheVariants as label
use Rattle.xml_items.specs.declared.nodes.ItemRef.{ItemRef}
use Rattle.xml_items.specs.declared.nodes.ItemRef.TheVariants.{Element, Text}

abbrev pub item_seen : ItemRef → ItemLabel
item_seen (Element name attributes declares at) = label.Element name.now attributes.now declares.now at
item_seen (Text text at) = label.Text text at
