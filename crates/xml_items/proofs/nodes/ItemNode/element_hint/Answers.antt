use Rattle.std.proofs.Common.{ap, arith}
use Rattle.base_trees.specs.Rose.{node_count}
use Rattle.xml_items.specs.Meaning.{meaning}
use Rattle.xml_items.proofs.Mapped.{node_count-map}
use Rattle.xml_items.proofs.nodes.ItemNode.element_hint.Goals as goal

pub returns : goal.returns
returns c =
    let inside = c.self.inside in
    omega (arith, node_count-map (meaning inside.store.now) inside.node, ap node_count c.self.view_is)
