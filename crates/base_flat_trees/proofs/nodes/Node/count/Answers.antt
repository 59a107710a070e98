use Rattle.std.proofs.Common.{ap, arith}
use Rattle.base_trees.specs.Rose.{node_count}
use Rattle.base_flat_trees.proofs.Forests.{count_below}
use Rattle.base_flat_trees.proofs.nodes.Node.count.Goals as goal

pub returns : goal.returns
returns g c = omega (arith, ap node_count c.self.view_is, count_below c.self.inside.below.now c.self.invariant, c.saturating_add.ensures)
