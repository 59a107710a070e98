use Rattle.std.proofs.Common.{arith}
use Rattle.base_flat_trees.proofs.Zipped.{length-zip}
use Rattle.base_flat_trees.proofs.builders.Builder.count.Goals as goal

pub returns : goal.returns
returns g c = omega (arith, c.len.ensures, length-zip c.self.inside.entries.items c.self.inside.inner c.self.inside.level c.args.self.now c.self.invariant c.self.view_is)
