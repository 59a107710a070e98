use Rattle.std.proofs.Common.{ap, arith}
use Rattle.base_trees.specs.Rose.{roses_of, count_all}
use Rattle.base_flat_trees.proofs.Forests.{count_below}
use Rattle.base_flat_trees.proofs.owned.Forest.count.Goals as goal

pub returns : goal.returns
returns g c = omega (arith, c.len.ensures, count_below c.self.inside.entries.items c.self.invariant, ap (λ ts. count_all (roses_of ts)) c.self.view_is)
