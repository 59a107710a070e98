use Rattle.std.proofs.Common.{sym}
use Rattle.base_trees.proofs.Roses.{list_of-roses_of}
use Rattle.base_flat_trees.specs.Entries.{forest}
use Rattle.base_flat_trees.proofs.nodes.Node.kids.Goals as goal

pub returns : goal.returns
returns g c = rw (← c.self.view_is) (sym (list_of-roses_of (forest c.self.inside.below.now)))
