use Rattle.base_flat_trees.proofs.Below.{gets_below}
use Rattle.base_flat_trees.proofs.entries.set_below.Goals as goal

pub returns : goal.returns
returns g c = gets_below c.args.entries.now.items c.args.at c.args.below c.index_mut-entry.result.now c.index_mut-entry.ensures.value
