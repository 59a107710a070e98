use Rattle.base_flat_trees.proofs.Forests.{whole_is, forest_is}
use Rattle.base_flat_trees.proofs.Zipped.{stands, finished}
use Rattle.base_flat_trees.proofs.builders.Builder.finish.Goals as goal

pub invariant_of-result : goal.invariant_of-result
invariant_of-result g c =
    let old = stands c.self.inside.entries.items c.self.inside.inner c.self.inside.level c.args.self c.self.invariant c.self.view_is in
    whole_is c.self.inside.entries.items c.args.self.kids (finished c.self.inside.entries.items c.self.inside.inner c.self.inside.level c.args.self old c.requires)

pub returns : goal.returns
returns g c =
    let old = stands c.self.inside.entries.items c.self.inside.inner c.self.inside.level c.args.self c.self.invariant c.self.view_is in
    forest_is c.self.inside.entries.items c.args.self.kids (finished c.self.inside.entries.items c.self.inside.inner c.self.inside.level c.args.self old c.requires)
