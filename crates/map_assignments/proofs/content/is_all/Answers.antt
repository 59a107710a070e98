use Rattle.std.proofs.Common.{refl, sym}
use Rattle.base_trees.specs.Rose.{kids_of}
use Rattle.map_assignments.proofs.Ordering.{all-some, all-not}
use Rattle.map_assignments.proofs.content.is_all.Goals as goal

pub returns-in-All : goal.returns-in-All
returns-in-All c = sym (all-some c.args.particle.now c.label.result.now c.kids.result.now c.label.ensures c.kids.ensures c.in-All.is)

pub returns-in_default : goal.returns-in_default
returns-in_default c = sym (all-not c.args.particle.now c.label.result.now (kids_of c.args.particle.now) c.label.ensures refl c.in_default.not-All)
