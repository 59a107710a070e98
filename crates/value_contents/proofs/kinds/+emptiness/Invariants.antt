use Rattle.std.proofs.Common.{◌≡◌, ◌+◌, ◌*◌, drop}
use Rattle.base_trees.specs.Rose.{node_count, count_all, roses_of}
use Rattle.content_models.specs.Clear.{all_empty, any_empty}
use Rattle.content_models.specs.Seen.{all_seen}
use Rattle.value_contents.proofs.kinds.+emptiness.Given as goal

abbrev pub decreases-may_be_empty : goal.decreases-may_be_empty
decreases-may_be_empty l = 2 * node_count l.particle.now

abbrev pub decreases-all_may_be_empty : goal.decreases-all_may_be_empty
decreases-all_may_be_empty l = 2 * count_all (roses_of l.particles.now) + 1

abbrev pub decreases-one_may_be_empty : goal.decreases-one_may_be_empty
decreases-one_may_be_empty l = 2 * count_all (roses_of l.particles.now) + 1

abbrev pub invariant-all_may_be_empty-particles : goal.invariant-all_may_be_empty-particles
invariant-all_may_be_empty-particles l = all_empty (all_seen (roses_of l.particles)) ≡ all_empty (all_seen (roses_of (drop l.particle-index l.particles)))

abbrev pub invariant-one_may_be_empty-particles : goal.invariant-one_may_be_empty-particles
invariant-one_may_be_empty-particles l = any_empty (all_seen (roses_of l.particles)) ≡ any_empty (all_seen (roses_of (drop l.particle-index l.particles)))
