use Rattle.std.proofs.Common.{◌+◌, ◌*◌, take}
use Rattle.base_trees.specs.Rose.{node_count, count_all, roses_of}
use Rattle.content_models.specs.Seen.{all_seen}
use Rattle.value_builder.specs.Built.{Puts}
use Rattle.value_contents.specs.Private.Empty.{emptied}
use Rattle.value_contents.proofs.emptying.+emptying.Given as goal

abbrev pub decreases-put_empty_term : goal.decreases-put_empty_term
decreases-put_empty_term l = 4 * node_count l.particle.now

abbrev pub decreases-put_empty_value : goal.decreases-put_empty_value
decreases-put_empty_value l = 4 * node_count l.particle.now + 1

abbrev pub decreases-put_empty_part : goal.decreases-put_empty_part
decreases-put_empty_part l = 4 * node_count l.particle.now + 2

abbrev pub decreases-put_empty_parts : goal.decreases-put_empty_parts
decreases-put_empty_parts l = 4 * count_all (roses_of l.particles.now) + 3

abbrev pub invariant-put_empty_parts-particles : goal.invariant-put_empty_parts-particles
invariant-put_empty_parts-particles l = Puts (emptied (all_seen (roses_of (take l.particle-index l.particles)))) l.initial.values l.values
