use Rattle.std.proofs.Common.{◌+◌, ◌*◌, take}
use Rattle.base_trees.specs.Rose.{node_count, count_all, roses_of}
use Rattle.map_printable.specs.Maps.{HaveFixedOctets}
use Rattle.map_printable.proofs.fixed_octets.+fixing.Given as goal

abbrev pub decreases-see_type : goal.decreases-see_type
decreases-see_type l = 2 * node_count l.node.now

abbrev pub decreases-see_kids : goal.decreases-see_kids
decreases-see_kids l = 2 * count_all (roses_of l.kids.now) + 1

abbrev pub invariant-see_kids-kids : goal.invariant-see_kids-kids
invariant-see_kids-kids l = HaveFixedOctets (roses_of (take l.kid-index l.kids))
