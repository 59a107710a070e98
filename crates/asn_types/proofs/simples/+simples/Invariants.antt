use Rattle.std.proofs.Common.{◌+◌, ◌*◌, take}
use Rattle.base_trees.specs.Rose.{node_count, count_all, roses_of}
use Rattle.simple_types.specs.Seen.{spaces_in}
use Rattle.simple_types.specs.Sound.{AreSound}
use Rattle.asn_types.specs.Simples.{MapToEach}
use Rattle.asn_types.proofs.simples.+simples.Given as goal

abbrev pub decreases-find_simple : goal.decreases-find_simple
decreases-find_simple l = 4 * node_count l.node.now + 2

abbrev pub decreases-list_at : goal.decreases-list_at
decreases-list_at l = 4 * node_count l.node.now + 1

abbrev pub decreases-union_at : goal.decreases-union_at
decreases-union_at l = 4 * node_count l.node.now + 1

abbrev pub decreases-members_at : goal.decreases-members_at
decreases-members_at l = 4 * count_all (roses_of l.kids.now) + 3

abbrev pub invariant-members_at-kids : goal.invariant-members_at-kids
invariant-members_at-kids l = AreSound (spaces_in l.members.items) × MapToEach (spaces_in l.members.items) (roses_of (take l.kid-index l.kids))
