use Rattle.std.proofs.Common.{◌≡◌, ◌+◌, ◌*◌, take}
use Rattle.base_trees.specs.Rose.{node_count, count_all, roses_of}
use Rattle.simple_types.specs.Seen.{spaces_in}
use Rattle.asn_types.specs.Spaces.{spaces_at}
use Rattle.asn_types.proofs.simples.+making.Given as goal

abbrev pub decreases-simple_at : goal.decreases-simple_at
decreases-simple_at l = 2 * node_count l.node.now

abbrev pub decreases-made_item : goal.decreases-made_item
decreases-made_item l = 2 * count_all (roses_of l.kids.now) + 1

abbrev pub decreases-made_members : goal.decreases-made_members
decreases-made_members l = 2 * count_all (roses_of l.kids.now) + 1

abbrev pub invariant-made_members-kids : goal.invariant-made_members-kids
invariant-made_members-kids l = spaces_in l.members.items ≡ spaces_at (roses_of (take l.kid-index l.kids))
