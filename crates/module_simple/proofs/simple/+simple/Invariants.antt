use Rattle.std.proofs.Common.{◌≡◌, ◌+◌, ◌*◌, drop}
use Rattle.base_trees.specs.Rose.{node_count, count_all, roses_of}
use Rattle.simple_types.specs.Seen.{spaces_in}
use Rattle.simple_types.specs.Sound.{AreSound}
use Rattle.module_text.specs.Simple.{members_told}
use Rattle.module_simple.proofs.Telling.{with_those}
use Rattle.module_simple.proofs.simple.+simple.Given as goal

abbrev pub decreases-simple_told : goal.decreases-simple_told
decreases-simple_told l = 3 * node_count l.node.now

abbrev pub decreases-members_told : goal.decreases-members_told
decreases-members_told l = 3 * count_all (roses_of l.kids.now) + 1

abbrev pub decreases-union_simple : goal.decreases-union_simple
decreases-union_simple l = 3 * count_all (roses_of l.kids.now) + 2

abbrev pub decreases-item_told : goal.decreases-item_told
decreases-item_told l = 3 * count_all (roses_of l.kids.now) + 1

abbrev pub decreases-list_simple : goal.decreases-list_simple
decreases-list_simple l = 3 * count_all (roses_of l.kids.now) + 2

abbrev pub invariant-members_told-kids : goal.invariant-members_told-kids
invariant-members_told-kids l =
    (with_those l.members.items (members_told (roses_of (drop l.kid-index l.kids))) ≡ members_told (roses_of l.kids)) × AreSound (spaces_in l.members.items)
