use Rattle.std.proofs.Common.{◌≡◌, ◌+◌, ◌*◌, drop}
use Rattle.simple_types.specs.Space.{count_parts, count_all_parts}
use Rattle.simple_types.specs.Seen.{space_of, spaces_in}
use Rattle.simple_types.specs.Sound.{have_list}
use Rattle.simple_types.proofs.unions.+listing.Given as goal

abbrev pub decreases-has_list : goal.decreases-has_list
decreases-has_list l = 2 * count_parts (space_of l.simple.now)

abbrev pub decreases-have_list : goal.decreases-have_list
decreases-have_list l = 2 * count_all_parts (spaces_in l.members.now) + 1

abbrev pub invariant-have_list-members : goal.invariant-have_list-members
invariant-have_list-members l = have_list (spaces_in l.members) ≡ have_list (spaces_in (drop l.member-index l.members))
