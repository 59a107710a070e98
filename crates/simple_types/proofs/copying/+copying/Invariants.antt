use Rattle.std.proofs.Common.{◌≡◌, ◌+◌, ◌*◌, take}
use Rattle.simple_types.specs.Space.{count_parts, count_all_parts}
use Rattle.simple_types.specs.Seen.{space_of, spaces_in}
use Rattle.simple_types.specs.Joining.{joined}
use Rattle.simple_types.proofs.copying.+copying.Given as goal

abbrev pub decreases-copy : goal.decreases-copy
decreases-copy l = 2 * count_parts (space_of l.simple.now)

abbrev pub decreases-append_copies : goal.decreases-append_copies
decreases-append_copies l = 2 * count_all_parts (spaces_in l.members.now) + 1

abbrev pub invariant-append_copies-members : goal.invariant-append_copies-members
invariant-append_copies-members l = spaces_in l.out.items ≡ joined (spaces_in l.initial.out.items) (spaces_in (take l.member-index l.members))
