use Rattle.std.proofs.Common.{◌+◌, ◌*◌, drop}
use Rattle.simple_types.specs.Space.{count_parts, count_all_parts}
use Rattle.simple_types.specs.Seen.{space_of, spaces_in}
use Rattle.map_assignments.proofs.Members.{LeadsToMembers}
use Rattle.map_assignments.proofs.simple.+simple.Given as goal

abbrev pub decreases-simple_type : goal.decreases-simple_type
decreases-simple_type l = 3 * count_parts (space_of l.simple.now)

abbrev pub decreases-union_type : goal.decreases-union_type
decreases-union_type l = 3 * count_all_parts (spaces_in l.members.now) + 2

abbrev pub decreases-push_members : goal.decreases-push_members
decreases-push_members l = 3 * count_all_parts (spaces_in l.members.now) + 1

abbrev pub invariant-push_members-members : goal.invariant-push_members-members
invariant-push_members-members l =
    LeadsToMembers l.parts.scope (spaces_in (drop l.member-index l.members)) l.parts.components.items l.parts.kids.items (spaces_in l.members)
