use Rattle.std.proofs.Common.{◌≡◌, ◌+◌, drop}
use Rattle.simple_types.specs.Space.{count_members}
use Rattle.simple_types.specs.Joining.{flattened}
use Rattle.simple_facets.specs.Making.{lent_spaces}
use Rattle.simple_facets.proofs.making.are_few_members.Given as goal

abbrev pub invariant-members : goal.invariant-members
invariant-members l = count_members (flattened (lent_spaces l.members)) + l.left ≡ 1000 + count_members (flattened (lent_spaces (drop l.member-index l.members)))
