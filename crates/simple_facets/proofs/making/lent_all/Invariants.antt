use Rattle.std.proofs.Common.{◌≡◌, drop}
use Rattle.simple_types.specs.Seen.{spaces_in}
use Rattle.simple_types.specs.Joining.{joined}
use Rattle.simple_facets.specs.Making.{lent_spaces}
use Rattle.simple_facets.proofs.making.lent_all.Given as goal

abbrev pub invariant-members : goal.invariant-members
invariant-members l = joined (lent_spaces l.lent.items) (spaces_in (drop l.member-index l.members)) ≡ spaces_in l.members
