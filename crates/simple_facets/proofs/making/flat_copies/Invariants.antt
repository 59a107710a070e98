use Rattle.std.proofs.Common.{◌≡◌, drop}
use Rattle.simple_types.specs.Seen.{spaces_in}
use Rattle.simple_types.specs.Joining.{joined, flattened}
use Rattle.simple_facets.specs.Making.{lent_spaces}
use Rattle.simple_facets.proofs.making.flat_copies.Given as goal

abbrev pub invariant-members : goal.invariant-members
invariant-members l = joined (spaces_in l.flat.items) (flattened (lent_spaces (drop l.member-index l.members))) ≡ flattened (lent_spaces l.members)
