use Rattle.std.proofs.Common.{◌≡◌, ◌+◌, drop}
use Rattle.simple_types.specs.Joining.{flattened}
use Rattle.simple_facets.specs.Making.{lent_spaces, count_all_items}
use Rattle.simple_facets.proofs.making.are_few_items.Given as goal

abbrev pub invariant-members : goal.invariant-members
invariant-members l = count_all_items (flattened (lent_spaces l.members)) + l.left ≡ 10000 + count_all_items (flattened (lent_spaces (drop l.member-index l.members)))
