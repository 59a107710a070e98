use Rattle.std.proofs.Common.{◌≡◌, ◌+◌, drop}
use Rattle.simple_types.specs.Seen.{spaces_in}
use Rattle.simple_facets.specs.Making.{count_all_items}
use Rattle.simple_facets.proofs.making.beside_items.Given as goal

abbrev pub invariant-members : goal.invariant-members
invariant-members l = count_all_items (spaces_in l.members) + l.left ≡ l.fn.left + count_all_items (spaces_in (drop l.member-index l.members))
