use Rattle.std.proofs.Common.{◌≡◌, ◌≤◌, length, drop}
use Rattle.xml_pieces.specs.Namespaces.{written_twice}
use Rattle.xml_pieces.proofs.Repeated.{HasBound, binding}
use Rattle.xml_pieces.proofs.duplicates.bound_twice.Given as goal

-- what was found behind this place
abbrev pub invariant-last_first : goal.invariant-last_first
invariant-last_first l = record {
  within : l.at ≤ length l.attributes;
  has : HasBound l.later (drop l.at l.attributes);
  twice : l.twice ≡ written_twice (binding (drop l.at l.attributes));
}

abbrev pub decreases-last_first : goal.decreases-last_first
decreases-last_first l = l.at
