use Rattle.std.proofs.Common.{◌≡◌, ◌≤◌, length, drop}
use Rattle.xml_pieces.specs.Namespaces.{expanded_twice}
use Rattle.xml_pieces.proofs.Repeated.{HasExpanded}
use Rattle.xml_pieces.proofs.duplicates.expanded_twice.Given as goal

-- what was found behind this place
abbrev pub invariant-last_first : goal.invariant-last_first
invariant-last_first l = record {
  within : l.at ≤ length l.attributes;
  has : HasExpanded l.later (drop l.at l.attributes);
  twice : l.twice ≡ expanded_twice (drop l.at l.attributes);
}

abbrev pub decreases-last_first : goal.decreases-last_first
decreases-last_first l = l.at
