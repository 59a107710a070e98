use Rattle.std.proofs.Common.{◌≤◌, length, drop}
use Rattle.asn_types.specs.Private.Saying.{IsSaid}
use Rattle.asn_types.proofs.said.Said.of.Given as goal

-- what those from this place on say
abbrev pub invariant-last_first : goal.invariant-last_first
invariant-last_first l = record {
  within : l.i ≤ length l.marks;
  said : IsSaid (drop l.i l.marks) l.i l.said;
}

abbrev pub decreases-last_first : goal.decreases-last_first
decreases-last_first l = l.i
