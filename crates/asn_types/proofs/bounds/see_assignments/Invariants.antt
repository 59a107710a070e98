use Rattle.std.proofs.Common.{take}
use Rattle.asn_types.specs.Bounds.{IsBounded}
use Rattle.asn_types.proofs.bounds.see_assignments.Given as goal

abbrev pub invariant-assignments : goal.invariant-assignments
invariant-assignments l = IsBounded (take l.assignment-index l.assignments)
