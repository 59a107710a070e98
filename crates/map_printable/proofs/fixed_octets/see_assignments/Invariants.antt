use Rattle.std.proofs.Common.{take}
use Rattle.map_printable.specs.Maps.{FixedAreOctets}
use Rattle.map_printable.proofs.fixed_octets.see_assignments.Given as goal

abbrev pub invariant-assignments : goal.invariant-assignments
invariant-assignments l = FixedAreOctets (take l.assignment-index l.assignments)
