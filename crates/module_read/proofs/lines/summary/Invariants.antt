use Rattle.std.proofs.Common.{◌≡◌, ◌++◌, drop}
use Rattle.std.specs.List.{flat_map}
use Rattle.module_read.specs.Summary.{line}
use Rattle.module_read.proofs.lines.summary.Given as goal

-- what is written, with what is still to be written
abbrev pub invariant-assignments : goal.invariant-assignments
invariant-assignments l = l.out.items ++ flat_map line (drop l.assignment-index l.assignments) ≡ flat_map line l.assignments
