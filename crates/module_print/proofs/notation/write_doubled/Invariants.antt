use Rattle.std.proofs.Common.{◌≡◌, ◌++◌, length}
use Rattle.std.specs.List.{flat_map}
use Rattle.module_print.specs.Notation.{doubled}
use Rattle.module_print.proofs.notation.write_doubled.Given as goal

-- what is written, with what is still to be written
abbrev pub invariant-runs : goal.invariant-runs
invariant-runs l = l.out.items ++ flat_map doubled l.rest ≡ l.fn.out.items ++ flat_map doubled l.bytes

abbrev pub decreases-runs : goal.decreases-runs
decreases-runs l = length l.rest
