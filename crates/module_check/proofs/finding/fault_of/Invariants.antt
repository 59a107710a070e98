use Rattle.std.proofs.Common.{◌≡◌, drop}
use Rattle.module_text.specs.Listed.{first}
use Rattle.module_text.specs.Faults.{faults, faults_from}
use Rattle.module_check.proofs.finding.fault_of.Given as goal

abbrev pub invariant-assignments : goal.invariant-assignments
invariant-assignments l =
    first (faults_from l.context.assignments.now l.seen (drop l.assignment-index l.assignments)) ≡ first (faults l.context.assignments.now)
