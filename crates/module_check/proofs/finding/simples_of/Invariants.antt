use Rattle.std.proofs.Common.{take}
use Rattle.module_check.specs.Known.{AreSimples}
use Rattle.module_check.proofs.finding.simples_of.Given as goal

abbrev pub invariant-assignments : goal.invariant-assignments
invariant-assignments l = AreSimples l.simples.items (take l.assignment-index l.assignments)
