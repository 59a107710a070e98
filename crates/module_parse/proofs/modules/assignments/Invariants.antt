use Rattle.std.proofs.Common.{length, ◌-◌}
use Rattle.module_grammar.specs.ModuleReading.{assignment_at}
use Rattle.module_parse.proofs.Looping.{More}
use Rattle.module_parse.proofs.modules.assignments.Given as goal

abbrev pub invariant-assignments : goal.invariant-assignments
invariant-assignments l = More (assignment_at l.most) l.bytes l.fn.from l.initial.assignments.items l.assignments.items l.next

abbrev pub decreases-assignments : goal.decreases-assignments
decreases-assignments l = length l.bytes - l.next.at
