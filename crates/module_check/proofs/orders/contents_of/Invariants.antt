use Rattle.std.proofs.Common.{take}
use Rattle.module_check.specs.Known.{AreContents}
use Rattle.module_check.proofs.orders.contents_of.Given as goal

abbrev pub invariant-assignments : goal.invariant-assignments
invariant-assignments l = AreContents l.contents.items (take l.assignment-index l.assignments)
