use Rattle.std.proofs.Common.{sym, ◌∙◌}
use Rattle.module_text.specs.Faults.{faults}
use Rattle.module_read.proofs.Answering.{none_first, first_bad}
use Rattle.module_read.proofs.reading.module_of.Goals as goal

pub returns-in-Some : goal.returns-in-Some
returns-in-Some c =
    first_bad c.least_is_first.ensures c.args.assignments.now c.requires.utf8 c.requires.text c.in-Some.fault (sym c.in-Some.is ∙ c.in_ok-found.ensures)

pub module_made-requires-clause-faultless : goal.module_made-requires-clause-faultless
module_made-requires-clause-faultless c = none_first (faults c.args.assignments.now) (sym c.in-None.is ∙ c.in_ok-found.ensures)
