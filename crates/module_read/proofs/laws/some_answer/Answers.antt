use Rattle.module_read.proofs.Verdicts.{some_of_all}
use Rattle.module_read.proofs.laws.some_answer.Goals as goal

pub returns : goal.returns
returns c = some_of_all c.texts_are_read.ensures c.least_is_first.ensures c.no_fault_is_printable.ensures
