use Rattle.module_read.proofs.Verdicts.{one_of_all}
use Rattle.module_read.proofs.laws.one_answer.Goals as goal

pub returns : goal.returns
returns c = one_of_all c.texts_are_read.ensures c.least_is_first.ensures
