use Rattle.module_unique.proofs.Exactly.{told_exactly}
use Rattle.module_unique.proofs.laws.told_exactly.Goals as goal

pub returns : goal.returns
returns c = told_exactly c.printable_has_no_fault.ensures c.one_answer.ensures
