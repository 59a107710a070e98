use Rattle.module_unique.proofs.NoFault.{no_fault}
use Rattle.module_unique.proofs.laws.printable_has_no_fault.Goals as goal

pub returns : goal.returns
returns c = no_fault c.texts_are_read.ensures c.no_fault_is_printable.ensures
