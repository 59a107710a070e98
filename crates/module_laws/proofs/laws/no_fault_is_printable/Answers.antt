use Rattle.module_laws.proofs.SecondLaw.{no_fault_printable}
use Rattle.module_laws.proofs.laws.no_fault_is_printable.Goals as goal

pub returns : goal.returns
returns c = no_fault_printable
