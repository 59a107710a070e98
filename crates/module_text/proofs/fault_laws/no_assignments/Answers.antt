use Rattle.std.proofs.Common.{refl}
use Rattle.module_text.proofs.fault_laws.no_assignments.Goals as goal

pub returns-clause-faults : goal.returns-clause-faults
returns-clause-faults c = refl
