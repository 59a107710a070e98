use Rattle.schema_faults.proofs.ShownLaws.{shown, no_fault}
use Rattle.schema_faults.proofs.Found.{found_one, found_none}
use Rattle.schema_faults.proofs.laws.first_is_shown.Goals as goal

pub returns-clause-fault : goal.returns-clause-fault
returns-clause-fault c = λ root bound at why ascend. (λ found. shown root bound (record { at = at; why = why }) ascend found, λ is. found_one root bound ascend at why is)

pub returns-clause-none : goal.returns-clause-none
returns-clause-none c = λ root bound ascend. (no_fault root, found_none root bound ascend)
