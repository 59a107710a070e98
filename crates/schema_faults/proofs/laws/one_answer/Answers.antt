use Rattle.schema_faults.proofs.ShownLaws.{answer, one_shown}
use Rattle.schema_faults.proofs.Least.{none_stands}
use Rattle.schema_faults.specs.Faults.{reasons}
use Rattle.schema_faults.proofs.laws.one_answer.Goals as goal

pub returns-clause-some : goal.returns-clause-some
returns-clause-some c = answer

pub returns-clause-fault : goal.returns-clause-fault
returns-clause-fault c = one_shown

pub returns-clause-not_both : goal.returns-clause-not_both
returns-clause-not_both c = λ root at why none shown. none_stands (reasons root) at why none shown.0
