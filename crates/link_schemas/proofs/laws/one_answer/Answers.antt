use Rattle.link_schemas.proofs.OneAnswer.{some_answer, one_shown, none_shown}
use Rattle.link_schemas.specs.Passes.{passes}
use Rattle.link_schemas.proofs.laws.one_answer.Goals as goal

pub returns-clause-some : goal.returns-clause-some
returns-clause-some c = some_answer

pub returns-clause-fault : goal.returns-clause-fault
returns-clause-fault c = λ docs. one_shown docs passes

pub returns-clause-not_both : goal.returns-clause-not_both
returns-clause-not_both c = λ docs. none_shown docs passes
