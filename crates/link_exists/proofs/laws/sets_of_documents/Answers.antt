use Rattle.link_exists.proofs.Existence.{some_spaces, some_set}
use Rattle.link_exists.proofs.laws.sets_of_documents.Goals as goal

pub returns-clause-made : goal.returns-clause-made
returns-clause-made c = some_spaces

pub returns-clause-linked : goal.returns-clause-linked
returns-clause-linked c = some_set
