use Rattle.module_laws.proofs.FirstLaw.{least_first}
use Rattle.module_laws.proofs.laws.least_is_first.Goals as goal

pub returns : goal.returns
returns c = least_first
