use Rattle.link_schemas.proofs.OneSet as sets
use Rattle.link_schemas.proofs.laws.one_set.Goals as goal

pub returns : goal.returns
returns c = sets.one_set
