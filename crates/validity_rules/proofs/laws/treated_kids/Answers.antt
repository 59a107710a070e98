-- The law is proved by induction over the kids.
use Rattle.validity_rules.proofs.Mixed.{treated_kids}
use Rattle.validity_rules.proofs.laws.treated_kids.Goals as goal

pub returns : goal.returns
returns c = treated_kids
