-- The law is proved by induction over the kids.
use Rattle.validity_rules.proofs.Mixed.{own_kids}
use Rattle.validity_rules.proofs.laws.own_kids.Goals as goal

pub returns : goal.returns
returns c = own_kids
