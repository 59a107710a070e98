-- The law is proved by induction over the kids.
use Rattle.xml_items.proofs.Mixing.{takes_apart, puts_together}
use Rattle.xml_items.proofs.mixed_laws.mixed_kids.Goals as goal

pub returns-clause-apart : goal.returns-clause-apart
returns-clause-apart c = takes_apart

pub returns-clause-together : goal.returns-clause-together
returns-clause-together c = puts_together
