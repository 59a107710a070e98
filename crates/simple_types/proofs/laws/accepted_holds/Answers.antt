-- The law is proved by induction over types.
use Rattle.simple_types.proofs.OwnSpellings.{holds_again}
use Rattle.simple_types.proofs.laws.accepted_holds.Goals as goal

pub returns : goal.returns
returns c = holds_again
