-- The law is proved by induction over particles.
use Rattle.content_models.proofs.Matching.{law_of_matching}
use Rattle.content_models.proofs.spot_laws.law_of_matching.Goals as goal

pub returns : goal.returns
returns c = law_of_matching
