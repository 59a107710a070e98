-- The law is proved by induction over the number of the member that takes the text.
use Rattle.simple_types.proofs.OwnSpellings.{chain_of}
use Rattle.simple_types.proofs.laws.chain_ends.Goals as goal

pub returns : goal.returns
returns c = chain_of
