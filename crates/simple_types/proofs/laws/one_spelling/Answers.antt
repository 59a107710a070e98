use Rattle.simple_types.proofs.OwnSpellings.{one_spelling}
use Rattle.simple_types.proofs.laws.one_spelling.Goals as goal

pub returns : goal.returns
returns c = one_spelling
