use Rattle.module_text.proofs.laws.places_are_no_text.Goals as goal
use Rattle.module_text.proofs.Placing.{text_of-placed}

pub returns : goal.returns
returns c = text_of-placed
