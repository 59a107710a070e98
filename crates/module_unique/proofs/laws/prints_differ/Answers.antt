use Rattle.module_unique.proofs.Unique.{prints_differ}
use Rattle.module_unique.proofs.laws.prints_differ.Goals as goal

pub returns : goal.returns
returns c = prints_differ c.texts_are_read.ensures
