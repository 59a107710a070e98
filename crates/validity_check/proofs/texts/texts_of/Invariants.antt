use Rattle.validity_check.proofs.ByUses.{FoundFrom}
use Rattle.validity_check.proofs.texts.texts_of.Given as goal

abbrev pub invariant-attributes : goal.invariant-attributes
invariant-attributes l = FoundFrom l.attributes l.uses l.left l.texts.items l.run

abbrev pub decreases-attributes : goal.decreases-attributes
decreases-attributes l = l.left
