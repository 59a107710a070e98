use Rattle.schema_components.specs.SetParts.{SetParts}
use Rattle.validity_check.proofs.Lacking.{StandsSoFar}
use Rattle.validity_check.proofs.attributes.lacks_among_few.Given as goal

abbrev pub invariant-loop-wanted : goal.invariant-loop-wanted
invariant-loop-wanted l = (s : SetParts) → StandsSoFar s l.uses l.attributes l.wanted-index
