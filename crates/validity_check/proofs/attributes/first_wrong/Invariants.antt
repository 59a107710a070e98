use Rattle.std.proofs.Common.{map}
use Rattle.schema_components.specs.SetParts.{parts_of}
use Rattle.validity_rules.specs.Asked.{attribute_in}
use Rattle.validity_check.specs.Uses.{IsRun}
use Rattle.validity_check.proofs.Going.{GoesOn}
use Rattle.validity_check.proofs.attributes.first_wrong.Given as goal

abbrev pub invariant-loop-found : goal.invariant-loop-found
invariant-loop-found l = GoesOn (map (attribute_in (parts_of l.set)) l.uses) l.attributes l.found-index × IsRun l.uses l.run
