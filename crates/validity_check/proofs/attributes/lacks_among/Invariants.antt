use Rattle.std.proofs.Common.{ℕ, List}
use Rattle.base_texts.specs.declared.texts.Name.{Name}
use Rattle.schema_components.specs.SetParts.{SetParts}
use Rattle.validity_check.specs.Texts.{AreTexts}
use Rattle.validity_check.proofs.Lacking.{StandsSoFar}
use Rattle.validity_check.proofs.attributes.lacks_among.Given as goal

abbrev pub invariant-uses : goal.invariant-uses
invariant-uses l = (s : SetParts) (xs : List (Name × List ℕ)) → AreTexts xs l.uses l.texts → StandsSoFar s l.uses xs l.i
