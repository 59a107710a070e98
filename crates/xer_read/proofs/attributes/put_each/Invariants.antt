use Rattle.std.proofs.Common.{ℕ, List, take, map}
use Rattle.base_texts.specs.declared.texts.Name.{Name}
use Rattle.schema_components.specs.SetParts.{parts_of}
use Rattle.validity_rules.specs.Asked.{attribute_in}
use Rattle.validity_rules.specs.Attributes.{left}
use Rattle.validity_check.specs.Texts.{AreTexts}
use Rattle.xer_read.specs.Private.Contents.{AreTaken, AttributesMade}
use Rattle.xer_read.specs.Private.Putting.{PartsPut}
use Rattle.xer_read.proofs.attributes.put_each.Given as goal

abbrev pub invariant-uses : goal.invariant-uses
invariant-uses l = (xs : List (Name × List ℕ)) → AreTaken l.set xs l.uses → AreTexts xs l.uses l.texts
    → PartsPut (AttributesMade (map (attribute_in (parts_of l.set)) (take l.i l.uses)) (left xs)) l.initial.values l.values
