use Rattle.std.proofs.Common.{map, drop}
use Rattle.schema_components.specs.SetParts.{parts_of}
use Rattle.validity_rules.specs.Asked.{attribute_in}
use Rattle.validity_check.specs.First.{IsFirst}
use Rattle.validity_check.proofs.ByUses.{FoundFrom}
use Rattle.validity_check.proofs.judging.judge.Given as goal

-- the texts of those from this number on, and the first of these that is wrong
abbrev pub invariant-attributes : goal.invariant-attributes
invariant-attributes l =
    FoundFrom l.attributes l.uses l.left l.texts.items l.run
    × IsFirst (map (attribute_in (parts_of l.set)) l.uses) (drop l.left l.attributes) l.wrong

abbrev pub decreases-attributes : goal.decreases-attributes
decreases-attributes l = l.left
