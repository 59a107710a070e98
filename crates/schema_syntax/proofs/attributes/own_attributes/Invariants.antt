use Rattle.std.proofs.Common.{◌≡◌, ◌++◌, drop}
use Rattle.schema_syntax.specs.Attributes.{own_attributes}
use Rattle.schema_syntax.proofs.attributes.own_attributes.Given as goal

-- those so far and those of the rest are all
abbrev pub invariant-loop-name : goal.invariant-loop-name
invariant-loop-name l = l.own.items ++ own_attributes (drop l.name-index l.attributes) ≡ own_attributes l.attributes
