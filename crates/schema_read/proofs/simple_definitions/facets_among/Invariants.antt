use Rattle.std.proofs.Common.{◌≡◌, ◌++◌, drop}
use Rattle.schema_read.specs.SimpleTypes.{facets_among}
use Rattle.schema_read.proofs.simple_definitions.facets_among.Given as goal

-- those so far and those of the rest are all
abbrev pub invariant-loop-kid : goal.invariant-loop-kid
invariant-loop-kid l = l.facets.items ++ facets_among (drop l.kid-index l.kids) ≡ facets_among l.kids
