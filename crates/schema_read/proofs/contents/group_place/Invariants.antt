use Rattle.std.proofs.Common.{◌≡◌, drop}
use Rattle.schema_read.specs.Contents.{group_place}
use Rattle.schema_read.proofs.contents.group_place.Given as goal

-- the first of those that are left
abbrev pub invariant-loop-kid : goal.invariant-loop-kid
invariant-loop-kid l = group_place (drop l.kid-index l.kids) ≡ group_place l.kids
