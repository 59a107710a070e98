use Rattle.std.proofs.Common.{◌≡◌, min, ◌-◌, ◌^◌, take}
use Rattle.base_trees.specs.Rose.{roses_of, depth_all}
use Rattle.base_trees.proofs.trees.Tree.+depth.Given as goal

abbrev pub invariant-loop-kid : goal.invariant-loop-kid
invariant-loop-kid g l = l.depth ≡ min (depth_all (roses_of (take l.kid-index l.kids))) (2 ^ 32 - 1)
