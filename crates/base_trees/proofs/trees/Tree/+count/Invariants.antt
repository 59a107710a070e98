use Rattle.std.proofs.Common.{◌≡◌, suc, min, ◌-◌, ◌^◌, take}
use Rattle.base_trees.specs.Rose.{roses_of, count_all}
use Rattle.base_trees.proofs.trees.Tree.+count.Given as goal

abbrev pub invariant-loop-kid : goal.invariant-loop-kid
invariant-loop-kid g l = l.count ≡ min (suc (count_all (roses_of (take l.kid-index l.kids)))) (2 ^ 64 - 1)
