use Rattle.std.proofs.Common.{take}
use Rattle.base_trees.specs.Rose.{roses_of, AllowedAll}
use Rattle.base_trees.proofs.trees.Tree.+is_allowed.Given as goal

abbrev pub invariant-loop-kid : goal.invariant-loop-kid
invariant-loop-kid g l = AllowedAll g.L.Shape.allowed (roses_of (take l.kid-index l.kids))
