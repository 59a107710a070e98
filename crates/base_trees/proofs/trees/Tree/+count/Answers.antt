use Rattle.std.proofs.Common.{arith}
use Rattle.base_trees.proofs.Kids.{count_all-take}
use Rattle.base_trees.proofs.trees.Tree.+count.Goals as goal

pub loop-kid-preserved : goal.loop-kid-preserved
loop-kid-preserved g t c =
    omega (arith, count_all-take c.as_slice-kids.result.now c.loop-kid.kid-index c.kid-item.result c.loop-kid-test.true c.kid-item.is, c.count.ensures)
