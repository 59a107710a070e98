use Rattle.std.proofs.Common.{◌≡◌, ◌+◌, ◌-◌, arith}
use Rattle.xml_write.proofs.Moving.{moved-on}
use Rattle.xml_write.proofs.splicing.move_up.Goals as goal

pub loop-left-preserved : goal.loop-left-preserved
loop-left-preserved c =
    let left = c.loop-left.left - c.min-count.result in
    let split : c.loop-left.left ≡ left + c.min-count.result = omega arith in
    moved-on c.args.gap left c.min-count.result c.loop-left.left c.args.bytes.now c.loop-left.bytes c.copy_by_block.new.bytes split c.loop-left.invariant c.copy_by_block.ensures
