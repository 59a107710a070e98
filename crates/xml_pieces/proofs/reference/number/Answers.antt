use Rattle.std.proofs.Common.{◌<◌, length, rules}
use Rattle.xml_pieces.proofs.Numbers.{step}
use Rattle.xml_pieces.proofs.reference.number.Goals as goal

pub loop-digit-preserved : goal.loop-digit-preserved
loop-digit-preserved c =
    let lt : c.loop-digit.digit-index < length c.args.digits.now = search rules in
    record {
      small = search rules;
      so_far = rw c.min-number.ensures (rw c.digit_value.ensures.value (step c.args.base c.loop-digit.number 0x110000 c.args.digits.now c.loop-digit.digit-index _ c.requires.low lt c.loop-digit.invariant.so_far));
    }
