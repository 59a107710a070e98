use Rattle.std.proofs.Common.{sym, ◌∙◌, arith}
use Rattle.std.proofs.lemmas.Bool.Decides.{nat_tests}
use Rattle.simple_types.proofs.FewDigits.{short_front, digit_more, all_few}
use Rattle.simple_types.proofs.numbers.few_digits.Goals as goal

pub overflow_mul-n : goal.overflow_mul-n
overflow_mul-n c =
    let below = short_front c.args.bytes.now c.loop-b.b-index c.loop-b.n c.loop-b.invariant.digits c.loop-b.invariant.value (omega arith) (omega arith) in
    omega (arith, below)

pub overflow_add-n : goal.overflow_add-n
overflow_add-n c =
    let below = short_front c.args.bytes.now c.loop-b.b-index c.loop-b.n c.loop-b.invariant.digits c.loop-b.invariant.value (omega arith) (omega arith) in
    omega (arith, below)

pub loop-b-preserved : goal.loop-b-preserved
loop-b-preserved c =
    let bytes = c.args.bytes.now in
    let more = digit_more bytes c.loop-b.b-index c.loop-b.n _ c.loop-b-test.true c.loop-b.invariant.digits c.loop-b.invariant.value (sym c.is_digit.ensures ∙ c.if-not-is_digit.false) (omega arith) in
    record { digits = more.0; value = more.1 }

pub returns : goal.returns
returns c =
    all_few c.args.bytes.now c.loop-b.b-index c.loop-b.n (omega arith) (grind (arith, nat_tests)) (omega arith) c.loop-b.invariant.digits c.loop-b.invariant.value
