use Rattle.std.proofs.Common.{arith, ◌<◌, ◌^◌}
use Rattle.std.proofs.lemmas.Int.{ints}
use Rattle.per_decode.proofs.Signs.{half_is, half_top, two_halves, low_is, high_is}
use Rattle.per_decode.proofs.wholes.signed_of.Goals as goal

pub overflow_cast-result : goal.overflow_cast-result
overflow_cast-result c =
    let h : c.args.x < 2 ^ 127 = omega (arith, half_is c.args.more c.requires.few, half_top c.args.more c.requires.few) in
    omega (arith, ints, h)

pub overflow_sub-result-else-x-half-2 : goal.overflow_sub-result-else-x-half-2
overflow_sub-result-else-x-half-2 c = omega (arith, half_is c.args.more c.requires.few, two_halves c.args.more, c.requires.fits)

pub overflow_cast-result-else-x-half : goal.overflow_cast-result-else-x-half
overflow_cast-result-else-x-half c =
    let half = half_is c.args.more c.requires.few in
    let top = half_top c.args.more c.requires.few in
    omega (arith, ints, half, top)

pub returns-then-x-half : goal.returns-then-x-half
returns-then-x-half c = low_is c.args.x c.args.more c.requires.few (omega (arith, half_is c.args.more c.requires.few))

pub returns-else-x-half : goal.returns-else-x-half
returns-else-x-half c = high_is c.args.x c.args.more _ c.requires.few (half_is c.args.more c.requires.few) (omega arith) c.requires.fits
