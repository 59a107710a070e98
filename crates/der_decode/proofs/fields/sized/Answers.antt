use Rattle.std.proofs.Common.{◌≡◌, ◌+◌, ◌<◌, arith, get_or}
use Rattle.der_fields.specs.declared.stops.Why.TheVariants.{Short}
use Rattle.der_fields.specs.FieldsReading.{stop_at}
use Rattle.der_decode.proofs.Windows.{at_end, short_window, short_stops, found_window, found_stop}
use Rattle.der_decode.proofs.fields.sized.Goals as goal

pub returns-then-size-spot-clause-err : goal.returns-then-size-spot-clause-err
returns-then-size-spot-clause-err c = at_end c.args.octets.now c.args.spot c.if-size-spot.true

pub returns-then-first-lt128-clause-ok : goal.returns-then-first-lt128-clause-ok
returns-then-first-lt128-clause-ok c =
    let s = c.args.spot in
    let is : get_or c.args.octets.now s.at 0 ≡ c.from.result = omega (arith, c.from.ensures) in
    let small : c.from.result < 128 = omega (arith, is, c.if-first-lt128.true) in
    found_window c.args.octets.now s (s.at + 1) c.from.result (short_window c.args.octets.now s c.from.result c.if-size-spot.false is small) c.filled.result c.filled.ensures.ok

pub returns-then-first-lt128-clause-err : goal.returns-then-first-lt128-clause-err
returns-then-first-lt128-clause-err c =
    let s = c.args.spot in
    let is : get_or c.args.octets.now s.at 0 ≡ c.from.result = omega (arith, c.from.ensures) in
    let small : c.from.result < 128 = omega (arith, is, c.if-first-lt128.true) in
    found_stop c.args.octets.now s (s.at + 1 + c.from.result) (stop_at s.at Short) (short_stops c.args.octets.now s c.from.result c.if-size-spot.false is small) c.filled.result c.filled.ensures.err
