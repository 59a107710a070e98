use Rattle.std.proofs.Common.{◌≡◌, ◌+◌, ◌-◌, ap, sym, ◌∙◌, arith, take, drop}
use Rattle.der_fields.specs.declared.stops.Why.TheVariants.{Short}
use Rattle.der_fields.specs.FieldsReading.{stop_at}
use Rattle.der_decode.proofs.Windows.{long_short, long_not_shortest, long_window, long_stops, found_window, found_stop}
use Rattle.der_decode.proofs.fields.long.Goals as goal

pub returns-then-size-at-clause-err : goal.returns-then-size-at-clause-err
returns-then-size-at-clause-err c = long_short c.args.octets.now c.args.spot c.args.count c.requires.there c.requires.first (omega arith)

pub returns-then-is_not_shortest-clause-err : goal.returns-then-is_not_shortest-clause-err
returns-then-is_not_shortest-clause-err c =
    let at = c.args.spot.at + 1 in
    let rest = drop at c.args.octets.now in
    let n = at + c.args.count - at in
    let e : c.args.count ≡ n = omega arith in
    long_not_shortest c.args.octets.now c.args.spot c.args.count c.requires.there c.requires.first (take n rest) (omega arith) (ap (λ m. take m rest) e) (sym c.is_not_shortest.ensures ∙ c.if-is_not_shortest.true)

pub returns-in-Some-clause-ok : goal.returns-in-Some-clause-ok
returns-in-Some-clause-ok c =
    let at = c.args.spot.at + 1 in
    let rest = drop at c.args.octets.now in
    let n = at + c.args.count - at in
    let e : c.args.count ≡ n = omega arith in
    found_window c.args.octets.now c.args.spot (at + c.args.count) c.in-Some.n
    (long_window c.args.octets.now c.args.spot c.args.count c.requires.there c.requires.first (take n rest) (omega arith) (ap (λ m. take m rest) e) (sym c.is_not_shortest.ensures ∙ c.if-is_not_shortest.false) c.in-Some.n c.in-Some.ensures)
    c.filled.result c.filled.ensures.ok

pub returns-in-Some-clause-err : goal.returns-in-Some-clause-err
returns-in-Some-clause-err c =
    let at = c.args.spot.at + 1 in
    let rest = drop at c.args.octets.now in
    let n = at + c.args.count - at in
    let e : c.args.count ≡ n = omega arith in
    found_stop c.args.octets.now c.args.spot (at + c.args.count + c.in-Some.n) (stop_at c.args.spot.at Short)
    (λ few. long_stops c.args.octets.now c.args.spot c.args.count c.requires.there c.requires.first (take n rest) (omega arith) (ap (λ m. take m rest) e) (sym c.is_not_shortest.ensures ∙ c.if-is_not_shortest.false) (omega (arith, few, c.in-Some.ensures)))
    c.filled.result c.filled.ensures.err

pub returns-in-None-clause-err : goal.returns-in-None-clause-err
returns-in-None-clause-err c =
    let at = c.args.spot.at + 1 in
    let rest = drop at c.args.octets.now in
    let n = at + c.args.count - at in
    let e : c.args.count ≡ n = omega arith in
    long_stops c.args.octets.now c.args.spot c.args.count c.requires.there c.requires.first (take n rest) (omega arith) (ap (λ m. take m rest) e) (sym c.is_not_shortest.ensures ∙ c.if-is_not_shortest.false) (omega (arith, c.in-None.ensures))
