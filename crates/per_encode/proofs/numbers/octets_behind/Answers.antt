use Rattle.std.proofs.Common.{◌≡◌, ◌+◌, ◌-◌, ◌*◌, ◌/◌, ◌<◌, ◌^◌, sym, ap, subst, arith}
use Rattle.per_fields.specs.Widths.{more_of}
use Rattle.per_fields.proofs.WidthLaws.{octets_fit}
use Rattle.per_encode.proofs.numbers.octets_behind.Goals as goal

pub returns-then-width-eq0-clause-fits : goal.returns-then-width-eq0-clause-fits
returns-then-width-eq0-clause-fits c =
    let x = c.args.number in
    let e : more_of x ≡ 0 = omega (arith, c.width-width.ensures.width, c.if-width-eq0.true) in
    subst (λ k. x < 2 ^ (8 * (k + 1))) e (octets_fit x)

pub returns-else-width-eq0-clause-fits : goal.returns-else-width-eq0-clause-fits
returns-else-width-eq0-clause-fits c =
    let x = c.args.number in
    let e : more_of x ≡ (c.width-width.result + 7) / 8 - 1 = ap (λ w. (w + 7) / 8 - 1) (sym c.width-width.ensures.width) in
    subst (λ k. x < 2 ^ (8 * (k + 1))) e (octets_fit x)
