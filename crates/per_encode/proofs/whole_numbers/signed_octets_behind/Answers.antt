use Rattle.std.proofs.Common.{rules, ◌≡◌, ◌+◌, ◌-◌, ◌*◌, ◌/◌, ◌<◌, ◌^◌, FitsSigned, sym, subst, arith}
use Rattle.std.specs.Int.{w128}
use Rattle.std.proofs.lemmas.Int.{to_z-of_z}
use Rattle.per_fields.specs.Widths.{magnitude}
use Rattle.per_fields.proofs.WidthLaws.{width_le}
use Rattle.per_encode.proofs.Bits.{signed_fits}
use Rattle.per_encode.proofs.whole_numbers.signed_octets_behind.Goals as goal

pub returns-clause-few : goal.returns-clause-few
returns-clause-few c = omega (arith, c.width.ensures.width, width_le c.magnitude.result 127 c.magnitude.ensures.fits)

pub returns-clause-fits : goal.returns-clause-fits
returns-clause-fits c =
    let z = c.args.number in
    let f : FitsSigned w128 z = search rules in
    let is : c.magnitude.result ≡ magnitude z = subst (λ n. c.magnitude.result ≡ magnitude n) (to_z-of_z w128 z f) c.magnitude.ensures.magnitude in
    subst (λ m. m < 2 ^ (8 * (c.width.result / 8 + 1) - 1)) is
    (subst (λ w. c.magnitude.result < 2 ^ (8 * (w / 8 + 1) - 1)) (sym c.width.ensures.width) (signed_fits c.magnitude.result))
