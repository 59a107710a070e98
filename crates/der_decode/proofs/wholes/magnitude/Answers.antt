use Rattle.std.proofs.Common.{◌≡◌, ◌+◌, ◌*◌, ◌<◌, ap, sym, ◌∙◌, arith, drop, get_or}
use Rattle.der_fields.specs.Octets.{value_from}
use Rattle.der_decode.specs.Private.Signs.{turned, turned_octet}
use Rattle.der_decode.proofs.Signs.{room, octet_more, fits_wide, turned_more}
use Rattle.der_decode.proofs.wholes.magnitude.Goals as goal

pub overflow_mul-number : goal.overflow_mul-number
overflow_mul-number c = omega (arith, room c.octets.number c.octets.octet-index (omega arith) c.octets.invariant.below)

pub overflow_add-number : goal.overflow_add-number
overflow_add-number c =
    let low : c.from.result < 256 = omega (arith, c.from.ensures) in
    omega (arith, low, room c.octets.number c.octets.octet-index (omega arith) c.octets.invariant.below)

pub octets-preserved : goal.octets-preserved
octets-preserved c =
    let xs = c.args.others.now in
    let b = c.args.negative in
    let i = c.octets.octet-index in
    let n = c.octets.number in
    let e : c.from.result ≡ turned_octet b (get_or xs i 0) = c.from.ensures ∙ c.turned.ensures in
    let low : c.from.result < 256 = omega (arith, c.from.ensures) in
    record {
      rest = ap (λ x. value_from (256 * n + x) (turned b (drop (i + 1) xs))) e ∙ sym (turned_more b xs n i c.octets-test.true) ∙ c.octets.invariant.rest;
      below = octet_more n c.from.result i c.octets.invariant.below low;
    }

pub returns-clause-below : goal.returns-clause-below
returns-clause-below c = fits_wide c.octets.number c.octets.octet-index (omega arith) c.octets.invariant.below
