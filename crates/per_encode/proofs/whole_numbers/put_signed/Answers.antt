use Rattle.std.proofs.Common.{rules, ◌≡◌, ◌*◌, ◌+◌, FitsSigned, subst}
use Rattle.std.specs.Int.{w128}
use Rattle.std.proofs.lemmas.Int.{to_z-of_z}
use Rattle.per_fields.specs.Widths.{more_signed, complement}
use Rattle.per_encode.proofs.Puts.{on_ok, signed_put}
use Rattle.per_encode.proofs.whole_numbers.put_signed.Goals as goal

pub returns : goal.returns
returns g c =
    let z = c.args.number in
    let behind = c.signed_octets_behind-behind.result in
    let x = c.complement.result in
    let f : FitsSigned w128 z = search rules in
    let same = to_z-of_z w128 z f in
    let octets : behind ≡ more_signed z = subst (λ n. behind ≡ more_signed n) same c.signed_octets_behind-behind.ensures.octets in
    let is : x ≡ complement (8 * (behind + 1)) z = subst (λ n. x ≡ complement (8 * (behind + 1)) n) same c.complement.ensures.complement in
    on_ok c.put_wide.result
    (λ e. signed_put g.V.Variant.ALIGNED z behind x c.args.sink.now c.put_gap.new.sink c.put_length.new.sink c.put_wide.new.sink octets is c.in_ok-put_gap.ensures c.in_ok-put_length.ensures e)
    c.put_wide.ensures
