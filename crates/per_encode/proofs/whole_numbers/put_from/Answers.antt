use Rattle.std.proofs.Common.{rules, ◌≡◌, FitsSigned, to_z, of_z, subst}
use Rattle.std.specs.Int.{w128}
use Rattle.std.proofs.lemmas.Int.{to_z-of_z}
use Rattle.per_fields.specs.Widths.{distance}
use Rattle.per_encode.proofs.Puts.{on_ok, from_put}
use Rattle.per_encode.proofs.whole_numbers.put_from.Goals as goal

pub returns : goal.returns
returns g c =
    let a = c.args.least in
    let b = c.args.number in
    let x = c.distance-distance.result in
    let f : FitsSigned w128 a = search rules in
    let k : FitsSigned w128 b = search rules in
    let is : x ≡ distance a b = subst (λ m. x ≡ distance m b) (to_z-of_z w128 a f) (subst (λ n. x ≡ distance (to_z w128 (of_z w128 a)) n) (to_z-of_z w128 b k) c.distance-distance.ensures) in
    on_ok c.put_wide.result
    (λ e. from_put g.V.Variant.ALIGNED a b x c.octets_behind-behind.result c.args.sink.now c.put_gap.new.sink c.put_length.new.sink c.put_wide.new.sink
    is c.octets_behind-behind.ensures.octets c.in_ok-put_gap.ensures c.in_ok-put_length.ensures e)
    c.put_wide.ensures
