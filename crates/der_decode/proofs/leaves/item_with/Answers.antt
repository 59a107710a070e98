use Rattle.std.proofs.Common.{◌≡◌, ap, sym, ◌∙◌, subst}
use Rattle.std.specs.List.{position, position_from}
use Rattle.std.specs.Ordering.{int_eq}
use Rattle.std.proofs.lemmas.Iterator.Adapters.{position_from-zero}
use Rattle.std.proofs.lemmas.Int.{to_z-of_z}
use mir.Syntax.{w128}
use Rattle.der_fields.specs.Reading.{item_with}
use Rattle.der_decode.proofs.leaves.item_with.Goals as goal

pub returns-in-Numbers : goal.returns-in-Numbers
returns-in-Numbers c =
    let z = c.args.z in
    let numbers = c.items.result.now in
    let place : c.place_of.result ≡ position (λ x. int_eq x z) numbers = subst (λ y. c.place_of.result ≡ position (λ x. int_eq x y) numbers) (to_z-of_z w128 z c.ranges.z) c.place_of.ensures in
    place ∙ position_from-zero (λ x. int_eq x z) numbers ∙ ap (λ ns. position_from (λ x. int_eq x z) 0 ns) c.items.ensures ∙ sym (ap (λ f. item_with f z) c.in-Numbers.is)
