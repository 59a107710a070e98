use Rattle.std.proofs.Common.{◌<◌, ap, sym, ◌∙◌, arith, rules, length, Ok}
use Rattle.std.specs.Prelude.{FitsSigned}
use Rattle.std.proofs.lemmas.Bool.{eqb-true, eqb-false}
use Rattle.std.proofs.lemmas.Int.{to_z-of_z}
use mir.Syntax.{w128}
use Rattle.der_fields.specs.Octets.{signed_value}
use Rattle.der_decode.specs.Private.Leaves.{end_of}
use Rattle.der_decode.proofs.Octets.{from_octet, all_left, first_apart}
use Rattle.der_decode.proofs.Filling.{whole_nothing, whole_long, whole_wide, whole_is}
use Rattle.der_decode.proofs.wholes.whole.Goals as goal

pub returns-then-is_empty-clause-err : goal.returns-then-is_empty-clause-err
returns-then-is_empty-clause-err c =
    let X = c.args.octets.now in
    let s = c.args.spot in
    let xs = from_octet s.at X in
    let is = all_left s.at X in
    whole_nothing X s c.requires xs is (eqb-true (length xs) 0 (sym c.is_empty.ensures ∙ c.if-is_empty.true))

pub returns-then-are_nine_equal-clause-err : goal.returns-then-are_nine_equal-clause-err
returns-then-are_nine_equal-clause-err c =
    let X = c.args.octets.now in
    let s = c.args.spot in
    let xs = from_octet s.at X in
    let is = all_left s.at X in
    let other = eqb-false (length xs) 0 (sym c.is_empty.ensures ∙ c.if-is_empty.false) in
    let some : 0 < length xs = omega (arith, other) in
    whole_long X s c.requires xs is some (sym c.are_nine_equal.ensures ∙ c.if-are_nine_equal.true)

pub returns-then-contents-gt16-clause-err : goal.returns-then-contents-gt16-clause-err
returns-then-contents-gt16-clause-err c =
    let X = c.args.octets.now in
    let s = c.args.spot in
    let xs = from_octet s.at X in
    let is = all_left s.at X in
    let other = eqb-false (length xs) 0 (sym c.is_empty.ensures ∙ c.if-is_empty.false) in
    let some : 0 < length xs = omega (arith, other) in
    whole_wide X s c.requires xs is some (sym c.are_nine_equal.ensures ∙ c.if-are_nine_equal.false) c.if-contents-gt16.true

pub returns-clause-ok : goal.returns-clause-ok
returns-clause-ok c =
    let X = c.args.octets.now in
    let s = c.args.spot in
    let xs = from_octet s.at X in
    let is = all_left s.at X in
    let other = eqb-false (length xs) 0 (sym c.is_empty.ensures ∙ c.if-is_empty.false) in
    let some : 0 < length xs = omega (arith, other) in
    let z = c.signed_of.result in
    let fits : FitsSigned w128 z = search rules in
    whole_is X s c.requires xs is some (sym c.are_nine_equal.ensures ∙ c.if-are_nine_equal.false) z (c.signed_of.ensures.same ∙ sym (ap signed_value (first_apart xs some))) c.signed_of.ensures.fits
    ∙ ap (λ y. Ok (y, end_of X s)) (sym (to_z-of_z w128 z fits))
