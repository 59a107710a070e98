use Rattle.std.proofs.Common.{◌≡◌, List, ℕ, true, sym, ◌∙◌, subst, ap}
use Rattle.std.specs.Prelude.{FitsSigned}
use Rattle.std.specs.Str.Parse.{without_leading_sign, signed_digits_value, IsNumeral}
use Rattle.std.proofs.lemmas.Int.{to_z-of_z}
use mir.Syntax.{w128}
use Rattle.base_texts.specs.Digits.{is_numeral}
use Rattle.simple_types.proofs.WholeNumbers.{numeral_is}
use Rattle.module_pieces.proofs.Numerals.{number-utf8, not-kept, is-kept, no-number}
use Rattle.module_pieces.proofs.numbers.whole_number.Goals as goal

pub returns-then-not-is_numeral : goal.returns-then-not-is_numeral
returns-then-not-is_numeral c = no-number _ (ap is_numeral (sym c.without_sign.ensures) ∙ sym c.is_numeral.ensures ∙ c.if-not-is_numeral.true)

pub utf8_text-requires : goal.utf8_text-requires
utf8_text-requires c = number-utf8 _ (ap is_numeral (sym c.without_sign.ensures) ∙ sym c.is_numeral.ensures ∙ c.if-not-is_numeral.false)

pub returns-in-Ok : goal.returns-in-Ok
returns-in-Ok c =
    let numeral : is_numeral (without_leading_sign c.args.bytes.now) ≡ true =
    ap is_numeral (sym c.without_sign.ensures) ∙ sym c.is_numeral.ensures ∙ c.if-not-is_numeral.false in
    let is = c.in-Ok.ensures.value.0.1 in
    let fits : FitsSigned w128 c.in-Ok.n = subst (FitsSigned w128) (sym is) c.in-Ok.ensures.value.0.0.1 in
    rw (to_z-of_z w128 c.in-Ok.n fits) (is-kept c.args.bytes.now c.in-Ok.n numeral fits (is ∙ ap (signed_digits_value 10) c.utf8_text.ensures))

pub returns-in-Err : goal.returns-in-Err
returns-in-Err c =
    let numeral : is_numeral (without_leading_sign c.args.bytes.now) ≡ true =
    ap is_numeral (sym c.without_sign.ensures) ∙ sym c.is_numeral.ensures ∙ c.if-not-is_numeral.false in
    let P : List ℕ → Type 0 = λ t. IsNumeral 10 (without_leading_sign t) × FitsSigned w128 (signed_digits_value 10 t) in
    not-kept c.args.bytes.now numeral (λ fits. c.in-Err.ensures.value.0 (subst P (sym c.utf8_text.ensures) (numeral_is _ numeral, fits)))
