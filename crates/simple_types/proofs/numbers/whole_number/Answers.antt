use Rattle.std.proofs.Common.{sym, ◌∙◌, subst, ap}
use Rattle.std.specs.Prelude.{FitsSigned}
use Rattle.std.specs.Str.Parse.{without_leading_sign, starts_with_minus}
use Rattle.std.proofs.lemmas.Int.{to_z-of_z}
use mir.Syntax.{w128}
use Rattle.base_texts.specs.Digits.{is_numeral}
use Rattle.simple_types.proofs.WholeNumbers.{unwritten, written_within, written_below, written_above, numeral_is}
use Rattle.simple_types.proofs.numbers.whole_number.Goals as goal

pub returns-then-not-is_numeral : goal.returns-then-not-is_numeral
returns-then-not-is_numeral c =
    let same = c.without_sign.ensures ∙ ap without_leading_sign c.as_bytes-bytes.ensures.value in
    unwritten _ (sym (ap is_numeral same) ∙ sym c.is_numeral.ensures ∙ c.if-not-is_numeral.true)

pub returns-in-Ok : goal.returns-in-Ok
returns-in-Ok c =
    let same = c.without_sign.ensures ∙ ap without_leading_sign c.as_bytes-bytes.ensures.value in
    let numeral = sym (ap is_numeral same) ∙ sym c.is_numeral.ensures ∙ c.if-not-is_numeral.false in
    let is = c.in-Ok.ensures.value.0.1 in
    let fits : FitsSigned w128 c.in-Ok.n = subst (FitsSigned w128) (sym is) c.in-Ok.ensures.value.0.0.1 in
    rw (to_z-of_z w128 c.in-Ok.n fits) (written_within c.args.text.now c.in-Ok.n numeral fits is)

pub returns-in-Err : goal.returns-in-Err
returns-in-Err c =
    let same = c.without_sign.ensures ∙ ap without_leading_sign c.as_bytes-bytes.ensures.value in
    let numeral = sym (ap is_numeral same) ∙ sym c.is_numeral.ensures ∙ c.if-not-is_numeral.false in
    let minus = sym (ap starts_with_minus c.as_bytes-bytes.ensures.value) ∙ sym c.has_minus.ensures ∙ c.if-has_minus.true in
    written_below c.args.text.now numeral minus (λ fits. c.in-Err.ensures.value.0 (numeral_is _ numeral, fits))

pub returns-in-Err-2 : goal.returns-in-Err-2
returns-in-Err-2 c =
    let same = c.without_sign.ensures ∙ ap without_leading_sign c.as_bytes-bytes.ensures.value in
    let numeral = sym (ap is_numeral same) ∙ sym c.is_numeral.ensures ∙ c.if-not-is_numeral.false in
    let plus = sym (ap starts_with_minus c.as_bytes-bytes.ensures.value) ∙ sym c.has_minus.ensures ∙ c.if-has_minus.false in
    written_above c.args.text.now numeral plus (λ fits. c.in-Err.ensures.value.0 (numeral_is _ numeral, fits))
