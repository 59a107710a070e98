use Rattle.std.proofs.Common.{sym, ap, ◌∙◌}
use Rattle.std.specs.Prelude.{FitsSigned}
use Rattle.std.specs.Str.Parse.{digits_value}
use Rattle.std.proofs.lemmas.Int.{to_z-of_z}
use mir.Syntax.{w128}
use Rattle.base_texts.specs.Digits.{is_numeral}
use Rattle.simple_types.proofs.Collapsed.{one_word, many_write_none}
use Rattle.simple_types.proofs.FewDigits.{few_written}
use Rattle.simple_types.proofs.numbers.collapsed_number.Goals as goal

pub returns-in-Some : goal.returns-in-Some
returns-in-Some c =
    let same = c.as_bytes.ensures.value in
    let known = c.in-Some.ensures in
    let fits : FitsSigned w128 c.from.result = record { sfits = c.from.type_inv } in
    rw (to_z-of_z w128 c.from.result fits, c.from.ensures)
    (few_written c.args.text.now c.in-Some.n (sym (ap is_numeral same) ∙ known.0) (known.1 ∙ ap (digits_value 10) same) known.2)

pub returns-in-Some-only_word : goal.returns-in-Some-only_word
returns-in-Some-only_word c = rw (one_word c.args.text.now c.in-Some-only_word.word.now c.in-Some-only_word.ensures) c.whole_number.ensures

pub returns-in-None : goal.returns-in-None
returns-in-None c = many_write_none c.args.text.now c.in-None.ensures
