-- With `-` before them or without.
use Rattle.std.proofs.Common.{◌∙◌, sym, ap, subst, arith, Err}
use Rattle.std.proofs.lemmas.Result.{err_from_is_err_and}
use Rattle.module_grammar.specs.declared.reach.Stop.TheVariants as stop
use Rattle.module_grammar.specs.Reading.{word_at}
use Rattle.module_grammar.specs.Reached.{reading, Passes}
use Rattle.module_grammar.specs.NameReading.{numeral_at}
use Rattle.module_parse.specs.Spans.{GivesSpan}
use Rattle.module_parse.proofs.Numerals.{minus, word_byte, signed_negative, signed_as_numeral, no_minus, no_digit_behind, stops_signed, stops_numeral}
use Rattle.module_parse.proofs.names.behind_signed.Goals.{in-Ok+in-Err-numeral+in_ok-far-in-Err-numeral, in-Err+in_ok-far-in-Err}
use Rattle.module_parse.proofs.names.behind_signed.Goals as goal

pub returns-in-Ok-numeral-clause-value : goal.returns-in-Ok-numeral-clause-value
returns-in-Ok-numeral-clause-value c = signed_negative c.args.bytes.now c.args.from c.in-Ok.next c.in-Ok-numeral.end c.in-Ok.ensures.value c.in-Ok-numeral.ensures.value c.in-Ok-numeral.ensures.within.0

pub returns-in-Ok-numeral-clause-within : goal.returns-in-Ok-numeral-clause-within
returns-in-Ok-numeral-clause-within c =
    let w = word_byte 45 c.args.bytes.now c.args.from c.in-Ok.next c.in-Ok.ensures.value in
    (omega (arith, w.next, c.in-Ok-numeral.ensures.within.0), c.in-Ok-numeral.ensures.within.1)

pub returns-in_err-far-in-Err-numeral-clause-value : goal.returns-in_err-far-in-Err-numeral-clause-value
returns-in_err-far-in-Err-numeral-clause-value c =
    let p = err_from_is_err_and c.from_residual.result c.from_residual.ensures.1 in
    let e = c.in_err-far-in-Err-numeral.ensures in
    rw (p.1, p.2)
    (stops_numeral c.args.bytes.now c.args.from c.in-Ok.next c.in_err-far-in-Err-numeral.field-0.0 e.1 c.in-Ok.ensures.value
    (subst (λ k. GivesSpan numeral_at c.args.bytes.now c.in-Ok.next (Err k)) (sym e.0) c.in-Err-numeral.ensures.value))

pub returns-in_err-far-in-Err-clause-value : goal.returns-in_err-far-in-Err-clause-value
returns-in_err-far-in-Err-clause-value c =
    let p = err_from_is_err_and c.from_residual-in_err-far-in-Err.result c.from_residual-in_err-far-in-Err.ensures.1 in
    let e = c.in_err-far-in-Err.ensures in
    rw (p.1, p.2)
    (stops_signed c.args.bytes.now c.args.from c.in_err-far-in-Err.field-0.0 e.1
    (subst (λ k. Passes (Err k) (reading (word_at minus) c.args.bytes.now c.args.from)) (sym e.0) c.in-Err.ensures.value))

pub returns-clause-value : goal.returns-clause-value
returns-clause-value c = elim c.match-word.branch [
  | in-Ok+in-Err-numeral+in_ok-far-in-Err-numeral w ↦
      signed_as_numeral c.args.bytes.now c.args.from c.match-word.far c.numeral-2.result
      (no_digit_behind c.args.bytes.now c.args.from w.in-Ok.next c.match-word.far w.in-Ok.ensures.value
      (subst (λ k. GivesSpan numeral_at c.args.bytes.now w.in-Ok.next (Err k)) (w.in_ok-far-in-Err-numeral.ensures ∙ ap stop.Fails (sym w.far-is)) w.in-Err-numeral.ensures.value))
      c.numeral-2.ensures.value
  | in-Err+in_ok-far-in-Err w ↦
      signed_as_numeral c.args.bytes.now c.args.from c.match-word.far c.numeral-2.result
      (no_minus c.args.bytes.now c.args.from c.match-word.far
      (subst (λ k. Passes (Err k) (reading (word_at minus) c.args.bytes.now c.args.from)) (w.in_ok-far-in-Err.ensures ∙ ap stop.Fails (sym w.far-is)) w.in-Err.ensures.value))
      c.numeral-2.ensures.value
]
