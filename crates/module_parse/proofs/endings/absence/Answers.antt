use Rattle.std.proofs.Common.{◌∙◌, sym}
use Rattle.std.proofs.lemmas.Result.{err_from_is_err_and}
use Rattle.module_grammar.specs.ValueReading.{fixed_absence}
use Rattle.module_parse.proofs.Ending.{absence_optional, absence_fixed, absence_other, absence_stops}
use Rattle.std.proofs.Common.{rules}
use Rattle.module_parse.proofs.endings.absence.Goals as goal

pub returns-then-is_some-clause-value : goal.returns-then-is_some-clause-value
returns-then-is_some-clause-value c = absence_fixed c.args.depth c.args.octets.now c.args.bytes.now c.args.from c.fixed_absence.result (sym c.is_some.ensures ∙ c.if-is_some.true) c.fixed_absence.ensures.value

pub returns-in-Ok-clause-value : goal.returns-in-Ok-clause-value
returns-in-Ok-clause-value c = absence_optional c.args.depth c.args.octets.now c.args.bytes.now c.args.from c.in-Ok.next (sym c.is_some.ensures ∙ c.if-is_some.false) c.in-Ok.ensures.value

pub returns-in_err-other-in-Err-clause-value : goal.returns-in_err-other-in-Err-clause-value
returns-in_err-other-in-Err-clause-value c =
    let p = err_from_is_err_and c.from_residual.result c.from_residual.ensures.1 in
    rw (p.1, p.2) (absence_stops c.args.depth c.args.octets.now c.args.bytes.now c.args.from c.in-Err.stop c.in_err-other-in-Err.field-0.0 (sym c.is_some.ensures ∙ c.if-is_some.false) c.in-Err.ensures.value c.in_err-other-in-Err.ensures)

pub returns-clause-value : goal.returns-clause-value
returns-clause-value c = absence_other c.args.depth c.args.octets.now c.args.bytes.now c.args.from c.in_ok-other-in-Err.other c.in-Err.stop c.fixed_absence-2.result (sym c.is_some.ensures ∙ c.if-is_some.false) c.in-Err.ensures.value c.in_ok-other-in-Err.ensures c.fixed_absence-2.ensures.value
