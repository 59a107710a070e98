use Rattle.std.proofs.lemmas.Result.{err_from_is_err_and}
use Rattle.module_grammar.specs.BoundReading.{class_at}
use Rattle.module_parse.specs.Readers.{bool_form, int_form, text_form}
use Rattle.module_parse.proofs.Chaining.{as_read, as_stops, then_read, then_stops, then_next_stops, nothing_read}
use Rattle.module_parse.proofs.Forming.{other_form}
use Rattle.module_parse.proofs.forms.simple_form.Goals as goal

pub returns-in-Boolean-clause-value : goal.returns-in-Boolean-clause-value
returns-in-Boolean-clause-value c = rw c.in-Boolean.is (as_read bool_form (nothing_read c.args.bytes.now c.args.from c.nothing.result c.nothing.ensures))

pub returns-in_err-range-in-Integer-clause-value : goal.returns-in_err-range-in-Integer-clause-value
returns-in_err-range-in-Integer-clause-value c =
    let p = err_from_is_err_and c.from_residual.result c.from_residual.ensures.1 in
    rw (c.in-Integer.is, p.1, p.2) (as_stops int_form c.in_err-range-in-Integer.ensures.value)

pub returns-in_ok-range-in-Integer-clause-value : goal.returns-in_ok-range-in-Integer-clause-value
returns-in_ok-range-in-Integer-clause-value c = rw c.in-Integer.is (as_read int_form c.in_ok-range-in-Integer.ensures.value)

pub returns-in_err-size-in-Utf8String-clause-value : goal.returns-in_err-size-in-Utf8String-clause-value
returns-in_err-size-in-Utf8String-clause-value c =
    let p = err_from_is_err_and c.from_residual-in_err-size-in-Utf8String.result c.from_residual-in_err-size-in-Utf8String.ensures.1 in
    rw (c.in-Utf8String.is, p.1, p.2) (as_stops text_form (then_stops (λ _. class_at) c.in_err-size-in-Utf8String.ensures.value))

pub returns-in_err-class-in-Utf8String-clause-value : goal.returns-in_err-class-in-Utf8String-clause-value
returns-in_err-class-in-Utf8String-clause-value c =
    let p = err_from_is_err_and c.from_residual-in_err-class-in-Utf8String.result c.from_residual-in_err-class-in-Utf8String.ensures.1 in
    rw (c.in-Utf8String.is, p.1, p.2) (as_stops text_form (then_next_stops (λ _. class_at) c.in_ok-size-in-Utf8String.ensures.value c.in_err-class-in-Utf8String.ensures.value))

pub returns-in_ok-class-in-Utf8String-clause-value : goal.returns-in_ok-class-in-Utf8String-clause-value
returns-in_ok-class-in-Utf8String-clause-value c = rw c.in-Utf8String.is (as_read text_form (then_read (λ _. class_at) c.in_ok-size-in-Utf8String.ensures.value c.in_ok-class-in-Utf8String.ensures.value))

pub returns-in-Enumerated-clause-value : goal.returns-in-Enumerated-clause-value
returns-in-Enumerated-clause-value c = rw c.in-Enumerated.is c.enumerated.ensures.value

pub returns-in_default-clause-value : goal.returns-in_default-clause-value
returns-in_default-clause-value c = other_form c.args.name c.args.word c.args.bytes.now c.args.from c.nothing-in_default.result c.in_default.not-Boolean c.in_default.not-Integer c.in_default.not-Utf8String c.in_default.not-Enumerated (nothing_read c.args.bytes.now c.args.from c.nothing-in_default.result c.nothing-in_default.ensures)
