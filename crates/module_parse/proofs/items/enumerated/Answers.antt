use Rattle.std.proofs.lemmas.Result.{err_from_is_err_and}
use Rattle.module_grammar.specs.Reading.{nothing_at, or_at}
use Rattle.module_grammar.specs.NameReading.{plain_identifier_at}
use Rattle.module_grammar.specs.TypeReading.{enumerated_at}
use Rattle.module_parse.specs.Readers.{enumerated_form_of}
use Rattle.module_parse.proofs.Chaining.{as_read, as_stops, or_first, or_second, or_second_stops, nothing_read, or_again}
use Rattle.module_parse.proofs.items.enumerated.Goals as goal

pub returns-in-Ok-clause-value : goal.returns-in-Ok-clause-value
returns-in-Ok-clause-value c = (as_read (enumerated_form_of c.args.name) (or_first (or_at (enumerated_at plain_identifier_at) nothing_at) c.in-Ok.ensures.value))

pub returns-in_err-other-in-Err-clause-value : goal.returns-in_err-other-in-Err-clause-value
returns-in_err-other-in-Err-clause-value c =
    let p = err_from_is_err_and c.from_residual.result c.from_residual.ensures.1 in
    rw (p.1, p.2) (as_stops (enumerated_form_of c.args.name) (or_again (or_at (enumerated_at plain_identifier_at) nothing_at) c.in-Err.ensures.value c.in_err-other-in-Err.ensures))

pub returns-in-Ok-names-clause-value : goal.returns-in-Ok-names-clause-value
returns-in-Ok-names-clause-value c = (as_read (enumerated_form_of c.args.name) (or_second c.in-Err.ensures.value c.in_ok-other-in-Err.ensures (or_first nothing_at c.in-Ok-names.ensures.value)))

pub returns-in_err-end-in-Err-names-clause-value : goal.returns-in_err-end-in-Err-names-clause-value
returns-in_err-end-in-Err-names-clause-value c =
    let p = err_from_is_err_and c.from_residual-in_err-end-in-Err-names.result c.from_residual-in_err-end-in-Err-names.ensures.1 in
    rw (p.1, p.2) (as_stops (enumerated_form_of c.args.name) (or_second_stops c.in-Err.ensures.value c.in_ok-other-in-Err.ensures (or_again nothing_at c.in-Err-names.ensures.value c.in_err-end-in-Err-names.ensures)))

pub returns-in_ok-end-in-Err-names-clause-value : goal.returns-in_ok-end-in-Err-names-clause-value
returns-in_ok-end-in-Err-names-clause-value c = (as_read (enumerated_form_of c.args.name) (or_second c.in-Err.ensures.value c.in_ok-other-in-Err.ensures (or_second c.in-Err-names.ensures.value c.in_ok-end-in-Err-names.ensures (nothing_read c.args.bytes.now c.in_ok-end-in-Err-names.end c.nothing.result c.nothing.ensures))))
