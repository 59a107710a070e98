use Rattle.std.proofs.lemmas.Result.{err_from_is_err_and}
use Rattle.module_grammar.specs.Reading.{nothing_at}
use Rattle.module_grammar.specs.BoundReading.{some_of, class_or_any}
use Rattle.module_parse.proofs.Chaining.{as_read, as_stops, or_first, or_second, nothing_read, or_again}
use Rattle.module_parse.proofs.bounds.class.Goals as goal

pub returns-in-Ok-clause-value : goal.returns-in-Ok-clause-value
returns-in-Ok-clause-value c = (as_read class_or_any (as_read some_of (or_first nothing_at c.in-Ok.ensures.value)))

pub returns-in_err-end-in-Err-clause-value : goal.returns-in_err-end-in-Err-clause-value
returns-in_err-end-in-Err-clause-value c =
    let p = err_from_is_err_and c.from_residual.result c.from_residual.ensures.1 in
    rw (p.1, p.2) (as_stops class_or_any (as_stops some_of (or_again nothing_at c.in-Err.ensures.value c.in_err-end-in-Err.ensures)))

pub returns-in_ok-end-in-Err-clause-value : goal.returns-in_ok-end-in-Err-clause-value
returns-in_ok-end-in-Err-clause-value c = (as_read class_or_any (as_read some_of (or_second c.in-Err.ensures.value c.in_ok-end-in-Err.ensures (nothing_read c.args.bytes.now c.in_ok-end-in-Err.end c.nothing.result c.nothing.ensures))))
