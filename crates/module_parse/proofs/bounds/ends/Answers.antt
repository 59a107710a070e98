use Rattle.std.proofs.lemmas.Result.{err_from_is_err_and}
use Rattle.module_grammar.specs.BoundReading.{greatest_at, ends_of}
use Rattle.module_parse.proofs.Chaining.{as_stops, then_stops}
use Rattle.module_parse.proofs.Bounding.{ends_upper, ends_stop, ends_one}
use Rattle.module_parse.proofs.bounds.ends.Goals as goal

pub returns-in_err-least-clause-value : goal.returns-in_err-least-clause-value
returns-in_err-least-clause-value c =
    let p = err_from_is_err_and c.from_residual.result c.from_residual.ensures.1 in
    rw (p.1, p.2) (as_stops ends_of (then_stops (λ _. greatest_at) c.in_err-least.ensures.value))

pub returns-in-Ok-clause-value : goal.returns-in-Ok-clause-value
returns-in-Ok-clause-value c = rw c.ends_of.ensures (ends_upper c.args.bytes.now c.args.from c.in_ok-least.behind c.in-Ok.next c.in_ok-least.least c.in-Ok.greatest c.in_ok-least.ensures.value c.in-Ok.ensures.value)

pub returns-in_err-end-in-Err-clause-value : goal.returns-in_err-end-in-Err-clause-value
returns-in_err-end-in-Err-clause-value c =
    let p = err_from_is_err_and c.from_residual-in_err-end-in-Err.result c.from_residual-in_err-end-in-Err.ensures.1 in
    rw (p.1, p.2) (ends_stop c.args.bytes.now c.args.from c.in_ok-least.behind c.in_ok-least.least c.in-Err.stop c.in_err-end-in-Err.field-0.0 c.in_ok-least.ensures.value c.in-Err.ensures.value c.in_err-end-in-Err.ensures)

pub returns-in_ok-end-in-Err-clause-value : goal.returns-in_ok-end-in-Err-clause-value
returns-in_ok-end-in-Err-clause-value c = ends_one c.args.bytes.now c.args.from c.in_ok-least.behind c.in_ok-end-in-Err.end c.nothing.result c.in_ok-least.least c.in-Err.stop c.in_ok-least.ensures.value c.in-Err.ensures.value c.in_ok-end-in-Err.ensures c.nothing.ensures
