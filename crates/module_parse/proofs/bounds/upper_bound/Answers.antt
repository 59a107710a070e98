use Rattle.std.proofs.lemmas.Result.{err_from_is_err_and}
use Rattle.std.specs.Prelude.{codes}
use Rattle.module_grammar.specs.Reading.{or_at}
use Rattle.module_grammar.specs.NameReading.{number_at}
use Rattle.module_grammar.specs.BoundReading.{here, max_at}
use Rattle.module_parse.specs.Readers.{upper_of}
use Rattle.module_parse.proofs.Chaining.{as_read, as_stops, behind_read, behind_stops, behind_next_stops, or_first, or_second, or_second_stops, or_again}
use Rattle.module_parse.proofs.bounds.upper_bound.Goals as goal

pub returns-in_err-bound-clause-value : goal.returns-in_err-bound-clause-value
returns-in_err-bound-clause-value c =
    let p = err_from_is_err_and c.from_residual.result c.from_residual.ensures.1 in
    rw (p.1, p.2) (as_stops upper_of (behind_stops (codes "..") (or_at number_at max_at) c.in_err-bound.ensures.value))

pub returns-in-Ok-clause-value : goal.returns-in-Ok-clause-value
returns-in-Ok-clause-value c = (as_read upper_of (behind_read (codes "..") c.in_ok-bound.ensures.value (or_first max_at c.in-Ok.ensures.value)))

pub returns-in_err-max-in-Err-clause-value : goal.returns-in_err-max-in-Err-clause-value
returns-in_err-max-in-Err-clause-value c =
    let p = err_from_is_err_and c.from_residual-in_err-max-in-Err.result c.from_residual-in_err-max-in-Err.ensures.1 in
    rw (p.1, p.2) (as_stops upper_of (behind_next_stops (codes "..") c.in_ok-bound.ensures.value (or_again max_at c.in-Err.ensures.value c.in_err-max-in-Err.ensures)))

pub returns-in_err-next-clause-value : goal.returns-in_err-next-clause-value
returns-in_err-next-clause-value c =
    let p = err_from_is_err_and c.from_residual-in_err-next.result c.from_residual-in_err-next.ensures.1 in
    rw (p.1, p.2) (as_stops upper_of (behind_next_stops (codes "..") c.in_ok-bound.ensures.value (or_second_stops c.in-Err.ensures.value c.in_ok-max-in-Err.ensures (as_stops here c.in_err-next.ensures.value))))

pub returns-clause-value : goal.returns-clause-value
returns-clause-value c = (as_read upper_of (behind_read (codes "..") c.in_ok-bound.ensures.value (or_second c.in-Err.ensures.value c.in_ok-max-in-Err.ensures (as_read here c.in_ok-next.ensures.value))))
