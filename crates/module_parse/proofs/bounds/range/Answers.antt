use Rattle.std.proofs.lemmas.Result.{err_from_is_err_and}
use Rattle.std.specs.Prelude.{codes}
use Rattle.module_grammar.specs.Reading.{behind_at}
use Rattle.module_grammar.specs.NameReading.{number_at}
use Rattle.module_grammar.specs.BoundReading.{range_of}
use Rattle.module_parse.proofs.Chaining.{as_read, as_stops, behind_read, behind_stops, behind_next_stops, or_first, or_second, or_second_stops, or_again}
use Rattle.module_parse.proofs.bounds.range.Goals as goal

pub returns-in-Ok-clause-value : goal.returns-in-Ok-clause-value
returns-in-Ok-clause-value c = (as_read range_of (or_first (behind_at (codes "MIN..") number_at) c.in-Ok.ensures.value))

pub returns-in_err-least-in-Err-clause-value : goal.returns-in_err-least-in-Err-clause-value
returns-in_err-least-in-Err-clause-value c =
    let p = err_from_is_err_and c.from_residual.result c.from_residual.ensures.1 in
    rw (p.1, p.2) (as_stops range_of (or_again (behind_at (codes "MIN..") number_at) c.in-Err.ensures.value c.in_err-least-in-Err.ensures))

pub returns-in_err-bound-clause-value : goal.returns-in_err-bound-clause-value
returns-in_err-bound-clause-value c =
    let p = err_from_is_err_and c.from_residual-in_err-bound.result c.from_residual-in_err-bound.ensures.1 in
    rw (p.1, p.2) (as_stops range_of (or_second_stops c.in-Err.ensures.value c.in_ok-least-in-Err.ensures (behind_stops (codes "MIN..") number_at c.in_err-bound.ensures.value)))

pub returns-in_err-greatest-clause-value : goal.returns-in_err-greatest-clause-value
returns-in_err-greatest-clause-value c =
    let p = err_from_is_err_and c.from_residual-in_err-greatest.result c.from_residual-in_err-greatest.ensures.1 in
    rw (p.1, p.2) (as_stops range_of (or_second_stops c.in-Err.ensures.value c.in_ok-least-in-Err.ensures (behind_next_stops (codes "MIN..") c.in_ok-bound.ensures.value c.in_err-greatest.ensures.value)))

pub returns-clause-value : goal.returns-clause-value
returns-clause-value c = (as_read range_of (or_second c.in-Err.ensures.value c.in_ok-least-in-Err.ensures (behind_read (codes "MIN..") c.in_ok-bound.ensures.value c.in_ok-greatest.ensures.value)))
