use Rattle.std.proofs.lemmas.Result.{err_from_is_err_and}
use Rattle.std.specs.Prelude.{codes}
use Rattle.module_grammar.specs.Reading.{word_at, or_at, behind_at}
use Rattle.module_grammar.specs.NameReading.{quoted_at}
use Rattle.module_grammar.specs.MarkReading.{name_as_of}
use Rattle.module_parse.proofs.Chaining.{as_read, as_stops, behind_read, behind_stops, behind_next_stops, or_first, or_second, or_second_stops, or_again}
use Rattle.module_parse.proofs.marks.name_as.Goals as goal

pub returns-in-Ok-clause-value : goal.returns-in-Ok-clause-value
returns-in-Ok-clause-value c = (as_read name_as_of (or_first (or_at (word_at (codes " AS UNCAPITALIZED")) (behind_at (codes " AS ") quoted_at)) c.in-Ok.ensures.value))

pub returns-in_err-small-in-Err-clause-value : goal.returns-in_err-small-in-Err-clause-value
returns-in_err-small-in-Err-clause-value c =
    let p = err_from_is_err_and c.from_residual.result c.from_residual.ensures.1 in
    rw (p.1, p.2) (as_stops name_as_of (or_again (or_at (word_at (codes " AS UNCAPITALIZED")) (behind_at (codes " AS ") quoted_at)) c.in-Err.ensures.value c.in_err-small-in-Err.ensures))

pub returns-in-Ok-literal-clause-value : goal.returns-in-Ok-literal-clause-value
returns-in-Ok-literal-clause-value c = (as_read name_as_of (or_second c.in-Err.ensures.value c.in_ok-small-in-Err.ensures (or_first (behind_at (codes " AS ") quoted_at) c.in-Ok-literal.ensures.value)))

pub returns-in_err-other-in-Err-literal-clause-value : goal.returns-in_err-other-in-Err-literal-clause-value
returns-in_err-other-in-Err-literal-clause-value c =
    let p = err_from_is_err_and c.from_residual-in_err-other-in-Err-literal.result c.from_residual-in_err-other-in-Err-literal.ensures.1 in
    rw (p.1, p.2) (as_stops name_as_of (or_second_stops c.in-Err.ensures.value c.in_ok-small-in-Err.ensures (or_again (behind_at (codes " AS ") quoted_at) c.in-Err-literal.ensures.value c.in_err-other-in-Err-literal.ensures)))

pub returns-in_err-text-clause-value : goal.returns-in_err-text-clause-value
returns-in_err-text-clause-value c =
    let p = err_from_is_err_and c.from_residual-in_err-text.result c.from_residual-in_err-text.ensures.1 in
    rw (p.1, p.2) (as_stops name_as_of (or_second_stops c.in-Err.ensures.value c.in_ok-small-in-Err.ensures (or_second_stops c.in-Err-literal.ensures.value c.in_ok-other-in-Err-literal.ensures (behind_stops (codes " AS ") quoted_at c.in_err-text.ensures.value))))

pub returns-in_err-name-clause-value : goal.returns-in_err-name-clause-value
returns-in_err-name-clause-value c =
    let p = err_from_is_err_and c.from_residual-in_err-name.result c.from_residual-in_err-name.ensures.1 in
    rw (p.1, p.2) (as_stops name_as_of (or_second_stops c.in-Err.ensures.value c.in_ok-small-in-Err.ensures (or_second_stops c.in-Err-literal.ensures.value c.in_ok-other-in-Err-literal.ensures (behind_next_stops (codes " AS ") c.in_ok-text.ensures.value c.in_err-name.ensures.value))))

pub returns-clause-value : goal.returns-clause-value
returns-clause-value c = (as_read name_as_of (or_second c.in-Err.ensures.value c.in_ok-small-in-Err.ensures (or_second c.in-Err-literal.ensures.value c.in_ok-other-in-Err-literal.ensures (behind_read (codes " AS ") c.in_ok-text.ensures.value c.in_ok-name.ensures.value))))
