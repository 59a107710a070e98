use Rattle.std.proofs.lemmas.Result.{err_from_is_err_and}
use Rattle.std.specs.Prelude.{codes}
use Rattle.module_grammar.specs.Reading.{before_at}
use Rattle.module_grammar.specs.NameReading.{quoted_at}
use Rattle.module_grammar.specs.MarkReading.{namespace_kind}
use Rattle.module_parse.proofs.Chaining.{as_read, as_stops, behind_read, behind_stops, behind_next_stops, before_read, before_stops, before_word_stops}
use Rattle.module_parse.proofs.marks.namespace_mark.Goals as goal

pub returns-in_err-inside-clause-value : goal.returns-in_err-inside-clause-value
returns-in_err-inside-clause-value c =
    let p = err_from_is_err_and c.from_residual.result c.from_residual.ensures.1 in
    rw (p.1, p.2) (as_stops namespace_kind (behind_stops (codes "[NAMESPACE AS ") (before_at quoted_at (codes "]")) c.in_err-inside.ensures.value))

pub returns-in_err-space-clause-value : goal.returns-in_err-space-clause-value
returns-in_err-space-clause-value c =
    let p = err_from_is_err_and c.from_residual-in_err-space.result c.from_residual-in_err-space.ensures.1 in
    rw (p.1, p.2) (as_stops namespace_kind (behind_next_stops (codes "[NAMESPACE AS ") c.in_ok-inside.ensures.value (before_stops (codes "]") c.in_err-space.ensures.value)))

pub returns-in_err-next-clause-value : goal.returns-in_err-next-clause-value
returns-in_err-next-clause-value c =
    let p = err_from_is_err_and c.from_residual-in_err-next.result c.from_residual-in_err-next.ensures.1 in
    rw (p.1, p.2) (as_stops namespace_kind (behind_next_stops (codes "[NAMESPACE AS ") c.in_ok-inside.ensures.value (before_word_stops (codes "]") c.in_ok-space.ensures.value c.in_err-next.ensures.value)))

pub returns-clause-value : goal.returns-clause-value
returns-clause-value c = (as_read namespace_kind (behind_read (codes "[NAMESPACE AS ") c.in_ok-inside.ensures.value (before_read (codes "]") c.in_ok-space.ensures.value c.in_ok-next.ensures.value)))
