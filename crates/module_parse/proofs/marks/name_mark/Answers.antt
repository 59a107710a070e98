use Rattle.std.proofs.lemmas.Result.{err_from_is_err_and}
use Rattle.std.specs.Prelude.{codes}
use Rattle.module_grammar.specs.Reading.{before_at}
use Rattle.module_grammar.specs.MarkReading.{name_as_at, name_kind}
use Rattle.module_parse.proofs.Chaining.{as_read, as_stops, behind_read, behind_stops, behind_next_stops, before_read, before_stops, before_word_stops}
use Rattle.module_parse.proofs.marks.name_mark.Goals as goal

pub returns-in_err-inside-clause-value : goal.returns-in_err-inside-clause-value
returns-in_err-inside-clause-value c =
    let p = err_from_is_err_and c.from_residual.result c.from_residual.ensures.1 in
    rw (p.1, p.2) (as_stops name_kind (behind_stops (codes "[NAME") (before_at name_as_at (codes "]")) c.in_err-inside.ensures.value))

pub returns-in_err-name-clause-value : goal.returns-in_err-name-clause-value
returns-in_err-name-clause-value c =
    let p = err_from_is_err_and c.from_residual-in_err-name.result c.from_residual-in_err-name.ensures.1 in
    rw (p.1, p.2) (as_stops name_kind (behind_next_stops (codes "[NAME") c.in_ok-inside.ensures.value (before_stops (codes "]") c.in_err-name.ensures.value)))

pub returns-in_err-next-clause-value : goal.returns-in_err-next-clause-value
returns-in_err-next-clause-value c =
    let p = err_from_is_err_and c.from_residual-in_err-next.result c.from_residual-in_err-next.ensures.1 in
    rw (p.1, p.2) (as_stops name_kind (behind_next_stops (codes "[NAME") c.in_ok-inside.ensures.value (before_word_stops (codes "]") c.in_ok-name.ensures.value c.in_err-next.ensures.value)))

pub returns-clause-value : goal.returns-clause-value
returns-clause-value c = (as_read name_kind (behind_read (codes "[NAME") c.in_ok-inside.ensures.value (before_read (codes "]") c.in_ok-name.ensures.value c.in_ok-next.ensures.value)))
