use Rattle.std.proofs.lemmas.Result.{err_from_is_err_and}
use Rattle.std.specs.Prelude.{codes}
use Rattle.module_parse.proofs.Chaining.{before_read, before_stops, before_word_stops}
use Rattle.module_parse.proofs.parts.label.Goals as goal

pub returns-in_err-name-clause-value : goal.returns-in_err-name-clause-value
returns-in_err-name-clause-value c =
    let p = err_from_is_err_and c.from_residual.result c.from_residual.ensures.1 in
    rw (p.1, p.2) (before_stops (codes " ") c.in_err-name.ensures.value)

pub returns-in_err-next-clause-value : goal.returns-in_err-next-clause-value
returns-in_err-next-clause-value c =
    let p = err_from_is_err_and c.from_residual-in_err-next.result c.from_residual-in_err-next.ensures.1 in
    rw (p.1, p.2) (before_word_stops (codes " ") c.in_ok-name.ensures.value c.in_err-next.ensures.value)

pub returns-clause-value : goal.returns-clause-value
returns-clause-value c = (before_read (codes " ") c.in_ok-name.ensures.value c.in_ok-next.ensures.value)
