use Rattle.std.proofs.lemmas.Result.{err_from_is_err_and}
use Rattle.module_grammar.specs.Reading.{many_at, before_at}
use Rattle.module_grammar.specs.ModuleReading.{assignment_at}
use Rattle.module_print.specs.Printed.{opening, closing}
use Rattle.module_parse.proofs.Chaining.{behind_read, behind_stops, behind_next_stops, before_read, before_stops, before_word_stops}
use Rattle.module_parse.proofs.modules.module.Goals as goal

pub returns-in_err-inside-clause-value : goal.returns-in_err-inside-clause-value
returns-in_err-inside-clause-value c =
    let p = err_from_is_err_and c.from_residual.result c.from_residual.ensures.1 in
    rw (p.1, p.2) (behind_stops opening (before_at (many_at (assignment_at c.args.most)) closing) c.in_err-inside.ensures.value)

pub returns-in_err-assignments-clause-value : goal.returns-in_err-assignments-clause-value
returns-in_err-assignments-clause-value c =
    let p = err_from_is_err_and c.from_residual-in_err-assignments.result c.from_residual-in_err-assignments.ensures.1 in
    rw (p.1, p.2) (behind_next_stops opening c.in_ok-inside.ensures.value (before_stops closing c.in_err-assignments.ensures.value))

pub returns-in_err-next-clause-value : goal.returns-in_err-next-clause-value
returns-in_err-next-clause-value c =
    let p = err_from_is_err_and c.from_residual-in_err-next.result c.from_residual-in_err-next.ensures.1 in
    rw (p.1, p.2) (behind_next_stops opening c.in_ok-inside.ensures.value (before_word_stops closing c.in_ok-assignments.ensures.value c.in_err-next.ensures.value))

pub returns-clause-value : goal.returns-clause-value
returns-clause-value c = (behind_read opening c.in_ok-inside.ensures.value (before_read closing c.in_ok-assignments.ensures.value c.in_ok-next.ensures.value))
