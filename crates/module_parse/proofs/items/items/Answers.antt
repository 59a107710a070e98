use Rattle.std.proofs.lemmas.Result.{err_from_is_err_and}
use Rattle.std.specs.Prelude.{codes}
use Rattle.module_grammar.specs.Reading.{before_at}
use Rattle.module_grammar.specs.ValueReading.{listed_at}
use Rattle.module_grammar.specs.TypeReading.{numbered_at}
use Rattle.module_parse.proofs.Chaining.{behind_read, behind_stops, behind_next_stops, before_read, before_stops, before_word_stops}
use Rattle.module_parse.proofs.items.items.Goals as goal

pub returns-in_err-inside-clause-value : goal.returns-in_err-inside-clause-value
returns-in_err-inside-clause-value c =
    let p = err_from_is_err_and c.from_residual.result c.from_residual.ensures.1 in
    rw (p.1, p.2) (behind_stops (codes " { ") (before_at (listed_at (codes ", ") numbered_at) (codes " }")) c.in_err-inside.ensures.value)

pub returns-in_err-listed-clause-value : goal.returns-in_err-listed-clause-value
returns-in_err-listed-clause-value c =
    let p = err_from_is_err_and c.from_residual-in_err-listed.result c.from_residual-in_err-listed.ensures.1 in
    rw (p.1, p.2) (behind_next_stops (codes " { ") c.in_ok-inside.ensures.value (before_stops (codes " }") c.in_err-listed.ensures.value))

pub returns-in_err-next-clause-value : goal.returns-in_err-next-clause-value
returns-in_err-next-clause-value c =
    let p = err_from_is_err_and c.from_residual-in_err-next.result c.from_residual-in_err-next.ensures.1 in
    rw (p.1, p.2) (behind_next_stops (codes " { ") c.in_ok-inside.ensures.value (before_word_stops (codes " }") c.in_ok-listed.ensures.value c.in_err-next.ensures.value))

pub returns-clause-value : goal.returns-clause-value
returns-clause-value c = rw c.of.ensures (behind_read (codes " { ") c.in_ok-inside.ensures.value (before_read (codes " }") c.in_ok-listed.ensures.value c.in_ok-next.ensures.value))
