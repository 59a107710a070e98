use Rattle.std.proofs.lemmas.Result.{err_from_is_err_and}
use Rattle.std.specs.Prelude.{codes}
use Rattle.module_grammar.specs.Reading.{before_at}
use Rattle.module_grammar.specs.NameReading.{number_at}
use Rattle.module_grammar.specs.TypeReading.{numbered_of}
use Rattle.module_parse.proofs.Chaining.{as_read, as_stops, then_read, then_stops, then_next_stops, before_read, before_stops, before_word_stops}
use Rattle.module_parse.proofs.items.numbered_item.Goals as goal

pub returns-in_err-identifier-clause-value : goal.returns-in_err-identifier-clause-value
returns-in_err-identifier-clause-value c =
    let p = err_from_is_err_and c.from_residual.result c.from_residual.ensures.1 in
    rw (p.1, p.2) (as_stops numbered_of (then_stops (λ _. (before_at number_at (codes ")"))) (before_stops (codes "(") c.in_err-identifier.ensures.value)))

pub returns-in_err-inside-clause-value : goal.returns-in_err-inside-clause-value
returns-in_err-inside-clause-value c =
    let p = err_from_is_err_and c.from_residual-in_err-inside.result c.from_residual-in_err-inside.ensures.1 in
    rw (p.1, p.2) (as_stops numbered_of (then_stops (λ _. (before_at number_at (codes ")"))) (before_word_stops (codes "(") c.in_ok-identifier.ensures.value c.in_err-inside.ensures.value)))

pub returns-in_err-number-clause-value : goal.returns-in_err-number-clause-value
returns-in_err-number-clause-value c =
    let p = err_from_is_err_and c.from_residual-in_err-number.result c.from_residual-in_err-number.ensures.1 in
    rw (p.1, p.2) (as_stops numbered_of (then_next_stops (λ _. (before_at number_at (codes ")"))) (before_read (codes "(") c.in_ok-identifier.ensures.value c.in_ok-inside.ensures.value) (before_stops (codes ")") c.in_err-number.ensures.value)))

pub returns-in_err-next-clause-value : goal.returns-in_err-next-clause-value
returns-in_err-next-clause-value c =
    let p = err_from_is_err_and c.from_residual-in_err-next.result c.from_residual-in_err-next.ensures.1 in
    rw (p.1, p.2) (as_stops numbered_of (then_next_stops (λ _. (before_at number_at (codes ")"))) (before_read (codes "(") c.in_ok-identifier.ensures.value c.in_ok-inside.ensures.value) (before_word_stops (codes ")") c.in_ok-number.ensures.value c.in_err-next.ensures.value)))

pub returns-clause-value : goal.returns-clause-value
returns-clause-value c = (as_read numbered_of (then_read (λ _. (before_at number_at (codes ")"))) (before_read (codes "(") c.in_ok-identifier.ensures.value c.in_ok-inside.ensures.value) (before_read (codes ")") c.in_ok-number.ensures.value c.in_ok-next.ensures.value)))
