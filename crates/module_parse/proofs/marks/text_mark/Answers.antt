use Rattle.std.proofs.lemmas.Result.{err_from_is_err_and}
use Rattle.std.specs.Prelude.{codes}
use Rattle.module_grammar.specs.Reading.{then_at, before_at}
use Rattle.module_grammar.specs.NameReading.{identifier_at}
use Rattle.module_grammar.specs.MarkReading.{name_as_at, text_kind}
use Rattle.module_parse.proofs.Chaining.{as_read, as_stops, then_read, then_stops, then_next_stops, behind_read, behind_stops, behind_next_stops, before_read, before_stops, before_word_stops}
use Rattle.module_parse.proofs.marks.text_mark.Goals as goal

pub returns-in_err-inside-clause-value : goal.returns-in_err-inside-clause-value
returns-in_err-inside-clause-value c =
    let p = err_from_is_err_and c.from_residual.result c.from_residual.ensures.1 in
    rw (p.1, p.2) (as_stops text_kind (behind_stops (codes "[TEXT:") (before_at (then_at identifier_at (λ _. name_as_at)) (codes "]")) c.in_err-inside.ensures.value))

pub returns-in_err-identifier-clause-value : goal.returns-in_err-identifier-clause-value
returns-in_err-identifier-clause-value c =
    let p = err_from_is_err_and c.from_residual-in_err-identifier.result c.from_residual-in_err-identifier.ensures.1 in
    rw (p.1, p.2) (as_stops text_kind (behind_next_stops (codes "[TEXT:") c.in_ok-inside.ensures.value (before_stops (codes "]") (then_stops (λ _. name_as_at) c.in_err-identifier.ensures.value))))

pub returns-in_err-text-clause-value : goal.returns-in_err-text-clause-value
returns-in_err-text-clause-value c =
    let p = err_from_is_err_and c.from_residual-in_err-text.result c.from_residual-in_err-text.ensures.1 in
    rw (p.1, p.2) (as_stops text_kind (behind_next_stops (codes "[TEXT:") c.in_ok-inside.ensures.value (before_stops (codes "]") (then_next_stops (λ _. name_as_at) c.in_ok-identifier.ensures.value c.in_err-text.ensures.value))))

pub returns-in_err-next-clause-value : goal.returns-in_err-next-clause-value
returns-in_err-next-clause-value c =
    let p = err_from_is_err_and c.from_residual-in_err-next.result c.from_residual-in_err-next.ensures.1 in
    rw (p.1, p.2) (as_stops text_kind (behind_next_stops (codes "[TEXT:") c.in_ok-inside.ensures.value (before_word_stops (codes "]") (then_read (λ _. name_as_at) c.in_ok-identifier.ensures.value c.in_ok-text.ensures.value) c.in_err-next.ensures.value)))

pub returns-clause-value : goal.returns-clause-value
returns-clause-value c = (as_read text_kind (behind_read (codes "[TEXT:") c.in_ok-inside.ensures.value (before_read (codes "]") (then_read (λ _. name_as_at) c.in_ok-identifier.ensures.value c.in_ok-text.ensures.value) c.in_ok-next.ensures.value)))
