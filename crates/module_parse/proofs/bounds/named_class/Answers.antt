use Rattle.std.proofs.lemmas.Result.{err_from_is_err_and}
use Rattle.std.specs.Prelude.{codes}
use Rattle.module_grammar.specs.Reading.{word_at, or_at}
use Rattle.module_grammar.specs.BoundReading.{class_of}
use Rattle.module_parse.proofs.Chaining.{as_read, as_stops, or_first, or_second, or_second_stops, or_again}
use Rattle.module_parse.proofs.bounds.named_class.Goals as goal

pub returns-in-Ok-clause-value : goal.returns-in-Ok-clause-value
returns-in-Ok-clause-value c = (as_read class_of (or_first (or_at (word_at (codes " (CONSTRAINED BY {/* NMTOKEN */})")) (or_at (word_at (codes " (CONSTRAINED BY {/* Name */})")) (word_at (codes " (CONSTRAINED BY {/* NCName */})")))) c.in-Ok.ensures.value))

pub returns-in_err-token-in-Err-clause-value : goal.returns-in_err-token-in-Err-clause-value
returns-in_err-token-in-Err-clause-value c =
    let p = err_from_is_err_and c.from_residual.result c.from_residual.ensures.1 in
    rw (p.1, p.2) (as_stops class_of (or_again (or_at (word_at (codes " (CONSTRAINED BY {/* NMTOKEN */})")) (or_at (word_at (codes " (CONSTRAINED BY {/* Name */})")) (word_at (codes " (CONSTRAINED BY {/* NCName */})")))) c.in-Err.ensures.value c.in_err-token-in-Err.ensures))

pub returns-in-Ok-literal-clause-value : goal.returns-in-Ok-literal-clause-value
returns-in-Ok-literal-clause-value c = (as_read class_of (or_second c.in-Err.ensures.value c.in_ok-token-in-Err.ensures (or_first (or_at (word_at (codes " (CONSTRAINED BY {/* Name */})")) (word_at (codes " (CONSTRAINED BY {/* NCName */})"))) c.in-Ok-literal.ensures.value)))

pub returns-in_err-name-in-Err-literal-clause-value : goal.returns-in_err-name-in-Err-literal-clause-value
returns-in_err-name-in-Err-literal-clause-value c =
    let p = err_from_is_err_and c.from_residual-in_err-name-in-Err-literal.result c.from_residual-in_err-name-in-Err-literal.ensures.1 in
    rw (p.1, p.2) (as_stops class_of (or_second_stops c.in-Err.ensures.value c.in_ok-token-in-Err.ensures (or_again (or_at (word_at (codes " (CONSTRAINED BY {/* Name */})")) (word_at (codes " (CONSTRAINED BY {/* NCName */})"))) c.in-Err-literal.ensures.value c.in_err-name-in-Err-literal.ensures)))

pub returns-in-Ok-literal-2-clause-value : goal.returns-in-Ok-literal-2-clause-value
returns-in-Ok-literal-2-clause-value c = (as_read class_of (or_second c.in-Err.ensures.value c.in_ok-token-in-Err.ensures (or_second c.in-Err-literal.ensures.value c.in_ok-name-in-Err-literal.ensures (or_first (word_at (codes " (CONSTRAINED BY {/* NCName */})")) c.in-Ok-literal-2.ensures.value))))

pub returns-in_err-plain-in-Err-literal-2-clause-value : goal.returns-in_err-plain-in-Err-literal-2-clause-value
returns-in_err-plain-in-Err-literal-2-clause-value c =
    let p = err_from_is_err_and c.from_residual-in_err-plain-in-Err-literal-2.result c.from_residual-in_err-plain-in-Err-literal-2.ensures.1 in
    rw (p.1, p.2) (as_stops class_of (or_second_stops c.in-Err.ensures.value c.in_ok-token-in-Err.ensures (or_second_stops c.in-Err-literal.ensures.value c.in_ok-name-in-Err-literal.ensures (or_again (word_at (codes " (CONSTRAINED BY {/* NCName */})")) c.in-Err-literal-2.ensures.value c.in_err-plain-in-Err-literal-2.ensures))))

pub returns-in_err-next-clause-value : goal.returns-in_err-next-clause-value
returns-in_err-next-clause-value c =
    let p = err_from_is_err_and c.from_residual-in_err-next.result c.from_residual-in_err-next.ensures.1 in
    rw (p.1, p.2) (as_stops class_of (or_second_stops c.in-Err.ensures.value c.in_ok-token-in-Err.ensures (or_second_stops c.in-Err-literal.ensures.value c.in_ok-name-in-Err-literal.ensures (or_second_stops c.in-Err-literal-2.ensures.value c.in_ok-plain-in-Err-literal-2.ensures c.in_err-next.ensures.value))))

pub returns-clause-value : goal.returns-clause-value
returns-clause-value c = (as_read class_of (or_second c.in-Err.ensures.value c.in_ok-token-in-Err.ensures (or_second c.in-Err-literal.ensures.value c.in_ok-name-in-Err-literal.ensures (or_second c.in-Err-literal-2.ensures.value c.in_ok-plain-in-Err-literal-2.ensures c.in_ok-next.ensures.value))))
