use Rattle.std.proofs.lemmas.Result.{err_from_is_err_and}
use Rattle.std.specs.Prelude.{codes}
use Rattle.module_grammar.specs.MarkReading.{is_kind, word_kind_at, either_kind}
use Rattle.module_parse.proofs.Chaining.{as_read, as_stops, or_first, or_second, or_second_stops, or_again}
use Rattle.module_text.specs.declared.marks.TypeMarkKind.TheVariants as type_mark
use Rattle.module_parse.proofs.marks.white_space_mark.Goals as goal

pub returns-in-Ok-clause-value : goal.returns-in-Ok-clause-value
returns-in-Ok-clause-value c = (as_read either_kind (or_first (word_kind_at type_mark.Collapse (codes "[WHITESPACE COLLAPSE]")) (as_read (is_kind type_mark.Replace) c.in-Ok.ensures.value)))

pub returns-in_err-other-in-Err-clause-value : goal.returns-in_err-other-in-Err-clause-value
returns-in_err-other-in-Err-clause-value c =
    let p = err_from_is_err_and c.from_residual.result c.from_residual.ensures.1 in
    rw (p.1, p.2) (as_stops either_kind (or_again (word_kind_at type_mark.Collapse (codes "[WHITESPACE COLLAPSE]")) (as_stops (is_kind type_mark.Replace) c.in-Err.ensures.value) c.in_err-other-in-Err.ensures))

pub returns-in_err-next-clause-value : goal.returns-in_err-next-clause-value
returns-in_err-next-clause-value c =
    let p = err_from_is_err_and c.from_residual-in_err-next.result c.from_residual-in_err-next.ensures.1 in
    rw (p.1, p.2) (as_stops either_kind (or_second_stops (as_stops (is_kind type_mark.Replace) c.in-Err.ensures.value) c.in_ok-other-in-Err.ensures (as_stops (is_kind type_mark.Collapse) c.in_err-next.ensures.value)))

pub returns-clause-value : goal.returns-clause-value
returns-clause-value c = (as_read either_kind (or_second (as_stops (is_kind type_mark.Replace) c.in-Err.ensures.value) c.in_ok-other-in-Err.ensures (as_read (is_kind type_mark.Collapse) c.in_ok-next.ensures.value)))
