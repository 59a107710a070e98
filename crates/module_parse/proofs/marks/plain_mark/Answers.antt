use Rattle.std.proofs.lemmas.Result.{err_from_is_err_and}
use Rattle.module_grammar.specs.MarkReading.{is_kind}
use Rattle.module_parse.proofs.Chaining.{as_read, as_stops}
use Rattle.module_parse.proofs.marks.plain_mark.Goals as goal

pub returns-in_err-next-clause-value : goal.returns-in_err-next-clause-value
returns-in_err-next-clause-value c =
    let p = err_from_is_err_and c.from_residual.result c.from_residual.ensures.1 in
    rw (p.1, p.2) (as_stops (is_kind c.args.kind) c.in_err-next.ensures.value)

pub returns-clause-value : goal.returns-clause-value
returns-clause-value c = (as_read (is_kind c.args.kind) c.in_ok-next.ensures.value)
