use Rattle.std.specs.Prelude.{codes}
use Rattle.std.proofs.lemmas.Result.{err_from_is_err_and}
use Rattle.module_parse.proofs.Lining.{append_stops, append_reads}
use Rattle.module_print.specs.Notation.{new_line}
use Rattle.module_parse.proofs.parts.closing_brace.Goals as goal

pub returns-in_err-end-clause-value : goal.returns-in_err-end-clause-value
returns-in_err-end-clause-value c =
    let p = err_from_is_err_and c.from_residual.result c.from_residual.ensures.1 in
    rw (p.1, p.2) (append_stops (new_line c.args.levels) (codes "}") c.in_err-end.ensures.value)

pub returns-clause-value : goal.returns-clause-value
returns-clause-value c = append_reads (new_line c.args.levels) (codes "}") c.args.bytes.now c.args.from c.in_ok-end.end c.literal.result c.in_ok-end.ensures.value c.literal.ensures.value
