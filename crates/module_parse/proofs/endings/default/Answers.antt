use Rattle.std.proofs.lemmas.Result.{err_from_is_err_and}
use Rattle.std.specs.Prelude.{codes}
use Rattle.module_grammar.specs.ValueReading.{value_at}
use Rattle.module_parse.proofs.Chaining.{behind_stops, behind_reads}
use Rattle.module_parse.proofs.endings.default.Goals as goal

pub returns-in_err-next-clause-value : goal.returns-in_err-next-clause-value
returns-in_err-next-clause-value c =
    let p = err_from_is_err_and c.from_residual.result c.from_residual.ensures.1 in
    rw (p.1, p.2) (behind_stops (codes " DEFAULT ") (value_at c.args.depth) c.in_err-next.ensures.value)

pub returns-clause-value : goal.returns-clause-value
returns-clause-value c = behind_reads (codes " DEFAULT ") (value_at c.args.depth) c.args.bytes.now c.args.from c.in_ok-next.next c.value.result c.in_ok-next.ensures.value c.value.ensures.value
