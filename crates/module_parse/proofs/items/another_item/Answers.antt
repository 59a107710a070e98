use Rattle.std.proofs.lemmas.Result.{err_from_is_err_and}
use Rattle.std.specs.Prelude.{codes}
use Rattle.module_grammar.specs.TypeReading.{numbered_at}
use Rattle.module_parse.proofs.Chaining.{behind_stops, behind_reads}
use Rattle.module_parse.proofs.items.another_item.Goals as goal

pub returns-in_err-start-clause-value : goal.returns-in_err-start-clause-value
returns-in_err-start-clause-value c =
    let p = err_from_is_err_and c.from_residual.result c.from_residual.ensures.1 in
    rw (p.1, p.2) (behind_stops (codes ", ") numbered_at c.in_err-start.ensures.value)

pub returns-clause-value : goal.returns-clause-value
returns-clause-value c = behind_reads (codes ", ") numbered_at c.args.bytes.now c.args.from c.in_ok-start.start c.numbered_item.result c.in_ok-start.ensures.value c.numbered_item.ensures.value
