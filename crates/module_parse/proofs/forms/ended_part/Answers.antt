use Rattle.std.proofs.lemmas.Result.{err_from_is_err_and}
use Rattle.module_parse.proofs.Parting.{ends_memory, ends_stops}
use Rattle.module_parse.proofs.forms.ended_part.Goals as goal

pub returns-in_err-part-clause-value : goal.returns-in_err-part-clause-value
returns-in_err-part-clause-value c =
    let p = err_from_is_err_and c.from_residual-in_err-part.result c.from_residual-in_err-part.ensures.1 in
    rw (p.1, p.2) (ends_memory c.args.most c.args.sort c.args.head c.args.bytes.now c.args.from)

pub returns-in_err-fixed-clause-value : goal.returns-in_err-fixed-clause-value
returns-in_err-fixed-clause-value c =
    let p = err_from_is_err_and c.from_residual.result c.from_residual.ensures.1 in
    rw (p.1, p.2) (ends_stops c.args.most c.args.sort c.args.head c.args.bytes.now c.args.from c.in_err-fixed.field-0.0 c.in_err-fixed.ensures.value)
