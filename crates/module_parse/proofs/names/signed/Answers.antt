use Rattle.std.proofs.lemmas.Result.{err_from_is_err_and}
use Rattle.module_parse.proofs.Naming.{signed_read, signed_stops}
use Rattle.module_parse.proofs.names.signed.Goals as goal

pub returns-in_err-next-clause-value : goal.returns-in_err-next-clause-value
returns-in_err-next-clause-value c =
    let p = err_from_is_err_and c.from_residual.result c.from_residual.ensures.1 in
    rw (p.1, p.2) (signed_stops c.args.bytes.now c.args.from c.in_err-next.field-0.0 c.in_err-next.ensures.value)

pub returns-clause-value : goal.returns-clause-value
returns-clause-value c = signed_read c.args.bytes.now c.args.from c.in_ok-next.next c.in_ok-written.written c.in_ok-next.ensures.value c.in_ok-written.ensures
