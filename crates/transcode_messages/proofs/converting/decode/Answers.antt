use Rattle.std.proofs.Common.{Some, Err}
use Rattle.std.proofs.lemmas.Result.{err_from_is_err_and}
use Rattle.transcode_core.specs.Preparing.{prepared_seen}
use Rattle.transcode_core.specs.Due.{Documented}
use Rattle.transcode_messages.proofs.Named.{sure_refusal}
use Rattle.transcode_messages.proofs.converting.decode.Goals as goal

pub returns-in_err-bytes-clause-due : goal.returns-in_err-bytes-clause-due
returns-in_err-bytes-clause-due c =
    let p = err_from_is_err_and c.from_residual.result c.from_residual.ensures.1 in
    rw (p.1, p.2) (sure_refusal (Documented c.args.syntax (prepared_seen c.args.prepared.now) (Some c.args.octets.now) (Err c.in_err-bytes.field-0.0)) c.in_err-bytes.field-0.0 (rw c.new-input.ensures at c.in_err-bytes.ensures.due))
