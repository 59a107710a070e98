use Rattle.std.proofs.Common.{Some, Err}
use Rattle.std.proofs.lemmas.Result.{err_from_is_err_and}
use Rattle.transcode_core.specs.Preparing.{prepared_seen}
use Rattle.transcode_core.specs.Next.{NextDocument}
use Rattle.transcode_messages.proofs.Named.{sure_refusal}
use Rattle.transcode_messages.proofs.converting.next.Goals as goal

pub returns-in_err-found-clause-due : goal.returns-in_err-found-clause-due
returns-in_err-found-clause-due c =
    let p = err_from_is_err_and c.from_residual.result c.from_residual.ensures.1 in
    rw (p.1, p.2) (sure_refusal (NextDocument (prepared_seen c.args.prepared.now) (Some c.args.octets.now) (Err c.in_err-found.field-0.0)) c.in_err-found.field-0.0 (rw c.new-input.ensures at c.in_err-found.ensures.due))

pub returns-clause-back : goal.returns-clause-back
returns-clause-back c = rw c.new-input.ensures at c.in_ok-found.ensures.back
