use Rattle.std.proofs.Common.{rules, ◌≡◌, Some}
use Rattle.transcode_core.specs.Preparing.{prepared_seen}
use Rattle.transcode_core.specs.Due.{Checked}
use Rattle.ruvkhiska_c.proofs.Refusals.{by_status, refusal_told}
use Rattle.ruvkhiska_c.proofs.ruvkhiska_check.Goals as goal

pub returns-in-Err-clause-refused : goal.returns-in-Err-clause-refused
returns-in-Err-clause-refused c =
    let is : c.args.converter.now.kept.value ≡ Some c.prepared.result.now = search rules in
    λ other. refusal_told by_status (λ p. Checked (prepared_seen p) (Some c.args.document.now)) c.args.converter.now.kept.value c.prepared.result.now is c.tell.result
    c.tell.new.complaint c.in-Err.outcome c.tell.ensures.status c.tell.ensures.told c.in-Err.ensures
