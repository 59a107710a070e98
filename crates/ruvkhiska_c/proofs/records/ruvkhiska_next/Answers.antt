use Rattle.std.proofs.Common.{rules, ◌≡◌, Some, Ok}
use Rattle.transcode_core.specs.Preparing.{prepared_seen}
use Rattle.transcode_core.specs.Next.{NextDocument, NextBack}
use Rattle.transcode_messages.specs.declared.converting.Message.{Message}
use Rattle.ruvkhiska_c.proofs.Refusals.{by_next, refusal_told, given_such}
use Rattle.ruvkhiska_c.proofs.records.ruvkhiska_next.Goals as goal

pub returns-in-Err-clause-refused : goal.returns-in-Err-clause-refused
returns-in-Err-clause-refused c =
    let is : c.args.converter.now.kept.value ≡ Some c.prepared.result.now = search rules in
    λ other. refusal_told by_next (λ p. NextDocument (prepared_seen p) (Some c.args.octets.now)) c.args.converter.now.kept.value c.prepared.result.now is c.tell_next.result
    c.tell_next.new.complaint c.in-Err.outcome c.tell_next.ensures.status c.tell_next.ensures.told c.in-Err.ensures.due

pub returns-in-Ok-clause-back : goal.returns-in-Ok-clause-back
returns-in-Ok-clause-back c =
    let is : c.args.converter.now.kept.value ≡ Some c.prepared.result.now = search rules in
    λ done. given_such (λ p (m : Message). NextBack (prepared_seen p) (Some c.args.octets.now) (m.bytes.items, c.in-Ok.count)) c.args.converter.now.kept.value c.prepared.result.now is _ c.in-Ok.b.value (search rules) c.in-Ok.ensures.back
