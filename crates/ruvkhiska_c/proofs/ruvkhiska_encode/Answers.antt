use Rattle.std.proofs.Common.{rules, ◌≡◌, Box, Global, Some}
use Rattle.transcode_messages.specs.declared.converting.Message.{Message}
use Rattle.ruvkhiska_c.specs.Complaints.{Tells}
use Rattle.transcode_core.specs.Preparing.{prepared_seen}
use Rattle.ruvkhiska_c.specs.Statuses.{EncodedBy}
use Rattle.ruvkhiska_c.specs.Pointing.{PointsTo}
use Rattle.ruvkhiska_c.proofs.Refusals.{by_status, answer_told, answer_given}
use Rattle.ruvkhiska_c.proofs.ruvkhiska_encode.Goals as goal

pub returns-clause-given : goal.returns-clause-given
returns-clause-given c =
    let is : c.args.converter.now.kept.value ≡ Some c.prepared.result.now = search rules in
    λ done. answer_given (λ p. EncodedBy c.args.syntax (prepared_seen p) c.args.document.now) c.args.converter.now.kept.value c.prepared.result.now is c.hand_out.result
    (λ (b : Box Message Global). b.value) c.encode_boxed-encoded.result c.hand_out.new.answer.given.value c.hand_out.new.answer.start c.hand_out.new.answer.count (c.hand_out.new.answer.given.value ≡ c.args.answer.now.given.value) (λ o. Tells o c.hand_out.new.complaint) c.encode_boxed-encoded.ensures c.hand_out.ensures.answer c.hand_out.ensures.not_done done

pub returns-clause-refused : goal.returns-clause-refused
returns-clause-refused c =
    let is : c.args.converter.now.kept.value ≡ Some c.prepared.result.now = search rules in
    λ other. answer_told by_status (λ p. EncodedBy c.args.syntax (prepared_seen p) c.args.document.now) c.args.converter.now.kept.value c.prepared.result.now is c.hand_out.result
    c.hand_out.new.complaint (λ (b : Box Message Global). b.value.bytes.items) c.encode_boxed-encoded.result (λ b. c.hand_out.new.answer.given.value ≡ Some b.value) (λ b. PointsTo c.hand_out.new.answer.start c.hand_out.new.answer.count b.value) (c.hand_out.new.answer.given.value ≡ c.args.answer.now.given.value) c.encode_boxed-encoded.ensures c.hand_out.ensures.answer other
