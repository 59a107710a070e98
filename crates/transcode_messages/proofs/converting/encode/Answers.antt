use Rattle.std.proofs.Common.{Some}
use Rattle.transcode_words.specs.Answers.{NoMemory}
use Rattle.transcode_core.specs.Preparing.{prepared_seen}
use Rattle.transcode_core.specs.Due.{Encoded}
use Rattle.transcode_core.proofs.Exits.{returned}
use Rattle.transcode_messages.specs.declared.converting.Message.{Message}
use Rattle.transcode_messages.proofs.converting.encode.Goals as goal

pub returns-in_err-bytes : goal.returns-in_err-bytes
returns-in_err-bytes c =
    returned (λ (message : Message). message.bytes.items) (Encoded c.args.syntax (prepared_seen c.args.prepared.now) (Some c.args.document.now)) NoMemory
    c.from_residual.result c.in_err-bytes.field-0.0 c.from_residual.ensures.1 c.in_err-bytes.ensures
