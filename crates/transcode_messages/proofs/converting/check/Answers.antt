use Rattle.std.proofs.Common.{[], Some}
use Rattle.transcode_words.specs.Answers.{NoMemory}
use Rattle.transcode_core.specs.Preparing.{prepared_seen}
use Rattle.transcode_core.specs.Due.{Checked}
use Rattle.transcode_core.proofs.Exits.{returned}
use Rattle.transcode_messages.proofs.converting.check.Goals as goal

pub returns-in_err-check_counted : goal.returns-in_err-check_counted
returns-in_err-check_counted c =
    returned (λ (_ : Unit {0}). []) (Checked (prepared_seen c.args.prepared.now) (Some c.args.document.now)) NoMemory
    c.from_residual.result c.in_err-check_counted.field-0.0 c.from_residual.ensures.1 c.in_err-check_counted.ensures
