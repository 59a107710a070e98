use Rattle.std.proofs.Common.{ℕ, Box, Global, Some}
use Rattle.transcode_words.specs.Answers.{NoMemory}
use Rattle.transcode_core.specs.Preparing.{prepared_seen}
use Rattle.transcode_core.specs.Next.{NextDocument}
use Rattle.transcode_core.proofs.Exits.{returned}
use Rattle.transcode_messages.specs.declared.converting.Message.{Message}
use Rattle.ruvkhiska_c.proofs.boxes.next_boxed.Goals as goal

pub returns-in_err-first-clause-due : goal.returns-in_err-first-clause-due
returns-in_err-first-clause-due c =
    returned (λ (first : Box Message Global × ℕ). (first.0.value.bytes.items, first.1)) (NextDocument (prepared_seen c.args.prepared.now) (Some c.args.octets.now)) NoMemory
    c.from_residual.result c.in_err-first.field-0.0 c.from_residual.ensures.1 c.in_err-first.ensures.due

pub returns-in-Ok-clause-back : goal.returns-in-Ok-clause-back
returns-in-Ok-clause-back c = rw c.in-Ok.ensures.ok c.in_ok-first.ensures.back
