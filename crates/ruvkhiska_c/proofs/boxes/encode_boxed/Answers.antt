use Rattle.std.proofs.Common.{rules, Box, Global, Some}
use Rattle.transcode_words.specs.declared.outcome.Outcome.TheVariants.{Usage}
use Rattle.transcode_words.specs.Answers.{NoMemory}
use Rattle.transcode_words.specs.Order.{Found}
use Rattle.transcode_words.proofs.Joined.{passed}
use Rattle.transcode_core.specs.Preparing.{prepared_seen}
use Rattle.transcode_core.specs.Due.{Encoded}
use Rattle.transcode_core.proofs.Exits.{returned}
use Rattle.transcode_messages.specs.declared.converting.Message.{Message}
use Rattle.ruvkhiska_c.specs.Statuses.{syntax_numbered}
use Rattle.ruvkhiska_c.proofs.boxes.encode_boxed.Goals as goal

pub returns-in_err-message : goal.returns-in_err-message
returns-in_err-message c =
    passed (Found (syntax_numbered c.args.syntax) Usage) (λ s. Encoded s (prepared_seen c.args.prepared.now) (Some c.args.document.now)) NoMemory NoMemory
    (λ (b : Box Message Global). b.value.bytes.items) c.in-Some.syntax c.from_residual.result (search rules)
    (returned (λ (b : Box Message Global). b.value.bytes.items) (Encoded c.in-Some.syntax (prepared_seen c.args.prepared.now) (Some c.args.document.now)) NoMemory
    c.from_residual.result c.in_err-message.field-0.0 c.from_residual.ensures.1 c.in_err-message.ensures)
    (λ o h. h)
