use Rattle.transcode_words.specs.declared.outcome.Outcome.TheVariants.{SchemaSyntax}
use Rattle.schema_components.specs.Documents.{doc_of}
use Rattle.schema_read.specs.Raw.{raw_of}
use Rattle.transcode_words.specs.Order.{Give, Then}
use Rattle.transcode_core.specs.Steps.{Read, Faultless}
use Rattle.transcode_words.specs.Answers.{NoMemory}
use Rattle.transcode_words.proofs.Joined.{passed}
use Rattle.transcode_core.proofs.Exits.{refused_by}
use Rattle.transcode_core.proofs.schemas.read_file.Goals as goal

pub returns : goal.returns
returns c =
    passed (Read (λ at why. SchemaSyntax c.args.file at why) c.args.bytes.now) (λ items. Then (Faultless c.args.file items) (λ _. Give (raw_of c.args.file items)))
    NoMemory NoMemory doc_of c.in_ok-items.items c.read_components.result c.in_ok-items.ensures.due c.read_components.ensures (λ o h. h)

pub returns-in_err-items : goal.returns-in_err-items
returns-in_err-items c =
    refused_by (Read (λ at why. SchemaSyntax c.args.file at why) c.args.bytes.now) (λ items. Then (Faultless c.args.file items) (λ _. Give (raw_of c.args.file items)))
    NoMemory NoMemory doc_of c.from_residual.result c.in_err-items.field-0.0 c.from_residual.ensures.1 c.in_err-items.ensures.due (λ h. h)
