use Rattle.std.proofs.Common.{inl}
use Rattle.base_trees.specs.Rose.{Rose}
use Rattle.xml_items.specs.declared.label.ItemLabel.{ItemLabel}
use Rattle.transcode_words.specs.declared.outcome.Outcome.TheVariants.{DocSyntax}
use Rattle.transcode_core.specs.Steps.{Input, Read}
use Rattle.transcode_words.specs.Answers.{NoMemory}
use Rattle.transcode_core.specs.Causes.{OneRead}
use Rattle.transcode_words.proofs.Joined.{passed}
use Rattle.transcode_core.proofs.Exits.{refused_by}
use Rattle.transcode_core.proofs.documents.read_items.Goals as goal

pub returns-clause-due : goal.returns-clause-due
returns-clause-due g c =
    passed (Input (g.S.Source.left c.args.input.now)) (λ bytes. Read (λ at why. DocSyntax at why) bytes) NoMemory
    (OneRead (g.S.Source.faults c.args.input.now) (g.S.Source.faults c.read_input.new.input)) (λ (items : Rose ItemLabel). items) c.in_ok-bytes.bytes.items c.read_shared_items.result
    c.in_ok-bytes.ensures.due c.read_shared_items.ensures.due (λ o h. inl h)

pub returns-in_err-bytes-clause-due : goal.returns-in_err-bytes-clause-due
returns-in_err-bytes-clause-due g c =
    let cause = OneRead (g.S.Source.faults c.args.input.now) (g.S.Source.faults c.read_input.new.input) in
    refused_by (Input (g.S.Source.left c.args.input.now)) (λ bytes. Read (λ at why. DocSyntax at why) bytes) cause cause (λ (items : Rose ItemLabel). items) c.from_residual.result c.in_err-bytes.field-0.0 c.from_residual.ensures.1 c.in_err-bytes.ensures.due (λ h. h)
