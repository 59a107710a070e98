use Rattle.std.proofs.Common.{◌+◌, ◌≤◌, inl, inr}
use Rattle.std.specs.Prelude.{Ok}
use Rattle.transcode_core.specs.Preparing.{prepared_seen}
use Rattle.transcode_core.specs.Due.{ItemsIn}
use Rattle.transcode_words.specs.Answers.{NoMemory}
use Rattle.transcode_core.specs.Causes.{OneRead, StepsFrom}
use Rattle.xml_items.specs.Counts.{element_count}
use Rattle.validity_check.proofs.Counting.{on-ok}
use Rattle.transcode_core.proofs.Ready.{encoded, no_items}
use Rattle.transcode_core.proofs.prepared.Prepared.encode_input.Goals as goal

pub returns-clause-due : goal.returns-clause-due
returns-clause-due g c =
    encoded c.args.syntax (prepared_seen c.args.self.now) (g.S.Source.left c.args.input.now) NoMemory (OneRead (g.S.Source.faults c.args.input.now) (g.S.Source.faults c.read_items.new.input))
    c.in_ok-items.items c.encode_items.result c.in_ok-items.ensures.due c.encode_items.ensures.due (λ o h. inl h)

pub returns-in_err-items-clause-due : goal.returns-in_err-items-clause-due
returns-in_err-items-clause-due g c =
    no_items c.args.syntax (prepared_seen c.args.self.now) (g.S.Source.left c.args.input.now) c.see_type.ensures.0 c.see_type.ensures.1 (OneRead (g.S.Source.faults c.args.input.now) (g.S.Source.faults c.read_items.new.input))
    c.from_residual.result c.in_err-items.field-0.0 c.from_residual.ensures.1 c.in_err-items.ensures.due

pub returns-clause-few : goal.returns-clause-few
returns-clause-few g c = inr (c.in_ok-items.items, c.in_ok-items.ensures.due, c.encode_items.ensures.later, c.encode_items.ensures.most)

pub returns-clause-many : goal.returns-clause-many
returns-clause-many g c =
    on-ok c.encode_items.result (c.args.steps.now + element_count c.in_ok-items.items ≤ c.encode_items.new.steps + 1) (StepsFrom (λ items. ItemsIn (g.S.Source.left c.args.input.now) (Ok items)) c.args.steps.now c.encode_items.new.steps)
    (λ h. (c.in_ok-items.items, c.in_ok-items.ensures.due, h)) c.encode_items.ensures.least
