use Rattle.std.proofs.Common.{ℕ, ◌+◌, ◌≤◌, [], inl, inr}
use Rattle.std.specs.Prelude.{Vec, Ok}
use Rattle.std.specs.declared.alloc.Global.{Global}
use Rattle.schema_components.specs.SetParts.{parts_of}
use Rattle.transcode_words.specs.Order.{Give, Then}
use Rattle.transcode_core.specs.Steps.{Judged}
use Rattle.transcode_core.specs.Due.{ItemsIn}
use Rattle.transcode_words.specs.Answers.{NoMemory}
use Rattle.transcode_core.specs.Causes.{OneRead, StepsFrom}
use Rattle.xml_items.specs.Counts.{element_count}
use Rattle.validity_check.proofs.Counting.{on-ok}
use Rattle.transcode_words.proofs.Joined.{passed}
use Rattle.transcode_core.proofs.Exits.{refused_by}
use Rattle.transcode_core.proofs.judging.check_input.Goals as goal

pub returns-clause-due : goal.returns-clause-due
returns-clause-due g c =
    let opened = c.args.opened.now in
    passed (ItemsIn (g.S.Source.left c.args.input.now)) (λ items. Then (Judged (parts_of opened.set) opened.root items) (λ _. Give [])) NoMemory
    (OneRead (g.S.Source.faults c.args.input.now) (g.S.Source.faults c.read_items.new.input)) (λ (bytes : Vec ℕ Global). bytes.items) c.in_ok-items.items c.judge.result
    c.in_ok-items.ensures.due c.judge.ensures.due (λ o h. inl h)

pub returns-in_err-items-clause-due : goal.returns-in_err-items-clause-due
returns-in_err-items-clause-due g c =
    let opened = c.args.opened.now in
    let cause = OneRead (g.S.Source.faults c.args.input.now) (g.S.Source.faults c.read_items.new.input) in
    refused_by (ItemsIn (g.S.Source.left c.args.input.now)) (λ items. Then (Judged (parts_of opened.set) opened.root items) (λ _. Give [])) cause cause
    (λ (bytes : Vec ℕ Global). bytes.items) c.from_residual.result c.in_err-items.field-0.0 c.from_residual.ensures.1 c.in_err-items.ensures.due (λ h. h)

pub returns-clause-few : goal.returns-clause-few
returns-clause-few g c = inr (c.in_ok-items.items, c.in_ok-items.ensures.due, c.judge.ensures.later, c.judge.ensures.most)

pub returns-clause-many : goal.returns-clause-many
returns-clause-many g c =
    on-ok c.judge.result (c.args.steps.now + element_count c.in_ok-items.items ≤ c.judge.new.steps + 1) (StepsFrom (λ items. ItemsIn (g.S.Source.left c.args.input.now) (Ok items)) c.args.steps.now c.judge.new.steps)
    (λ h. (c.in_ok-items.items, c.in_ok-items.ensures.due, h)) c.judge.ensures.least
