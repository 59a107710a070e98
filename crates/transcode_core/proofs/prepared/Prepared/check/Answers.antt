use Rattle.std.proofs.Common.{ℕ, ◌+◌, ◌≤◌, [], inr}
use Rattle.std.specs.Prelude.{Vec, Ok, Some}
use Rattle.std.specs.declared.alloc.Global.{Global}
use Rattle.schema_components.specs.SetParts.{parts_of}
use Rattle.transcode_words.specs.Order.{Give, Then}
use Rattle.transcode_core.specs.Steps.{Judged}
use Rattle.transcode_core.specs.Due.{ItemsIn}
use Rattle.transcode_words.specs.Answers.{NoMemory}
use Rattle.transcode_core.specs.Causes.{StepsFrom}
use Rattle.xml_items.specs.Counts.{element_count}
use Rattle.validity_check.proofs.Counting.{on-ok}
use Rattle.transcode_words.proofs.Joined.{passed}
use Rattle.transcode_core.proofs.Exits.{refused_by}
use Rattle.transcode_core.proofs.prepared.Prepared.check.Goals as goal

pub returns-clause-due : goal.returns-clause-due
returns-clause-due g c =
    let opened = c.args.self.now in
    passed (ItemsIn (Some c.args.document.now)) (λ items. Then (Judged (parts_of opened.0) opened.1 items) (λ _. Give [])) NoMemory NoMemory
    (λ (bytes : Vec ℕ Global). bytes.items) c.in_ok-items.items c.judge.result c.in_ok-items.ensures.due c.judge.ensures.due (λ o h. h)

pub returns-in_err-items-clause-due : goal.returns-in_err-items-clause-due
returns-in_err-items-clause-due g c =
    let opened = c.args.self.now in
    refused_by (ItemsIn (Some c.args.document.now)) (λ items. Then (Judged (parts_of opened.0) opened.1 items) (λ _. Give [])) NoMemory NoMemory
    (λ (bytes : Vec ℕ Global). bytes.items) c.from_residual.result c.in_err-items.field-0.0 c.from_residual.ensures.1 c.in_err-items.ensures.due (λ h. h)

pub returns-clause-few : goal.returns-clause-few
returns-clause-few g c = inr (c.in_ok-items.items, c.in_ok-items.ensures.due, c.judge.ensures.later, c.judge.ensures.most)

pub returns-clause-many : goal.returns-clause-many
returns-clause-many g c =
    on-ok c.judge.result (c.args.steps.now + element_count c.in_ok-items.items ≤ c.judge.new.steps + 1) (StepsFrom (λ items. ItemsIn (Some c.args.document.now) (Ok items)) c.args.steps.now c.judge.new.steps)
    (λ h. (c.in_ok-items.items, c.in_ok-items.ensures.due, h)) c.judge.ensures.least
