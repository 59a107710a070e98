use Rattle.std.proofs.Common.{sym, ◌∙◌}
use Rattle.std.proofs.lemmas.Result.{IfOk-weaker}
use Rattle.module_check.proofs.Firsts.{first-front}
use Rattle.module_check.proofs.Listing.{none-when, form-behind}
use Rattle.module_check.proofs.type_faults.own_fault.Goals as goal

pub returns-in-Some : goal.returns-in-Some
returns-in-Some c = first-front _ _ c.in-Some.fault (sym c.in-Some.is ∙ c.in_ok-fault.ensures)

pub returns : goal.returns
returns c =
    IfOk-weaker c.form_fault.result _ _
    (form-behind c.args.context.now.assignments.now c.args.spot c.args.node.now c.label-label.result.now c.items.result.now c.label-label.ensures c.items.ensures
    (none-when c.in_ok-fault.field-0 c.in_default.not-Some ∙ c.in_ok-fault.ensures))
    c.form_fault.ensures
