use Rattle.std.proofs.lemmas.Result.{IfOk-weaker}
use Rattle.module_check.proofs.Listing.{body-marks, body-behind}
use Rattle.module_check.proofs.finding.body_fault.Goals as goal

pub returns-in-Some : goal.returns-in-Some
returns-in-Some c =
    body-marks c.args.context.now.assignments.now c.args.assignment.now c.in_ok-simple.simple c.in_ok-simple.ensures
    c.bytes-name.result.now c.bytes-name.ensures.bytes c.items.result.now c.items.ensures c.in-Some.fault c.in-Some.ensures

pub returns : goal.returns
returns c =
    IfOk-weaker c.type_fault.result _ _
    (body-behind c.args.context.now.assignments.now c.args.assignment.now c.in_ok-simple.simple c.in_ok-simple.ensures
    c.bytes-name.result.now c.bytes-name.ensures.bytes c.items.result.now c.items.ensures c.in_default.ensures)
    c.type_fault.ensures
