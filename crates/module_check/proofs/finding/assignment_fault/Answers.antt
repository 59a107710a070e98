use Rattle.std.proofs.lemmas.Result.{IfOk-weaker}
use Rattle.module_check.proofs.Listing.{assignment-taken, assignment-long, assignment-behind}
use Rattle.module_check.proofs.finding.assignment_fault.Goals as goal

pub returns-in-Some : goal.returns-in-Some
returns-in-Some c =
    assignment-taken c.args.context.now.assignments.now c.args.seen.now c.args.assignment.now c.is_free-free.result c.is_free-free.ensures
    c.in-Some.fault c.in-Some.ensures

pub returns-in-Some-unless : goal.returns-in-Some-unless
returns-in-Some-unless c =
    assignment-long c.args.context.now.assignments.now c.args.seen.now c.args.assignment.now c.is_free-free.result c.is_free-free.ensures
    c.chains_end-ends.result c.chains_end-ends.ensures c.in_default.ensures c.in-Some-unless.fault c.in-Some-unless.ensures

pub returns : goal.returns
returns c =
    IfOk-weaker c.body_fault.result _ _
    (assignment-behind c.args.context.now.assignments.now c.args.seen.now c.args.assignment.now c.is_free-free.result c.is_free-free.ensures
    c.chains_end-ends.result c.chains_end-ends.ensures c.in_default.ensures c.in_default-unless.ensures)
    c.body_fault.ensures
