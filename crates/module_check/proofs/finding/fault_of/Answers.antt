use Rattle.std.proofs.Common.{sym, ◌∙◌}
use Rattle.std.proofs.lemmas.List.{at_drop_all}
use Rattle.module_text.specs.Listed.{first}
use Rattle.module_text.specs.Faults.{faults_from}
use Rattle.module_check.proofs.Listing.{none-when, assignment-faulty, assignment-passed, assignment-free}
use Rattle.module_check.proofs.finding.fault_of.Goals as goal

pub returns-in-Some : goal.returns-in-Some
returns-in-Some c =
    assignment-faulty c.args.context.now.assignments.now c.assignments.seen c.assignments.assignment-index c.assignment-item.result
    c.assignments-test.true c.assignment-item.is _ c.assignments.invariant c.in-Some.fault (sym c.in-Some.is ∙ c.in_ok-fault.ensures)

pub note-requires : goal.note-requires
note-requires c =
    assignment-free c.args.context.now.assignments.now c.assignments.seen c.assignment-item.result _
    (none-when c.in_ok-fault.field-0 c.in_default.not-Some ∙ c.in_ok-fault.ensures) c.in_ok-copy.ensures

pub assignments-preserved : goal.assignments-preserved
assignments-preserved c =
    assignment-passed c.args.context.now.assignments.now c.assignments.seen c.assignments.assignment-index c.assignment-item.result
    c.assignments-test.true c.assignment-item.is _ c.assignments.invariant _ _
    (none-when c.in_ok-fault.field-0 c.in_default.not-Some ∙ c.in_ok-fault.ensures) c.in_ok-copy.ensures c.in_ok-note.ensures

pub returns : goal.returns
unfolding first
returns c =
    let P = c.args.context.now.assignments.now in
    sym (at_drop_all (λ Q. first (faults_from P c.assignments.seen Q)) P c.assignments.assignment-index c.assignments-test.false)
    ∙ c.assignments.invariant
