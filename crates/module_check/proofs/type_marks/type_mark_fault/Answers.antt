use Rattle.std.proofs.Common.{sym, ◌∙◌}
use Rattle.std.proofs.lemmas.List.{at_drop_all}
use Rattle.module_text.specs.Listed.{first}
use Rattle.module_check.proofs.Listing.{marks_left, mark-stopped, mark-passed}
use Rattle.module_check.proofs.type_marks.type_mark_fault.Goals as goal

pub returns-in-Some : goal.returns-in-Some
returns-in-Some c =
    mark-stopped c.args.context.now.assignments.now c.args.spot c.args.node.now c.items-marks.result.now c.marks.mark-index c.mark-item.result
    c.marks-test.true c.mark-item.is c.marks.before c.marks.least c.in_ok-stands.stands c.in_ok-stands.ensures _ c.marks.invariant
    c.in-Some.fault c.in-Some.ensures

pub marks-preserved : goal.marks-preserved
marks-preserved c =
    mark-passed c.args.context.now.assignments.now c.args.spot c.args.node.now c.items-marks.result.now c.marks.mark-index c.mark-item.result
    c.marks-test.true c.mark-item.is c.marks.before c.marks.least c.in_ok-stands.stands c.in_ok-stands.ensures _ c.marks.invariant
    c.label-label.result.now c.rank.result c.next_item-least.result c.label-label.ensures c.rank.ensures c.next_item-least.ensures
    c.in_default.ensures

pub returns : goal.returns
unfolding first
returns c =
    sym (at_drop_all (λ ms. marks_left c.args.context.now.assignments.now c.args.spot c.args.node.now c.marks.before c.marks.least ms)
    c.items-marks.result.now c.marks.mark-index c.marks-test.false)
    ∙ c.marks.invariant
