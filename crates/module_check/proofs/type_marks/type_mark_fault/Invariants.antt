use Rattle.std.proofs.Common.{◌≡◌, None, drop}
use Rattle.base_trees.specs.Rose.{label_of, kids_of, roses_of}
use Rattle.module_text.specs.Listed.{first}
use Rattle.module_text.specs.Faults.{type_mark_faults}
use Rattle.module_check.proofs.type_marks.type_mark_fault.Given as goal

abbrev pub invariant-marks : goal.invariant-marks
invariant-marks l =
    first (type_mark_faults l.context.assignments.now l.spot (label_of l.node) (roses_of (kids_of l.node)) l.before l.least (drop l.mark-index l.marks))
    ≡ first (type_mark_faults l.context.assignments.now l.spot (label_of l.node) (roses_of (kids_of l.node)) None 0 (label_of l.node).marks)
