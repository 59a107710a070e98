use Rattle.std.proofs.Common.{◌≡◌, None, drop}
use Rattle.module_text.specs.Listed.{first}
use Rattle.module_text.specs.Faults.{part_mark_faults}
use Rattle.module_pieces.proofs.part_marks.part_mark_fault.Given as goal

abbrev pub invariant-marks : goal.invariant-marks
invariant-marks l =
    first (part_mark_faults l.simple l.generated l.before (drop l.mark-index l.marks))
    ≡ first (part_mark_faults l.simple l.generated None l.marks)
