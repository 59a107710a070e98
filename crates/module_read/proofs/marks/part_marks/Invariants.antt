use Rattle.std.proofs.Common.{◌≡◌, ◌++◌, drop}
use Rattle.module_text.specs.Meaning.{part_marks_meant}
use Rattle.module_read.proofs.marks.part_marks.Given as goal

abbrev pub invariant-marks : goal.invariant-marks
invariant-marks l = l.entries.items ++ part_marks_meant l.generated (drop l.mark-index l.marks) ≡ part_marks_meant l.generated l.marks
