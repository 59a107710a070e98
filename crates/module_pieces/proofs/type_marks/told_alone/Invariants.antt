use Rattle.std.proofs.Common.{◌≡◌, drop}
use Rattle.module_text.specs.Told.{told_alone, alone_behind}
use Rattle.module_pieces.proofs.type_marks.told_alone.Given as goal

abbrev pub invariant-marks : goal.invariant-marks
invariant-marks l = alone_behind l.seen (drop l.mark-index l.marks) ≡ told_alone l.marks
