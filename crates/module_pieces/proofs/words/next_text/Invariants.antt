use Rattle.std.proofs.Common.{◌≡◌, drop}
use Rattle.std.specs.List.{filter_map}
use Rattle.module_text.specs.Told.{said}
use Rattle.module_pieces.proofs.words.next_text.Given as goal

abbrev pub invariant-marks : goal.invariant-marks
invariant-marks l = filter_map said (drop l.i l.marks) ≡ filter_map said l.marks
