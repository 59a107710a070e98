use Rattle.std.proofs.Common.{length, ◌-◌}
use Rattle.module_parse.specs.Readers.{part_mark_at}
use Rattle.module_parse.proofs.Looping.{More}
use Rattle.module_parse.proofs.marks.more_part_marks.Given as goal

abbrev pub invariant-marks : goal.invariant-marks
invariant-marks l = More (part_mark_at l.rank) l.bytes l.fn.from l.initial.marks.items l.marks.items l.next

abbrev pub decreases-marks : goal.decreases-marks
decreases-marks l = length l.bytes - l.next.at
