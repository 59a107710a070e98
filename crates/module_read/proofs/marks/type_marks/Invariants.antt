use Rattle.std.proofs.Common.{◌≡◌, ◌++◌, drop}
use Rattle.module_text.specs.Meaning.{type_marks_meant}
use Rattle.module_read.specs.Ready.{AreTypeMarksReady}
use Rattle.module_read.proofs.marks.type_marks.Given as goal

abbrev pub invariant-marks : goal.invariant-marks
invariant-marks l = record {
  items : l.entries.items ++ type_marks_meant l.spot l.form (drop l.mark-index l.marks) ≡ type_marks_meant l.spot l.form l.marks;
  rest : AreTypeMarksReady l.spot l.form l.least (drop l.mark-index l.marks);
}
