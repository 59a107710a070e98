use Rattle.std.proofs.Common.{◌≡◌, ◌++◌, map, drop}
use Rattle.module_text.specs.Meaning.{assignment_meant}
use Rattle.module_read.proofs.modules.make_ready.Given as goal

abbrev pub invariant-assignments : goal.invariant-assignments
invariant-assignments l = l.made.items ++ map (assignment_meant l.assignments) (drop l.plain-index l.assignments) ≡ map (assignment_meant l.assignments) l.assignments
