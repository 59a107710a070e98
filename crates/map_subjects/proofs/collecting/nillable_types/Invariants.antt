use Rattle.std.proofs.Common.{◌≡◌, length}
use Rattle.map_subjects.proofs.Marks.{Marked}
use Rattle.map_subjects.proofs.collecting.nillable_types.Given as goal

-- the marks so far, with the elements that are left
abbrev pub invariant-elements : goal.invariant-elements
invariant-elements l = (length l.marks.items ≡ length l.set.complexes) × Marked l.set l.decl l.marks.items
