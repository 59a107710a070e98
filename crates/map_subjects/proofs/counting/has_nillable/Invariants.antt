use Rattle.std.proofs.Common.{◌≡◌, drop}
use Rattle.std.specs.List.{list_any}
use Rattle.map_subjects.specs.Subjects.{is_nillable_of, has_nillable}
use Rattle.map_subjects.proofs.counting.has_nillable.Given as goal

abbrev pub invariant-elements : goal.invariant-elements
invariant-elements l = list_any (is_nillable_of l.n) (drop l.decl l.set.elements) ≡ has_nillable l.set l.n
