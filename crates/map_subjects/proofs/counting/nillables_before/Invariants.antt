use Rattle.std.proofs.Common.{◌≡◌}
use Rattle.map_subjects.specs.declared.subjects.Subject.TheVariants.{Nillable}
use Rattle.map_subjects.specs.Private.Collecting.{firsts, count_before}
use Rattle.map_subjects.proofs.counting.nillables_before.Given as goal

abbrev pub invariant-complexes : goal.invariant-complexes
invariant-complexes l = l.count ≡ count_before l.element (firsts l.set Nillable l.n)
