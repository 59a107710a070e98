use Rattle.std.proofs.Common.{◌≡◌}
use Rattle.map_subjects.specs.declared.subjects.Subject.TheVariants.{Complex}
use Rattle.map_subjects.specs.Private.Collecting.{firsts, count_before}
use Rattle.map_subjects.proofs.counting.complexes_before.Given as goal

abbrev pub invariant-complexes : goal.invariant-complexes
invariant-complexes l = l.count ≡ count_before l.element (firsts l.set Complex l.n)
