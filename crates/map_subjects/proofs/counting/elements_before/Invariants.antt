use Rattle.std.proofs.Common.{◌≡◌}
use Rattle.map_subjects.specs.declared.subjects.Subject.TheVariants.{Element}
use Rattle.map_subjects.specs.Private.Collecting.{firsts, count_before}
use Rattle.map_subjects.proofs.counting.elements_before.Given as goal

abbrev pub invariant-elements : goal.invariant-elements
invariant-elements l = l.count ≡ count_before l.element (firsts l.set Element l.n)
