use Rattle.std.proofs.Common.{◌≡◌}
use Rattle.map_subjects.specs.declared.subjects.Subject.TheVariants.{Simple}
use Rattle.map_subjects.specs.Private.Collecting.{firsts, count_before}
use Rattle.map_subjects.proofs.counting.simples_before.Given as goal

abbrev pub invariant-simples : goal.invariant-simples
invariant-simples l = l.count ≡ count_before l.element (firsts l.set Simple l.n)
