use Rattle.std.proofs.Common.{◌≡◌, ◌++◌}
use Rattle.map_subjects.specs.declared.subjects.Subject.TheVariants.{Simple}
use Rattle.map_subjects.specs.Private.Collecting.{firsts}
use Rattle.map_subjects.proofs.collecting.push_simples.Given as goal

abbrev pub invariant-simples : goal.invariant-simples
invariant-simples l = l.made.items ≡ l.fn.made.items ++ firsts l.set Simple l.n
