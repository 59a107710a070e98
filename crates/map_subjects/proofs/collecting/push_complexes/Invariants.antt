use Rattle.std.proofs.Common.{◌≡◌, ◌++◌}
use Rattle.map_subjects.specs.declared.subjects.Subject.TheVariants.{Complex}
use Rattle.map_subjects.specs.Private.Collecting.{firsts}
use Rattle.map_subjects.proofs.collecting.push_complexes.Given as goal

abbrev pub invariant-complexes : goal.invariant-complexes
invariant-complexes l = l.made.items ≡ l.fn.made.items ++ firsts l.set Complex l.n
