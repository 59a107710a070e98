use Rattle.std.proofs.Common.{◌≡◌, ◌++◌}
use Rattle.map_subjects.specs.declared.subjects.Subject.TheVariants.{Element}
use Rattle.map_subjects.specs.Private.Collecting.{firsts}
use Rattle.map_subjects.proofs.collecting.push_elements.Given as goal

abbrev pub invariant-elements : goal.invariant-elements
invariant-elements l = l.made.items ≡ l.fn.made.items ++ firsts l.set Element l.n
