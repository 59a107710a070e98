use Rattle.std.proofs.Common.{◌≡◌}
use Rattle.map_subjects.specs.declared.subjects.Subject.TheVariants.{Attribute}
use Rattle.map_subjects.specs.Private.Collecting.{firsts, count_before}
use Rattle.map_subjects.proofs.counting.attributes_before.Given as goal

abbrev pub invariant-attributes : goal.invariant-attributes
invariant-attributes l = l.count ≡ count_before l.element (firsts l.set Attribute l.n)
