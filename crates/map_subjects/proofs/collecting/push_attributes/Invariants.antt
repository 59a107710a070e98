use Rattle.std.proofs.Common.{◌≡◌, ◌++◌}
use Rattle.map_subjects.specs.declared.subjects.Subject.TheVariants.{Attribute}
use Rattle.map_subjects.specs.Private.Collecting.{firsts}
use Rattle.map_subjects.proofs.collecting.push_attributes.Given as goal

abbrev pub invariant-attributes : goal.invariant-attributes
invariant-attributes l = l.made.items ≡ l.fn.made.items ++ firsts l.set Attribute l.n
