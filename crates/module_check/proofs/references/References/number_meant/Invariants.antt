use Rattle.std.proofs.Common.{◌≡◌, ◌-◌}
use Rattle.module_text.specs.Resolving.{follow, resolve}
use Rattle.module_check.proofs.Tables.{IsMeant}
use Rattle.module_check.proofs.references.References.number_meant.Given as goal

abbrev pub invariant-references : goal.invariant-references
invariant-references l = record {
  leads : follow l.assignments (4 - l.step) l.at ≡ resolve l.assignments l.node;
  is : IsMeant l.assignments l.node l.at l.found;
}
