use Rattle.std.proofs.Common.{◌≡◌, ◌++◌, drop}
use Rattle.base_trees.specs.Rose.{roses_of}
use Rattle.module_read.specs.Ready.{components_told, ArePartsSpelled}
use Rattle.module_read.proofs.forms.components.Given as goal

abbrev pub invariant-parts : goal.invariant-parts
invariant-parts l = record {
  items : l.made.items ++ components_told l.assignments (drop l.i l.parts) (roses_of (drop l.i l.kids)) ≡ components_told l.assignments l.parts (roses_of l.kids);
  rest : ArePartsSpelled l.assignments (drop l.i l.parts) (roses_of (drop l.i l.kids));
}
