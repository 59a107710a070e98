use Rattle.std.proofs.Common.{◌≡◌, ◌+◌, ◌*◌, drop}
use Rattle.base_trees.specs.Rose.{node_count, count_all, roses_of}
use Rattle.module_text.specs.Meaning.{types_meant}
use Rattle.module_read.specs.Ready.{ArePartsReady}
use Rattle.module_read.proofs.Making.{with_trees}
use Rattle.module_read.proofs.types.+types.Given as goal

abbrev pub decreases-type_of : goal.decreases-type_of
decreases-type_of l = 2 * node_count l.node.now

abbrev pub decreases-part_types : goal.decreases-part_types
decreases-part_types l = 2 * count_all (roses_of l.kids.now) + 1

abbrev pub invariant-part_types-parts : goal.invariant-part_types-parts
invariant-part_types-parts l = record {
  types : with_trees l.made.items (types_meant l.assignments l.spot l.label l.i (drop l.i l.parts) (roses_of (drop l.i l.kids)))
      ≡ types_meant l.assignments l.spot l.label 0 l.parts (roses_of l.kids);
  rest : ArePartsReady l.assignments l.spot l.label l.i (drop l.i l.parts) (roses_of (drop l.i l.kids));
}
