use Rattle.std.proofs.Common.{◌≡◌, suc, ◌≤◌, ◌++◌}
use Rattle.base_trees.specs.Rose.{roses_of, kids_of, node_count, count_all}
use Rattle.xml_items.proofs.tree.+copied.Given as goal

abbrev pub decreases-copied : goal.decreases-copied
decreases-copied l = node_count l.node.now

abbrev pub invariant-loop-kid : goal.invariant-loop-kid
invariant-loop-kid l = record {
  told : l.kids.items ++ l.kid-iterator ≡ kids_of l.node;
  fewer : suc (count_all (roses_of l.kid-iterator)) ≤ node_count l.node;
}
