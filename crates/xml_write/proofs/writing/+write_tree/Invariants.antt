use Rattle.std.proofs.Common.{◌≡◌, suc, ◌≤◌, ◌++◌}
use Rattle.base_trees.specs.Rose.{node_count, count_all, roses_of, kids_of}
use Rattle.xml_write.specs.Written.{all_spelled}
use Rattle.xml_write.proofs.writing.+write_tree.Given as goal

abbrev pub decreases-write_tree : goal.decreases-write_tree
decreases-write_tree l = node_count l.tree.now

-- what is written, with the kids that are still to be written
abbrev pub invariant-kids : goal.invariant-kids
invariant-kids l = record {
  written : l.out.items ++ all_spelled l.prefixes (roses_of l.kid-iterator) ≡ l.initial.out.items ++ all_spelled l.prefixes (roses_of (kids_of l.tree));
  fewer : suc (count_all (roses_of l.kid-iterator)) ≤ node_count l.tree;
}
