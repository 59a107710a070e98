use Rattle.std.proofs.Common.{◌≡◌, suc, ◌≤◌}
use Rattle.base_trees.specs.Rose.{node_count, count_all, roses_of}
use Rattle.xml_write.specs.Spaces.{spaces, all_spaces}
use Rattle.xml_write.specs.Private.Binding.{with_spaces}
use Rattle.xml_write.proofs.prefixes.Prefixes.+bind_tree.Given as goal

abbrev pub decreases-bind_tree : goal.decreases-bind_tree
decreases-bind_tree l = node_count l.tree.now

-- what is bound, with what is still to be bound
abbrev pub invariant-kids : goal.invariant-kids
invariant-kids l = record {
  bound : with_spaces l.self (all_spaces (roses_of l.kid-iterator)) ≡ with_spaces l.fn.self (spaces l.tree);
  fewer : suc (count_all (roses_of l.kid-iterator)) ≤ node_count l.tree;
}
