use Rattle.std.proofs.Common.{◌≡◌, suc, ◌≤◌, ◌++◌}
use Rattle.base_trees.specs.Rose.{roses_of, kids_of, label_of, node_count, count_all}
use Rattle.simple_types.proofs.holding.+is_same.Given as goal

abbrev pub decreases-is_same : goal.decreases-is_same
decreases-is_same l = node_count l.a.now

abbrev pub invariant-kids : goal.invariant-kids
invariant-kids l = record {
  first : l.yielded ++ l.kid-iterator ≡ kids_of l.fn.a;
  second : l.yielded ++ l.others ≡ kids_of l.fn.b;
  label : label_of l.fn.a ≡ label_of l.fn.b;
  fewer : suc (count_all (roses_of l.kid-iterator)) ≤ node_count l.fn.a;
}
