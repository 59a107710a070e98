use Rattle.std.proofs.Common.{◌≡◌, ◌+◌, ◌*◌, Some, drop}
use Rattle.base_trees.specs.Rose.{node_count, count_all, roses_of}
use Rattle.module_text.specs.Defaults.{are_told}
use Rattle.module_simple.proofs.defaults.+telling.Given as goal

abbrev pub decreases-is_told : goal.decreases-is_told
decreases-is_told l = 3 * node_count l.value.now

abbrev pub decreases-are_told : goal.decreases-are_told
decreases-are_told l = 3 * count_all (roses_of l.values.now) + 2

abbrev pub decreases-each_told : goal.decreases-each_told
decreases-each_told l = 3 * count_all (roses_of l.values.now) + 1

abbrev pub invariant-each_told-values : goal.invariant-each_told-values
invariant-each_told-values l =
    are_told (Some l.kid) (roses_of (drop l.value-index l.values)) (roses_of l.nodes) ≡ are_told (Some l.kid) (roses_of l.values) (roses_of l.fn.nodes)
