use Rattle.std.proofs.Common.{◌≡◌, ◌++◌, ◌+◌, ◌*◌, codes}
use Rattle.std.specs.Prelude.{map}
use Rattle.std.specs.List.{flat_map}
use Rattle.base_trees.specs.Rose.{node_count, count_all, roses_of}
use Rattle.module_print.specs.Notation.{listed}
use Rattle.module_print.specs.Values.{part_notation}
use Rattle.module_print.proofs.Valuing.{further}
use Rattle.module_print.proofs.values.+values.Given as goal

abbrev pub decreases-write_value : goal.decreases-write_value
decreases-write_value l = 3 * node_count l.tree.now

abbrev pub decreases-write_part : goal.decreases-write_part
decreases-write_part l = 3 * count_all (roses_of l.kids.now) + 1

abbrev pub decreases-write_items : goal.decreases-write_items
decreases-write_items l = 3 * count_all (roses_of l.kids.now) + 2

abbrev pub decreases-write_chosen : goal.decreases-write_chosen
decreases-write_chosen l = 3 * count_all (roses_of l.kids.now) + 2

-- what is written, with the items that are still to be written
abbrev pub invariant-write_items-items : goal.invariant-write_items-items
invariant-write_items-items l =
    l.out.items ++ flat_map (further (part_notation (roses_of l.kids) 0)) l.value-iterator
    ≡ l.fn.out.items ++ (codes "{" ++ listed (codes " ") (map (part_notation (roses_of l.kids) 0) l.values))
