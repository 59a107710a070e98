use Rattle.std.proofs.Common.{◌≡◌, ◌+◌, ◌*◌, drop}
use Rattle.base_trees.specs.Rose.{node_count, count_all, roses_of}
use Rattle.module_simple.specs.Made.{behind_it}
use Rattle.module_simple.specs.Written.{list_told}
use Rattle.module_simple.proofs.Writing.{texts_of, with_texts}
use Rattle.std.specs.Prelude.{slice_get}
use Rattle.module_simple.proofs.defaults.+spelling.Given as goal

abbrev pub decreases-write_spelling : goal.decreases-write_spelling
decreases-write_spelling l = 2 * node_count l.value.now

abbrev pub decreases-write_list : goal.decreases-write_list
decreases-write_list l = 2 * count_all (roses_of l.values.now) + 1

abbrev pub decreases-write_chosen : goal.decreases-write_chosen
decreases-write_chosen l = 2 * count_all (roses_of l.values.now) + 1

abbrev pub invariant-write_list-others : goal.invariant-write_list-others
invariant-write_list-others l =
    with_texts l.out.items (texts_of l.kid (drop l.value-index l.others)) ≡ behind_it l.fn.out.items (list_told (slice_get l.kids 0) l.values)
