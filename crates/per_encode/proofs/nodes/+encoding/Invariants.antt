use Rattle.std.proofs.Common.{◌≡◌, ◌+◌, ◌-◌, ◌*◌, ◌≤◌, ◌++◌, length, take, drop, map}
use Rattle.base_trees.specs.Rose.{node_count, count_all, roses_of}
use Rattle.per_fields.specs.Codec.{AllOf}
use Rattle.per_fields.specs.Fields.{in_turn, counted_bits}
use Rattle.per_fields.specs.Encoding.{per}
use Rattle.per_encode.specs.Private.Kids.{FitsSomewhere, AllFit, chosen, writers}
use Rattle.per_encode.proofs.nodes.+encoding.Given as goal

abbrev pub decreases-put_node : goal.decreases-put_node
decreases-put_node g l = 6 * node_count l.value.now + 5

abbrev pub decreases-put_content : goal.decreases-put_content
decreases-put_content g l = 6 * node_count l.value.now + 4

abbrev pub decreases-put_list : goal.decreases-put_list
decreases-put_list g l = 6 * node_count l.value.now + 3

abbrev pub decreases-put_sequence : goal.decreases-put_sequence
decreases-put_sequence g l = 6 * node_count l.value.now + 3

abbrev pub decreases-put_choice : goal.decreases-put_choice
decreases-put_choice g l = 6 * node_count l.value.now + 3

abbrev pub decreases-put_fragments : goal.decreases-put_fragments
decreases-put_fragments g l = 6 * count_all (roses_of l.values.now) + 8

abbrev pub decreases-put_items : goal.decreases-put_items
decreases-put_items g l = 6 * count_all (roses_of l.values.now) + 7

abbrev pub decreases-put_parts : goal.decreases-put_parts
decreases-put_parts g l = 6 * count_all (roses_of l.values.now) + 7

abbrev pub invariant-put_parts-parts : goal.invariant-put_parts-parts
invariant-put_parts-parts g l =
    let M = l.«module» in
    record {
      fit : AllFit M (chosen (drop l.i l.types) (drop l.i l.present)) l.left;
      whole : l.sink ++ in_turn (writers g.V.Variant.ALIGNED M (chosen (drop l.i l.types) (drop l.i l.present)) l.left) (length l.sink)
          ≡ l.fn.sink ++ in_turn (writers g.V.Variant.ALIGNED M (chosen l.types l.present) l.values) (length l.fn.sink);
      fewer : count_all (roses_of l.left) ≤ count_all (roses_of l.values);
    }

abbrev pub invariant-put_items-items : goal.invariant-put_items-items
invariant-put_items-items g l = record {
  within : l.n - l.counter ≤ length l.values;
  fit : AllOf (FitsSomewhere l.«module» l.node) l.values;
  whole : l.sink ++ in_turn (map (per g.V.Variant.ALIGNED l.«module» l.node) (take (l.n - l.counter) l.values)) (length l.sink)
      ≡ l.fn.sink ++ in_turn (map (per g.V.Variant.ALIGNED l.«module» l.node) (take l.n l.fn.values)) (length l.fn.sink);
  rest : drop (l.n - l.counter) l.values ≡ drop l.n l.fn.values;
  fewer : count_all (roses_of l.values) ≤ count_all (roses_of l.fn.values);
}

abbrev pub invariant-put_fragments-fragments : goal.invariant-put_fragments-fragments
invariant-put_fragments-fragments g l = record {
  counted : l.count ≡ length l.left;
  fit : AllOf (FitsSomewhere l.«module» l.node) l.left;
  whole : l.sink ++ counted_bits g.V.Variant.ALIGNED (map (per g.V.Variant.ALIGNED l.«module» l.node) l.left) (length l.sink)
      ≡ l.fn.sink ++ counted_bits g.V.Variant.ALIGNED (map (per g.V.Variant.ALIGNED l.«module» l.node) l.values) (length l.fn.sink);
  fewer : count_all (roses_of l.left) ≤ count_all (roses_of l.values);
}

abbrev pub decreases-put_fragments-fragments : goal.decreases-put_fragments-fragments
decreases-put_fragments-fragments g l = l.count
