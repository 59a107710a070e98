use Rattle.std.proofs.Common.{◌≡◌, ◌+◌, ◌-◌, ◌*◌, ◌^◌, ◌≤◌, length, drop, min}
use Rattle.std.specs.Prelude.{map, replicate}
use Rattle.base_trees.specs.Rose.{node_count, count_all, roses_of}
use Rattle.asn_values.specs.Private.Placing.{place_seen}
use Rattle.asn_values.specs.Values.{count_in}
use Rattle.asn_values.proofs.rules.+counting.Given as goal

abbrev pub decreases-child_count : goal.decreases-child_count
decreases-child_count l = 3 * node_count l.value.now

abbrev pub decreases-count_at : goal.decreases-count_at
decreases-count_at l = 3 * node_count l.value.now + 1

abbrev pub decreases-count_each : goal.decreases-count_each
decreases-count_each l = 3 * count_all (roses_of l.values.now) + 2

abbrev pub decreases-count_all : goal.decreases-count_all
decreases-count_all l = 3 * count_all (roses_of l.values.now) + 2

abbrev pub invariant-count_each-places : goal.invariant-count_each-places
invariant-count_each-places l = record {
  fits : l.count ≤ 2 ^ 64 - 1;
  so_far : min (count_in l.«module» (map place_seen l.places) (roses_of l.values)) (2 ^ 64 - 1)
      ≡ min (l.count + count_in l.«module» (map place_seen (drop l.place-index l.places)) (roses_of l.left)) (2 ^ 64 - 1);
  fewer : count_all (roses_of l.left) ≤ count_all (roses_of l.values);
}

abbrev pub invariant-count_all-values : goal.invariant-count_all-values
invariant-count_all-values l = record {
  fits : l.count ≤ 2 ^ 64 - 1;
  so_far : min (count_in l.«module» (replicate (length l.values) (place_seen l.place)) (roses_of l.values)) (2 ^ 64 - 1)
      ≡ min (l.count + count_in l.«module» (replicate (length l.value-iterator) (place_seen l.place)) (roses_of l.value-iterator)) (2 ^ 64 - 1);
  fewer : count_all (roses_of l.value-iterator) ≤ count_all (roses_of l.values);
}
