use Rattle.std.proofs.Common.{◌≡◌, ◌++◌, ◌+◌, ◌*◌, string_bytes}
use Rattle.std.specs.Prelude.{map}
use Rattle.base_trees.specs.Rose.{node_count, count_all, roses_of}
use Rattle.simple_types.specs.Reading.{spelled}
use Rattle.simple_types.proofs.Spellings.{behind}
use Rattle.asn_types.specs.Spaces.{space_at}
use Rattle.asn_values.proofs.spellings.+spelling.Given as goal

abbrev pub decreases-write_spelling : goal.decreases-write_spelling
decreases-write_spelling l = 2 * node_count l.node.now

abbrev pub decreases-write_items : goal.decreases-write_items
decreases-write_items l = 2 * node_count l.item.now + 1

abbrev pub decreases-write_chosen : goal.decreases-write_chosen
decreases-write_chosen l = 2 * count_all (roses_of l.members.now) + 1

abbrev pub invariant-write_items-items : goal.invariant-write_items-items
invariant-write_items-items l =
    string_bytes l.out ++ behind (map (spelled (space_at l.item)) l.value-iterator) ≡ string_bytes l.initial.out ++ behind (map (spelled (space_at l.item)) l.initial.value-iterator)
