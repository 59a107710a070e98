use Rattle.std.proofs.Common.{◌≡◌, ◌++◌, ◌+◌, ◌*◌, string_bytes}
use Rattle.std.specs.Prelude.{map}
use Rattle.std.specs.List.{join_with_byte}
use Rattle.simple_types.specs.Space.{count_parts, count_all_parts}
use Rattle.simple_types.specs.Seen.{space_of, spaces_in}
use Rattle.simple_types.specs.Reading.{spelled}
use Rattle.simple_types.proofs.Spellings.{behind}
use Rattle.simple_types.proofs.spelling.+spelling.Given as goal

abbrev pub decreases-write_spelling : goal.decreases-write_spelling
decreases-write_spelling l = 2 * count_parts (space_of l.simple.now)

abbrev pub decreases-write_items : goal.decreases-write_items
decreases-write_items l = 2 * count_parts (space_of l.item.now) + 1

abbrev pub decreases-write_chosen : goal.decreases-write_chosen
decreases-write_chosen l = 2 * count_all_parts (spaces_in l.members.now) + 1

abbrev pub invariant-write_items-items : goal.invariant-write_items-items
invariant-write_items-items l =
    string_bytes l.out ++ behind (map (spelled (space_of l.item)) l.value-iterator) ≡ string_bytes l.fn.out ++ join_with_byte 0x20 (map (spelled (space_of l.item)) l.values)
