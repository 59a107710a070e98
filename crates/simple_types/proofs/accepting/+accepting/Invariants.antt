use Rattle.std.proofs.Common.{◌≡◌, ◌+◌, ◌*◌, ◌-◌, ◌^◌, ◌<◌, List, length, drop, min, IsUtf8}
use Rattle.base_trees.specs.Rose.{Rose}
use Rattle.base_flat_trees.specs.Zips.{added_all}
use Rattle.base_texts.specs.WhiteSpace.{words_of}
use Rattle.simple_types.specs.declared.labels.ValueLabel.{ValueLabel}
use Rattle.simple_types.specs.Space.{count_parts, count_all_parts}
use Rattle.simple_types.specs.Seen.{space_of, spaces_in}
use Rattle.simple_types.specs.Reading.{reads, read_each, taken_by, spelled_by, goes_on}
use Rattle.simple_types.proofs.Readings.{behind_values, shifted}
use Rattle.simple_types.proofs.accepting.+accepting.Given as goal

abbrev pub decreases-put_value : goal.decreases-put_value
decreases-put_value l = 6 * count_parts (space_of l.simple.now)

abbrev pub decreases-read : goal.decreases-read
decreases-read l = 6 * count_parts (space_of l.simple.now) + 1

abbrev pub decreases-put_list : goal.decreases-put_list
decreases-put_list l = 6 * count_parts (space_of l.item.now) + 2

abbrev pub decreases-put_each : goal.decreases-put_each
decreases-put_each l = 6 * count_parts (space_of l.item.now) + 1

abbrev pub decreases-put_union : goal.decreases-put_union
decreases-put_union l = 6 * count_all_parts (spaces_in l.members.now) + 5

abbrev pub decreases-settle : goal.decreases-settle
decreases-settle l = 6 * count_all_parts (spaces_in l.members.now) + 4

abbrev pub decreases-take_again : goal.decreases-take_again
decreases-take_again l = 6 * count_all_parts (spaces_in l.members.now) + 3

abbrev pub decreases-take : goal.decreases-take
decreases-take l = 6 * count_all_parts (spaces_in l.members.now) + 2

abbrev pub invariant-put_each-words : goal.invariant-put_each-words
invariant-put_each-words l = record {
  text : IsUtf8 l.rest;
  so_far : (read : List (Rose ValueLabel))
      × (read_each (reads (space_of l.item)) (words_of l.text) ≡ behind_values read (read_each (reads (space_of l.item)) (words_of l.rest)))
      × (l.count ≡ min (length read) (2 ^ 64 - 1))
      × (l.values ≡ added_all read l.fn.values);
}

abbrev pub decreases-put_each-words : goal.decreases-put_each-words
decreases-put_each-words l = length (words_of l.rest)

abbrev pub invariant-take-members : goal.invariant-take-members
invariant-take-members l =
    taken_by (spaces_in l.members) l.text ≡ shifted l.i (taken_by (spaces_in (drop l.i l.members)) l.text)

abbrev pub invariant-settle-turns : goal.invariant-settle-turns
invariant-settle-turns l = record {
  member : l.member < length l.members;
  so_far : goes_on (taken_by (spaces_in l.members)) (spelled_by (spaces_in l.members)) l.initial.turns (l.initial.member, l.initial.value)
      ≡ goes_on (taken_by (spaces_in l.members)) (spelled_by (spaces_in l.members)) l.turns (l.member, l.value);
}

abbrev pub decreases-settle-turns : goal.decreases-settle-turns
decreases-settle-turns l = l.turns
