use Rattle.std.proofs.Common.{◌≡◌, ◌++◌, List, Option}
use Rattle.std.specs.Vec.Iter.{into_iter_items}
use Rattle.value_builder.specs.Built.{Puts, with_parts}
use Rattle.value_contents.specs.Made.{Child}
use Rattle.xer_read.specs.Private.Slots.{flags_of, values_of, AreSlots}
use Rattle.xer_read.proofs.gathering.put_slots.Given as goal

abbrev pub invariant-slots : goal.invariant-slots
invariant-slots l = record {
  all : l.yielded ++ into_iter_items l.slot-iterator ≡ into_iter_items l.initial.slot-iterator;
  puts : (us : List (Option Child)) → AreSlots l.yielded us → Puts (with_parts (flags_of us) (values_of us)) l.initial.values l.values;
}
