use Rattle.std.proofs.Common.{◌≡◌, ◌≤◌, ◌-◌, ◌++◌, drop}
use Rattle.std.specs.List.{range_with_len}
use Rattle.asn_values.specs.Ordering.{slots}
use Rattle.xer_write.proofs.ordering.slots.Given as goal

abbrev pub invariant-flags : goal.invariant-flags
invariant-flags l = record {
  within : l.next ≤ l.end;
  rest : l.all.items ++ slots (drop l.flag-index l.flags) (range_with_len l.next (l.end - l.next)) ≡ slots l.flags (range_with_len l.from (l.end - l.from));
}
