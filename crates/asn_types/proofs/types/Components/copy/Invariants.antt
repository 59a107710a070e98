use Rattle.std.proofs.Common.{◌≡◌, take, length, vec_len, vec_capacity}
use Rattle.asn_types.proofs.types.Components.copy.Given as goal

abbrev pub invariant-components : goal.invariant-components
invariant-components l = record {
  items : l.copies.items ≡ take l.component-index l.entries;
  filled : vec_len l.copies ≡ l.component-index;
  room : vec_capacity l.copies ≡ length l.entries;
}
