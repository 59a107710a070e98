use Rattle.std.proofs.Common.{◌≡◌, take, length, vec_len, vec_capacity}
use Rattle.asn_types.proofs.marks.Marks.copy.Given as goal

abbrev pub invariant-marks : goal.invariant-marks
invariant-marks l = record {
  items : l.copies.items ≡ take l.mark-index l.entries;
  filled : vec_len l.copies ≡ l.mark-index;
  room : vec_capacity l.copies ≡ length l.entries;
}
