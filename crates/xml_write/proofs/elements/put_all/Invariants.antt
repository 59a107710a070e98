use Rattle.std.proofs.Common.{◌≡◌, ◌+◌, ◌++◌, length, vec_len}
use Rattle.std.specs.Vec.{vec_capacity}
use Rattle.xml_write.proofs.elements.put_all.Given as goal

-- what is appended so far, and what is left
abbrev pub invariant-fours : goal.invariant-fours
invariant-fours l = record {
  items : l.out.items ++ l.rest ≡ l.initial.out.items ++ l.bytes;
  len : vec_len l.out + length l.rest ≡ vec_len l.initial.out + length l.bytes;
  capacity : vec_capacity l.out ≡ vec_capacity l.initial.out;
}

abbrev pub decreases-fours : goal.decreases-fours
decreases-fours l = length l.rest
