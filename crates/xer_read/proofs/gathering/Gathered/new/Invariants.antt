use Rattle.std.proofs.Common.{◌≡◌, ◌≤◌, ◌-◌, None, replicate, vec_len, length}
use Rattle.xer_read.proofs.gathering.Gathered.new.Given as goal

abbrev pub invariant-kids : goal.invariant-kids
invariant-kids l = record {
  many : length l.slots.items ≤ l.count;
  are : l.slots.items ≡ replicate (length l.slots.items) None;
}

abbrev pub decreases-kids : goal.decreases-kids
decreases-kids l = l.count - vec_len l.slots
