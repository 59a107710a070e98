use Rattle.std.proofs.Common.{◌≡◌, ◌-◌, ◌≤◌, length, take}
use Rattle.xml_read.proofs.past.past_tag.Given as goal

abbrev pub invariant-bytes : goal.invariant-bytes
invariant-bytes l = record {
  within : l.at ≤ length l.name;
  same : take l.at l.bytes ≡ take l.at l.name;
}

abbrev pub decreases-bytes : goal.decreases-bytes
decreases-bytes l = length l.name - l.at
