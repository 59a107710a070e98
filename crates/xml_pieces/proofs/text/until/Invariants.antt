use Rattle.std.proofs.Common.{◌≡◌, ◌-◌, ◌≤◌, length, take, drop}
use Rattle.xml_pieces.specs.Reading.{until}
use Rattle.xml_pieces.proofs.Cutting.{with_before}
use Rattle.xml_pieces.proofs.text.until.Given as goal

abbrev pub invariant-places : goal.invariant-places
invariant-places l = record {
  within : l.at ≤ length l.bytes;
  so_far : with_before (take l.at l.bytes) (until l.mark (drop l.at l.bytes)) ≡ until l.mark l.bytes;
}

abbrev pub decreases-places : goal.decreases-places
decreases-places l = length l.bytes - l.at
