use Rattle.std.proofs.Common.{◌≡◌, ◌≤◌, drop}
use Rattle.std.specs.Prelude.{min}
use Rattle.xml_pieces.specs.Pieces.{number}
use Rattle.xml_pieces.proofs.reference.number.Given as goal

abbrev pub invariant-loop-digit : goal.invariant-loop-digit
invariant-loop-digit l = record {
  small : l.number ≤ 0x110000;
  so_far : min (number l.base l.number (drop l.digit-index l.digits)) 0x110000 ≡ min (number l.base 0 l.digits) 0x110000;
}
