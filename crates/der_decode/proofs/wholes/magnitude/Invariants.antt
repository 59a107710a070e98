use Rattle.std.proofs.Common.{◌≡◌, ◌+◌, ◌*◌, ◌<◌, ◌^◌, drop}
use Rattle.der_fields.specs.Octets.{value_from}
use Rattle.der_decode.specs.Private.Signs.{turned}
use Rattle.der_decode.proofs.wholes.magnitude.Given as goal

abbrev pub invariant-octets : goal.invariant-octets
invariant-octets l = record {
  rest : value_from l.number (turned l.negative (drop l.octet-index l.others)) ≡ value_from l.first (turned l.negative l.others);
  below : l.number < 2 ^ (8 * l.octet-index + 7);
}
