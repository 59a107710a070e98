use Rattle.std.proofs.Common.{◌≡◌, ◌<◌, ◌^◌, ◌++◌, length, take, drop}
use Rattle.base_codecs.specs.Bits.{bits, octet_bits}
use Rattle.base_codecs.proofs.gather.carry.Given as goal

abbrev pub invariant-octets : goal.invariant-octets
invariant-octets l = record {
  below : l.left < 2 ^ l.unread;
  long : length l.octets ≡ length l.fn.octets;
  rest : drop l.i l.octets ≡ drop l.i l.fn.octets;
  same : octet_bits (take l.i l.octets) ++ bits l.unread l.left ≡ bits l.unread l.held ++ octet_bits (take l.i l.fn.octets);
}
