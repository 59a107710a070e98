use Rattle.std.proofs.Common.{◌≡◌, ◌<◌, ◌≤◌, ◌+◌, ◌^◌, ◌++◌, take, vec_len, vec_capacity}
use Rattle.base_codecs.specs.Bits.{bits, octet_bits}
use Rattle.base_codecs.proofs.bit_sink.append_across.Given as goal

abbrev pub invariant-octets : goal.invariant-octets
invariant-octets l = record {
  below : l.left < 2 ^ l.used;
  long : vec_len l.octets ≡ vec_len l.fn.octets + l.i;
  room : vec_capacity l.fn.octets ≤ vec_capacity l.octets;
  same : octet_bits l.octets.items ++ bits l.used l.left ≡ (octet_bits l.fn.octets.items ++ bits l.used l.part) ++ octet_bits (take l.i l.more);
}
