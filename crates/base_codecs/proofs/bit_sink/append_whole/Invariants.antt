use Rattle.std.proofs.Common.{◌≡◌, ◌≤◌, ◌+◌, ◌/◌, ◌%◌, ◌++◌, vec_len, vec_capacity}
use Rattle.base_codecs.specs.Bits.{bits, octet_bits}
use Rattle.base_codecs.proofs.bit_sink.append_whole.Given as goal

abbrev pub invariant-octets : goal.invariant-octets
invariant-octets l = record {
  long : vec_len l.octets + l.left / 8 ≡ vec_len l.fn.octets + l.width / 8;
  bytes : l.left % 8 ≡ l.width % 8;
  few : l.left ≤ l.width;
  room : vec_capacity l.octets ≡ vec_capacity l.fn.octets;
  same : octet_bits l.octets.items ++ bits l.left l.number ≡ octet_bits l.fn.octets.items ++ bits l.width l.number;
}

abbrev pub decreases-octets : goal.decreases-octets
decreases-octets l = l.left
