use Rattle.std.proofs.Common.{◌≡◌, ◌<◌, ◌+◌, ◌*◌, ◌^◌, ◌++◌, take}
use Rattle.base_codecs.specs.Bits.{bits, octet_bits}
use Rattle.base_codecs.proofs.gather.gather.Given as goal

abbrev pub invariant-loop-octet : goal.invariant-loop-octet
invariant-loop-octet l = record {
  below : l.all < 2 ^ (l.unread + 8 * l.octet-index);
  same : bits (l.unread + 8 * l.octet-index) l.all ≡ bits l.unread l.held ++ octet_bits (take l.octet-index l.buf);
}
