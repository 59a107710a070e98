use Rattle.std.proofs.Common.{ap, ◌++◌}
use Rattle.base_codecs.specs.Bits.{bits, octet_bits}
use Rattle.base_codecs.proofs.bit_sink.BitSink.new.Goals as goal

pub returns : goal.returns
unfolding bits
returns c = ap (λ l. octet_bits l ++ bits 0 0) c.new.ensures.items
