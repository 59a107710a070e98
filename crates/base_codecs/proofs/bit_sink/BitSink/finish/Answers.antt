use Rattle.std.proofs.Common.{sym}
use Rattle.base_codecs.proofs.Writing.{padded}
use Rattle.base_codecs.proofs.bit_sink.BitSink.finish.Goals as goal

pub returns : goal.returns
returns c = padded c.self.inside.octets.items c.self.inside.used c.self.inside.part c.args.self _ c.self.invariant.0 (sym c.self.view_is) c.align.ensures.padding
