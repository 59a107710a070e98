use Rattle.std.proofs.Common.{sym}
use Rattle.base_codecs.proofs.Writing.{adds_octets}
use Rattle.base_codecs.proofs.bit_sink.BitSink.put_octets.Goals as goal

pub returns-then-self-eq0-clause-ok : goal.returns-then-self-eq0-clause-ok
returns-then-self-eq0-clause-ok c =
    let s = c.self.inside in
    adds_octets s.octets.items c.extend_from_slice.new.self.items c.args.octets.now s.used s.part c.args.self.now c.if-self-eq0.true (sym c.self.view_is) c.in_ok-extend_from_slice.ensures.items
