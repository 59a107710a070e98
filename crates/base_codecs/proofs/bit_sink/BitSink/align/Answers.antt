use Rattle.std.proofs.Common.{arith, refl}
use Rattle.base_codecs.proofs.Writing.{closed, no_padding, length-view}
use Rattle.base_codecs.proofs.bit_sink.BitSink.align.Goals as goal

pub returns-then-self-gt0-clause-padding : goal.returns-then-self-gt0-clause-padding
returns-then-self-gt0-clause-padding c =
    let s = c.self.inside in
    closed s.octets.items c.push_reserved.new.self.items s.used s.part _ c.args.self.now c.if-self-gt0.true c.self.invariant.0 c.self.invariant.1 refl c.self.view_is c.push_reserved.ensures.items

pub returns-else-self-gt0-clause-padding : goal.returns-else-self-gt0-clause-padding
returns-else-self-gt0-clause-padding c =
    let s = c.self.inside in
    no_padding c.args.self.now (rw (← c.self.view_is) (omega (arith, length-view s.octets.items s.used s.part)))
