use Rattle.std.proofs.Common.{arith, ap, Err, ◌∙◌}
use Rattle.per_decode.proofs.Standing.{taken_bits, failed_bits, short_bits, long_bits, at_after}
use Rattle.per_decode.proofs.Inside.{fails_inside}
use Rattle.per_decode.proofs.run.Run.take_bits.Goals as goal

pub returns-in-Ok-clause-gives : goal.returns-in-Ok-clause-gives
returns-in-Ok-clause-gives g c = λ told.
    let old = c.args.self.now in
    let new = c.take_bits.new.self in
    taken_bits c.args.begin c.args.n old.bits.position old.bits.taken old.bits.held old.bits.limit old.nodes g.K.Origin.limit g.K.Origin.whole _ old.limited c.requires.in_step old.bits.behind old.bits.within (old.here told)
    c.in-Ok.x new.position new.taken new.held new.limit c.in-Ok.ensures.moved.0 c.in-Ok.ensures.below c.in-Ok.ensures.bits

pub returns-in-Err-clause-gives : goal.returns-in-Err-clause-gives
returns-in-Err-clause-gives g c = λ told.
    let old = c.args.self.now in
    let new = c.take_bits.new.self in
    let e = c.take_bits.ensures in
    let missing = c.in-Err.ensures.missing in
    fails_inside g.K.Origin.limit g.K.Origin.whole new.taken _ _ _ _ _ c.ended_inside.ensures.fault
    (λ is. failed_bits c.args.begin c.args.n old.bits.position old.bits.taken old.bits.held old.bits.limit old.nodes g.K.Origin.limit g.K.Origin.whole _ old.limited c.requires.in_step old.bits.behind old.bits.within (old.here told) new.taken new.limit _ e.limit e.most.0 new.within e.took missing)
    (λ is. let s = c.in-Err.ensures.short (ap (λ x. Err x) is) in short_bits c.args.begin c.args.n old.bits.position old.bits.taken old.bits.held old.bits.limit old.nodes g.K.Origin.limit g.K.Origin.whole _ old.limited c.requires.in_step old.bits.behind old.bits.within (old.here told) new.taken _ e.most.0 e.took missing s.0 s.1)
    (λ is. long_bits c.args.begin c.args.n old.bits.position old.bits.taken old.bits.held old.bits.limit old.nodes g.K.Origin.limit g.K.Origin.whole _ old.limited c.requires.in_step old.bits.behind old.bits.within (old.here told) new.taken _ e.most.0 e.took missing (c.in-Err.ensures.too_long (ap (λ x. Err x) is)))

pub invariant_of-self : goal.invariant_of-self
invariant_of-self g c =
    let e = c.take_bits.ensures in
    let old = c.args.self.now in
    let new = c.take_bits.new.self in
    record {
      limited = e.limit ∙ old.limited;
      few = old.few;
      later = omega (arith, e.cause.later, old.later);
      here = λ told. at_after c.take_bits.result g.K.Origin.whole g.K.Origin.limit c.args.n old.bits.position new.position old.bits.taken new.taken old.bits.held new.held old.bits.limit new.limit
          (g.S.Source.left old.bits.source.now) (g.S.Source.left new.source.now) old.limited e.limit c.requires.in_step e.most.0 old.bits.behind e.moved e.stays e.bits e.took (old.here told);
    }
