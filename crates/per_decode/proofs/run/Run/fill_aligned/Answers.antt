use Rattle.std.proofs.Common.{arith, ap, Err, ◌∙◌, length}
use Rattle.per_decode.proofs.Octets.{taken_octets, failed_octets, short_octets, long_octets, at_behind}
use Rattle.per_decode.proofs.Inside.{fails_inside}
use Rattle.per_decode.proofs.run.Run.fill_aligned.Goals as goal

pub returns-in-Ok-clause-gives : goal.returns-in-Ok-clause-gives
returns-in-Ok-clause-gives g c = λ told.
    let old = c.args.self.now in
    let new = c.fill_octets.new.self in
    let e = c.fill_octets.ensures in
    taken_octets (length c.args.octets.now) old.bits.position old.bits.taken old.bits.held old.bits.limit old.nodes g.K.Origin.limit g.K.Origin.whole _ old.limited c.requires.in_step old.bits.behind c.requires.aligned old.bits.within (old.here told)
    c.fill_octets.new.octets new.position new.taken new.limit _ e.limit new.within c.in-Ok.ensures.moved.0 c.in-Ok.ensures.moved.1 c.fill_octets.auto.octets c.see_octets.ensures old.few c.in-Ok.ensures.octets e.took

pub returns-in-Err-clause-gives : goal.returns-in-Err-clause-gives
returns-in-Err-clause-gives g c = λ told.
    let old = c.args.self.now in
    let new = c.fill_octets.new.self in
    let e = c.fill_octets.ensures in
    let missing = c.in-Err.ensures.missing in
    fails_inside g.K.Origin.limit g.K.Origin.whole new.taken _ _ _ _ _ (rw c.position-begin.ensures at c.ended_inside.ensures.fault)
    (λ is. failed_octets (length c.args.octets.now) old.bits.position old.bits.taken old.bits.held old.bits.limit old.nodes g.K.Origin.limit g.K.Origin.whole _ old.limited c.requires.in_step old.bits.behind old.bits.within (old.here told) new.taken new.limit _ e.limit e.most.0 new.within e.took missing)
    (λ is. let s = c.in-Err.ensures.short (ap (λ x. Err x) is) in short_octets (length c.args.octets.now) old.bits.position old.bits.taken old.bits.held old.bits.limit old.nodes g.K.Origin.limit g.K.Origin.whole _ old.limited c.requires.in_step old.bits.behind old.bits.within (old.here told) new.taken _ e.most.0 e.took missing s.0 s.1)
    (λ is. long_octets (length c.args.octets.now) old.bits.position old.bits.taken old.bits.held old.bits.limit old.nodes g.K.Origin.limit g.K.Origin.whole _ old.limited c.requires.in_step old.bits.behind old.bits.within (old.here told) new.taken _ e.most.0 e.took missing (c.in-Err.ensures.too_long (ap (λ x. Err x) is)))

pub invariant_of-self : goal.invariant_of-self
invariant_of-self g c =
    let e = c.fill_octets.ensures in
    let old = c.args.self.now in
    let new = c.fill_octets.new.self in
    record {
      limited = e.limit ∙ old.limited;
      few = old.few;
      later = omega (arith, e.cause.later, old.later);
      here = λ told. at_behind (length c.args.octets.now) old.bits.position old.bits.taken old.bits.held old.bits.limit old.nodes g.K.Origin.limit g.K.Origin.whole _ old.limited c.requires.in_step old.bits.behind c.requires.aligned old.bits.within (old.here told) c.fill_octets.result new.position new.taken new.held new.limit (g.S.Source.left new.source.now) e.limit e.most.0 new.within e.held e.moved e.stays e.took;
    }
