use Rattle.std.proofs.Common.{arith, ◌≡◌, ◌<◌, ◌-◌, ◌*◌, ◌^◌, refl, ap, ◌∙◌, subst, Result, Ok, Err}
use Rattle.base_codecs.specs.declared.fetch.CursorError.{CursorError}
use Rattle.base_codecs.specs.Bits.{gap}
use Rattle.per_decode.proofs.Standing.{padding_ok, padding_err, at_align, padding_held}
use Rattle.per_decode.proofs.run.Run.align.Goals as goal

pub returns-in-Ok-clause-gives : goal.returns-in-Ok-clause-gives
returns-in-Ok-clause-gives g c = λ told.
    let old = c.args.self.now in
    let w : 8 * old.bits.taken - old.bits.position ≡ gap old.bits.position = omega (arith, c.requires.in_step) in
    let r : Result (Unit {0}) CursorError = Ok c.in-Ok.field-0 in
    let z = padding_held r (gap old.bits.position) old.bits.held (subst (λ n. old.bits.held < 2 ^ n) w old.bits.fits) c.in-Ok.ensures.padding in
    padding_ok 0 0 old.bits.position old.bits.taken old.bits.held old.bits.limit old.nodes g.K.Origin.limit g.K.Origin.whole _ old.limited c.requires.in_step old.bits.behind old.bits.within (old.here told) c.align.new.self.position z.0 c.in-Ok.ensures.moved.0

pub returns-in-Err-clause-gives : goal.returns-in-Err-clause-gives
returns-in-Err-clause-gives g c = λ told.
    let old = c.args.self.now in
    let w : 8 * old.bits.taken - old.bits.position ≡ gap old.bits.position = omega (arith, c.requires.in_step) in
    let r : Result (Unit {0}) CursorError = Err c.in-Err.field-0 in
    let z = padding_held r (gap old.bits.position) old.bits.held (subst (λ n. old.bits.held < 2 ^ n) w old.bits.fits) c.in-Err.ensures.padding in
    rw (c.stopped.ensures.fault, c.stopped.ensures.stop, c.position-begin.ensures, c.align.ensures.rest.1) (padding_err 0 0 old.bits.position old.bits.taken old.bits.held old.bits.limit old.nodes g.K.Origin.limit g.K.Origin.whole _ old.limited c.requires.in_step old.bits.behind old.bits.within (old.here told) z.1 old.bits.fits, omega (arith, c.requires.in_step), refl)

pub invariant_of-self : goal.invariant_of-self
invariant_of-self g c =
    let e = c.align.ensures in
    let old = c.args.self.now in
    let new = c.align.new.self in
    let w : 8 * old.bits.taken - old.bits.position ≡ gap old.bits.position = omega (arith, c.requires.in_step) in
    let h = padding_held c.align.result (gap old.bits.position) old.bits.held (subst (λ n. old.bits.held < 2 ^ n) w old.bits.fits) e.padding in
    record {
      limited = e.rest.0 ∙ old.limited;
      few = old.few;
      later = rw e.source old.later;
      here = λ told. at_align 0 0 old.bits.position old.bits.taken old.bits.held old.bits.limit old.nodes g.K.Origin.limit g.K.Origin.whole _ old.limited c.requires.in_step old.bits.behind old.bits.within (old.here told) c.align.result new.position new.taken new.held (g.S.Source.left new.source.now) e.rest.1 (ap g.S.Source.left e.source) h.0 e.moved e.stays;
    }
