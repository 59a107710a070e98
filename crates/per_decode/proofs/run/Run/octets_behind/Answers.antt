use Rattle.std.proofs.Common.{arith}
use Rattle.std.proofs.lemmas.Result.{err_from_is_err_and}
use Rattle.per_decode.specs.Private.Giving.{halt_of, input, spot}
use Rattle.per_decode.proofs.Forms.{shows_as}
use Rattle.per_decode.proofs.OfOctets.{units_fail, units_read}
use Rattle.per_decode.proofs.Standing.{stands_inside}
use Rattle.per_decode.proofs.run.Run.octets_behind.Goals as goal

pub returns-in-Last-clause-gives : goal.returns-in-Last-clause-gives
returns-in-Last-clause-gives g c = λ told. rw c.in-Last.is (c.take_octets.ensures.gives told)

pub returns-in_err-octets-in-Units-clause-gives : goal.returns-in_err-octets-in-Units-clause-gives
returns-in_err-octets-in-Units-clause-gives g c = λ told.
    let p = err_from_is_err_and c.from_residual.result c.from_residual.ensures.1 in
    let old = c.args.self.now in
    let i = stands_inside old.bits.position old.bits.taken old.bits.held old.bits.limit g.K.Origin.limit g.K.Origin.whole _ old.limited old.bits.behind old.bits.within (old.here told) in
    rw (p.1, p.2, c.in-Units.is) (units_fail g.V.Variant.ALIGNED c.in-Units.k (input g.K.Origin.limit g.K.Origin.whole) (spot old.bits.position old.nodes) g.K.Origin.limit g.K.Origin.whole (halt_of c.in_err-octets-in-Units.field-0.0 c.take_octets-in-Units.new.self.stop) c.take_octets-in-Units.new.self.bits.taken i (c.in_err-octets-in-Units.ensures.gives told))

pub returns-in_ok-octets-in-Units-clause-gives : goal.returns-in_ok-octets-in-Units-clause-gives
returns-in_ok-octets-in-Units-clause-gives g c = λ told.
    let old = c.args.self.now in
    let mid = c.take_octets-in-Units.new.self in
    rw c.in-Units.is (shows_as g.K.Origin.limit g.K.Origin.whole (λ octets. octets.items) c.more_octets.result _ _ _ _ _
    (units_read g.V.Variant.ALIGNED c.in-Units.k (input g.K.Origin.limit g.K.Origin.whole) (spot old.bits.position old.nodes) c.in_ok-octets-in-Units.octets.items (spot mid.bits.position mid.nodes) (c.in_ok-octets-in-Units.ensures.gives told) (omega (arith, c.in_ok-octets-in-Units.ensures.count))) (c.more_octets.ensures.gives told))
