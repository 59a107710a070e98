use Rattle.std.proofs.Common.{arith, ◌<◌, ◌^◌}
use Rattle.std.proofs.lemmas.Result.{err_from_is_err_and}
use Rattle.per_fields.specs.Fields.{large_at}
use Rattle.per_fields.proofs.WidthLaws.{width_le}
use Rattle.per_decode.specs.Private.Giving.{halt_of}
use Rattle.per_decode.proofs.Ends.{fails_first, sits_then, sits-align, sits-within, sits-large_octets}
use Rattle.per_decode.proofs.Standing.{stands_inside}
use Rattle.per_decode.proofs.run.Run.large.Goals as goal

pub within-requires-clause-few : goal.within-requires-clause-few
within-requires-clause-few g c = let few : c.more_of-most.result < 2 ^ 4 = omega arith in omega (arith, c.width_of.ensures.same, width_le c.more_of-most.result 4 few)

pub returns-in_err-more-clause-gives : goal.returns-in_err-more-clause-gives
unfolding large_at
returns-in_err-more-clause-gives g c = λ told.
    let p = err_from_is_err_and c.from_residual.result c.from_residual.ensures.1 in
    let old = c.args.self.now in
    let i = stands_inside old.bits.position old.bits.taken old.bits.held old.bits.limit g.K.Origin.limit g.K.Origin.whole _ old.limited old.bits.behind old.bits.within (old.here told) in
    rw (p.1, p.2) (rw (c.width_of.ensures.same, c.more_of-most.ensures.same) at (fails_first _ _ (halt_of c.in_err-more.field-0.0 c.within.new.self.stop) c.within.new.self.bits.taken _ _ _ (sits-within _ _ _ _ i).inside
    (λ x j. sits_then _ x.1.at _ _ (sits-align _ x.1 j) (λ y k. sits-large_octets c.args.top x.0 _ y.1 k)) (c.in_err-more.ensures.gives told)))

pub returns-in_err-align-clause-gives : goal.returns-in_err-align-clause-gives
unfolding large_at
returns-in_err-align-clause-gives g c = λ told.
    let p = err_from_is_err_and c.from_residual-in_err-align.result c.from_residual-in_err-align.ensures.1 in
    let old = c.within.new.self in
    let i = stands_inside old.bits.position old.bits.taken old.bits.held old.bits.limit g.K.Origin.limit g.K.Origin.whole _ old.limited old.bits.behind old.bits.within (old.here told) in
    rw (p.1, p.2) (rw (rw (c.width_of.ensures.same, c.more_of-most.ensures.same) at (c.in_ok-more.ensures.gives told))
    (fails_first _ _ (halt_of c.in_err-align.field-0.0 c.align.new.self.stop) c.align.new.self.bits.taken _ _ _ (sits-align _ _ i).inside (λ x j. sits-large_octets c.args.top c.in_ok-more.field-0 _ x.1 j) (c.in_err-align.ensures.gives told)))
