use Rattle.std.proofs.lemmas.Result.{err_from_is_err_and}
use Rattle.per_fields.specs.Fields.{signed_at}
use Rattle.per_decode.specs.Private.Giving.{halt_of}
use Rattle.per_decode.proofs.Ends.{fails_first, sits-octet_count, sits-signed_octets}
use Rattle.per_decode.proofs.Standing.{stands_inside}
use Rattle.per_decode.proofs.run.Run.signed.Goals as goal

pub returns-in_err-more-clause-gives : goal.returns-in_err-more-clause-gives
unfolding signed_at
returns-in_err-more-clause-gives g c = λ told.
    let p = err_from_is_err_and c.from_residual.result c.from_residual.ensures.1 in
    let old = c.args.self.now in
    let i = stands_inside old.bits.position old.bits.taken old.bits.held old.bits.limit g.K.Origin.limit g.K.Origin.whole _ old.limited old.bits.behind old.bits.within (old.here told) in
    rw (p.1, p.2) (fails_first _ _ (halt_of c.in_err-more.field-0.0 c.octet_count.new.self.stop) c.octet_count.new.self.bits.taken _ _ _ (sits-octet_count g.V.Variant.ALIGNED _ _ i).inside (λ x j. sits-signed_octets c.args.hi x.0 _ x.1 j) (c.in_err-more.ensures.gives told))
