use Rattle.std.proofs.lemmas.Result.{err_from_is_err_and}
use Rattle.per_fields.specs.Fields.{octet_count_at}
use Rattle.per_decode.specs.Private.Giving.{halt_of}
use Rattle.per_decode.proofs.Ends.{fails_first, sits-skip, sits-octet_count_here}
use Rattle.per_decode.proofs.Standing.{stands_inside}
use Rattle.per_decode.proofs.run.Run.octet_count.Goals as goal

pub returns-in_err-skip-clause-gives : goal.returns-in_err-skip-clause-gives
unfolding octet_count_at
returns-in_err-skip-clause-gives g c = λ told.
    let p = err_from_is_err_and c.from_residual.result c.from_residual.ensures.1 in
    let old = c.args.self.now in
    let i = stands_inside old.bits.position old.bits.taken old.bits.held old.bits.limit g.K.Origin.limit g.K.Origin.whole _ old.limited old.bits.behind old.bits.within (old.here told) in
    rw (p.1, p.2) (fails_first _ _ (halt_of c.in_err-skip.field-0.0 c.skip.new.self.stop) c.skip.new.self.bits.taken _ _ _ (sits-skip g.V.Variant.ALIGNED _ _ i).inside (λ x j. sits-octet_count_here _ x.1 j) (c.in_err-skip.ensures.gives told))
