use Rattle.std.proofs.lemmas.Result.{err_from_is_err_and}
use Rattle.per_fields.specs.Fields.{length_here}
use Rattle.per_decode.specs.Private.Giving.{halt_of}
use Rattle.per_decode.proofs.Ends.{fails_first, sits-bits, sits-length_from}
use Rattle.per_decode.proofs.Standing.{stands_inside}
use Rattle.per_decode.proofs.run.Run.length_here.Goals as goal

pub returns-in_err-x-clause-gives : goal.returns-in_err-x-clause-gives
unfolding length_here
returns-in_err-x-clause-gives g c = λ told.
    let p = err_from_is_err_and c.from_residual.result c.from_residual.ensures.1 in
    let old = c.args.self.now in
    let i = stands_inside old.bits.position old.bits.taken old.bits.held old.bits.limit g.K.Origin.limit g.K.Origin.whole _ old.limited old.bits.behind old.bits.within (old.here told) in
    rw (p.1, p.2) (rw c.position-begin.ensures at (fails_first _ _ (halt_of c.in_err-x.field-0.0 c.take_bits.new.self.stop) c.take_bits.new.self.bits.taken _ _ _ (sits-bits c.position-begin.result 8 _ _ i).inside
    (λ x j. sits-length_from c.args.before c.position-begin.result x.0 _ x.1 j) (c.in_err-x.ensures.gives told)))
