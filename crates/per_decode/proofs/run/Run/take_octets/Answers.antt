use Rattle.std.proofs.Common.{arith}
use Rattle.std.proofs.lemmas.Result.{err_from_is_err_and}
use Rattle.per_decode.specs.Private.Giving.{input, spot}
use Rattle.per_decode.proofs.Ends.{sits-octets}
use Rattle.per_decode.proofs.Standing.{stands_inside}
use Rattle.per_decode.proofs.run.Run.take_octets.Goals as goal

pub returns-in_err-octets-clause-gives : goal.returns-in_err-octets-clause-gives
returns-in_err-octets-clause-gives g c = λ told.
    let p = err_from_is_err_and c.from_residual.result c.from_residual.ensures.1 in
    let old = c.args.self.now in
    let i = stands_inside old.bits.position old.bits.taken old.bits.held old.bits.limit g.K.Origin.limit g.K.Origin.whole _ old.limited old.bits.behind old.bits.within (old.here told) in
    let k = sits-octets c.args.n (input g.K.Origin.limit g.K.Origin.whole) (spot old.bits.position old.nodes) i in
    rw (p.1, p.2) (omega (arith, k.later, c.requires.in_step))
