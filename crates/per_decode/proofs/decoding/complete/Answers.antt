use Rattle.std.proofs.Common.{arith}
use Rattle.std.proofs.lemmas.Result.{err_from_is_err_and}
use Rattle.per_fields.specs.Nodes.{last_at}
use Rattle.per_decode.specs.Private.Giving.{halt_of}
use Rattle.per_decode.proofs.Ends.{fails_first, sits_then}
use Rattle.per_decode.proofs.EndNodes.{sits-node, sits-last}
use Rattle.per_decode.proofs.Standing.{stands_inside}
use Rattle.per_decode.proofs.decoding.complete.Goals as goal

pub returns-in_err-node-clause-gives : goal.returns-in_err-node-clause-gives
returns-in_err-node-clause-gives g c = λ told.
    let p = err_from_is_err_and c.from_residual.result c.from_residual.ensures.1 in
    let old = c.args.run.now in
    let i = stands_inside old.bits.position old.bits.taken old.bits.held old.bits.limit g.K.Origin.limit g.K.Origin.whole _ old.limited old.bits.behind old.bits.within (old.here told) in
    rw (p.1, p.2) (fails_first _ _ (halt_of c.in_err-node.field-0.0 c.node.new.self.stop) c.node.new.self.bits.taken _ _ _ (sits-node g.V.Variant.ALIGNED c.args.module.now 1 c.args.body.now _ _ i).inside
    (λ v j. sits_then _ v.1.at (last_at _ v.1) _ (sits-last _ v.1 j) (λ z k. record { later = omega arith; inside = k })) (c.in_err-node.ensures.gives told))

pub returns-in_err-last-clause-gives : goal.returns-in_err-last-clause-gives
returns-in_err-last-clause-gives g c = λ told.
    let p = err_from_is_err_and c.from_residual-in_err-last.result c.from_residual-in_err-last.ensures.1 in
    let old = c.node.new.self in
    let i = stands_inside old.bits.position old.bits.taken old.bits.held old.bits.limit g.K.Origin.limit g.K.Origin.whole _ old.limited old.bits.behind old.bits.within (old.here told) in
    rw (p.1, p.2) (rw (c.in_ok-node.ensures.gives told) (fails_first _ _ (halt_of c.in_err-last.field-0.0 c.last.new.run.stop) c.last.new.run.bits.taken _ _ _ (sits-last _ _ i).inside
    (λ z k. record { later = omega arith; inside = k }) (c.in_err-last.ensures.gives told)))
