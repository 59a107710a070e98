use Rattle.std.proofs.Common.{arith, sym, ◌∙◌, subst}
use Rattle.std.proofs.lemmas.List.{drop_all}
use Rattle.std.proofs.lemmas.Result.{err_from_is_err_and}
use Rattle.per_fields.specs.Nodes.{flag_at}
use Rattle.per_decode.specs.Private.Giving.{halt_of, memory, input, spot, FailsAt}
use Rattle.per_decode.proofs.EndNodes.{sits-flag}
use Rattle.per_decode.proofs.Loop.{here_split, each_more, each_done, each_fails, each_full}
use Rattle.per_decode.proofs.Presence.{present_more, present_all}
use Rattle.per_decode.proofs.Standing.{stands_inside}
use Rattle.per_decode.proofs.run.Run.presence.Goals as goal

pub returns-in_err-there-clause-gives : goal.returns-in_err-there-clause-gives
returns-in_err-there-clause-gives g c = λ told.
    let p = err_from_is_err_and c.from_residual.result c.from_residual.ensures.1 in
    let X = input g.K.Origin.limit g.K.Origin.whole in
    let run = c.parts.self in
    let i = stands_inside run.bits.position run.bits.taken run.bits.held run.bits.limit g.K.Origin.limit g.K.Origin.whole _ run.limited run.bits.behind run.bits.within (run.here told) in
    let k = each_fails flag_at c.parts.present X (spot run.bits.position run.nodes) c.part-item.result _ _ (here_split c.args.parts.now c.parts.part-index c.part-item.result c.parts-test.true c.part-item.is)
    sits-flag g.K.Origin.limit g.K.Origin.whole (halt_of c.in_err-there.field-0.0 c.presence_bit.new.self.stop) c.presence_bit.new.self.bits.taken i (c.in_err-there.ensures.gives told) in
    rw (p.1, p.2) (subst (FailsAt g.K.Origin.limit g.K.Origin.whole (halt_of c.in_err-there.field-0.0 c.presence_bit.new.self.stop) c.presence_bit.new.self.bits.taken) (c.parts.invariant.so_far told) k)

pub returns-in_err-push-clause-gives : goal.returns-in_err-push-clause-gives
returns-in_err-push-clause-gives g c = λ told.
    let p = err_from_is_err_and c.from_residual-in_err-push.result c.from_residual-in_err-push.ensures.1 in
    let X = input g.K.Origin.limit g.K.Origin.whole in
    let old = c.parts.self in
    let run = c.presence_bit.new.self in
    let i = stands_inside run.bits.position run.bits.taken run.bits.held run.bits.limit g.K.Origin.limit g.K.Origin.whole _ run.limited run.bits.behind run.bits.within (run.here told) in
    let k = each_full flag_at c.parts.present X (spot old.bits.position old.nodes) c.part-item.result _ _ (here_split c.args.parts.now c.parts.part-index c.part-item.result c.parts-test.true c.part-item.is)
    sits-flag g.K.Origin.limit g.K.Origin.whole c.in_ok-there.there (spot run.bits.position run.nodes) run.bits.taken (c.in_ok-there.ensures.gives told) i (omega (arith, c.in_ok-there.ensures.reads.on.1)) in
    rw (p.1, p.2) (subst (FailsAt g.K.Origin.limit g.K.Origin.whole memory run.bits.taken) (c.parts.invariant.so_far told) k)

pub parts-preserved : goal.parts-preserved
parts-preserved g c =
    let old = c.parts.self in
    let run = c.presence_bit.new.self in
    record {
      in_step = c.in_ok-there.ensures.reads.on.1;
      on = omega (arith, c.in_ok-there.ensures.reads.on.0, c.parts.invariant.on);
      nodes = c.presence_bit.ensures.nodes ∙ c.parts.invariant.nodes;
      same = c.presence_bit.ensures.reads.same_reference ∙ c.parts.invariant.same;
      present = rw c.in_ok-push.ensures (present_more c.args.parts.now c.parts.part-index c.parts.present c.part-item.result c.in_ok-there.there c.parts-test.true c.part-item.is c.parts.invariant.present c.in_ok-there.ensures.there);
      so_far = λ told. rw c.in_ok-push.ensures (
          sym (each_more flag_at c.parts.present (input g.K.Origin.limit g.K.Origin.whole) (spot old.bits.position old.nodes) c.part-item.result _ _ (here_split c.args.parts.now c.parts.part-index c.part-item.result c.parts-test.true c.part-item.is)
          c.in_ok-there.there (spot run.bits.position run.nodes) (c.in_ok-there.ensures.gives told)) ∙ c.parts.invariant.so_far told);
    }

pub returns-clause-gives : goal.returns-clause-gives
returns-clause-gives g c = λ told.
    sym (c.parts.invariant.so_far told) ∙ each_done flag_at c.parts.present (input g.K.Origin.limit g.K.Origin.whole) (spot c.parts.self.bits.position c.parts.self.nodes) _ (drop_all c.parts.part-index c.args.parts.now c.parts-test.false)

pub returns-clause-present : goal.returns-clause-present
returns-clause-present g c = present_all c.args.parts.now c.parts.part-index c.parts.present c.parts-test.false c.parts.invariant.present
