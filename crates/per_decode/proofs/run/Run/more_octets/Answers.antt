use Rattle.std.proofs.Common.{arith, ◌≡◌, ◌+◌, ◌*◌, None, length, suc, ◌++◌, sym, ap, ◌∙◌, subst}
use Rattle.std.proofs.lemmas.Result.{err_from_is_err_and}
use Rattle.per_fields.specs.Reading.{octets_at}
use Rattle.std.proofs.lemmas.List.{length-append}
use Rattle.per_fields.specs.Fields.{fragments_at}
use Rattle.per_decode.proofs.Loop.{with_front}
use Rattle.per_decode.specs.Private.Giving.{halt_of, memory, input, spot, FailsAt}
use Rattle.per_decode.specs.Private.Kept.{octets_more}
use Rattle.per_decode.proofs.Ends.{sits-octets}
use Rattle.per_decode.proofs.Turns.{turn_fails, turn_last, turn_more, items_fail, last_fail, joined_shows, turn_full}
use Rattle.per_decode.proofs.Standing.{stands_inside}
use Rattle.per_decode.proofs.run.Run.more_octets.Goals as goal

pub returns-in_err-piece-clause-gives : goal.returns-in_err-piece-clause-gives
returns-in_err-piece-clause-gives g c = λ told.
    let p = err_from_is_err_and c.from_residual.result c.from_residual.ensures.1 in
    let old = c.fragments.self in
    let i = stands_inside old.bits.position old.bits.taken old.bits.held old.bits.limit g.K.Origin.limit g.K.Origin.whole _ old.limited old.bits.behind old.bits.within (old.here told) in
    let k = turn_fails g.V.Variant.ALIGNED 0 None octets_at sits-octets c.fragments.text.items c.fragments.before (length c.fragments.text.items) (input g.K.Origin.limit g.K.Origin.whole) (spot old.bits.position old.nodes) i
    g.K.Origin.limit g.K.Origin.whole (halt_of c.in_err-piece.field-0.0 c.count.new.self.stop) c.count.new.self.bits.taken (rw c.as_slice-total.ensures.value at (c.in_err-piece.ensures.gives told)) in
    rw (p.1, p.2) (subst (FailsAt g.K.Origin.limit g.K.Origin.whole (halt_of c.in_err-piece.field-0.0 c.count.new.self.stop) c.count.new.self.bits.taken) (c.fragments.invariant.so_far told) k)

pub returns-in_err-last-in-Last-clause-gives : goal.returns-in_err-last-in-Last-clause-gives
returns-in_err-last-in-Last-clause-gives g c = λ told.
    let old = c.fragments.self in
    let i = stands_inside old.bits.position old.bits.taken old.bits.held old.bits.limit g.K.Origin.limit g.K.Origin.whole _ old.limited old.bits.behind old.bits.within (old.here told) in
    let p = err_from_is_err_and c.from_residual-in_err-last-in-Last.result c.from_residual-in_err-last-in-Last.ensures.1 in
    let k = last_fail g.V.Variant.ALIGNED 0 None octets_at sits-octets c.fragments.text.items c.fragments.before (length c.fragments.text.items) (input g.K.Origin.limit g.K.Origin.whole) (spot old.bits.position old.nodes) i c.in-Last.n _ g.K.Origin.limit g.K.Origin.whole (halt_of c.in_err-last-in-Last.field-0.0 c.take_octets.new.self.stop) c.take_octets.new.self.bits.taken (rw (c.as_slice-total.ensures.value, c.in-Last.is) at (c.in_ok-piece.ensures.gives told)) (c.in_err-last-in-Last.ensures.gives told) in
    rw (p.1, p.2) (subst (FailsAt g.K.Origin.limit g.K.Origin.whole (halt_of c.in_err-last-in-Last.field-0.0 c.take_octets.new.self.stop) c.take_octets.new.self.bits.taken) (c.fragments.invariant.so_far told) k)

pub returns-in_err-octets-in-Units-clause-gives : goal.returns-in_err-octets-in-Units-clause-gives
returns-in_err-octets-in-Units-clause-gives g c = λ told.
    let old = c.fragments.self in
    let i = stands_inside old.bits.position old.bits.taken old.bits.held old.bits.limit g.K.Origin.limit g.K.Origin.whole _ old.limited old.bits.behind old.bits.within (old.here told) in
    let p = err_from_is_err_and c.from_residual-in_err-octets-in-Units.result c.from_residual-in_err-octets-in-Units.ensures.1 in
    let k = items_fail g.V.Variant.ALIGNED 0 None octets_at sits-octets c.fragments.text.items c.fragments.before (length c.fragments.text.items) (input g.K.Origin.limit g.K.Origin.whole) (spot old.bits.position old.nodes) i c.in-Units.k _ g.K.Origin.limit g.K.Origin.whole (halt_of c.in_err-octets-in-Units.field-0.0 c.take_octets-in-Units.new.self.stop) c.take_octets-in-Units.new.self.bits.taken (rw (c.as_slice-total.ensures.value, c.in-Units.is) at (c.in_ok-piece.ensures.gives told)) (c.in_err-octets-in-Units.ensures.gives told) in
    rw (p.1, p.2) (subst (FailsAt g.K.Origin.limit g.K.Origin.whole (halt_of c.in_err-octets-in-Units.field-0.0 c.take_octets-in-Units.new.self.stop) c.take_octets-in-Units.new.self.bits.taken) (c.fragments.invariant.so_far told) k)

pub returns-in-Last-clause-gives : goal.returns-in-Last-clause-gives
returns-in-Last-clause-gives g c = λ told.
    let old = c.fragments.self in
    let new = c.take_octets.new.self in
    let i = stands_inside old.bits.position old.bits.taken old.bits.held old.bits.limit g.K.Origin.limit g.K.Origin.whole _ old.limited old.bits.behind old.bits.within (old.here told) in
    let e = turn_last g.V.Variant.ALIGNED 0 None octets_at sits-octets c.fragments.text.items c.fragments.before (length c.fragments.text.items) (input g.K.Origin.limit g.K.Origin.whole) (spot old.bits.position old.nodes) i c.in-Last.n _ (rw (c.as_slice-total.ensures.value, c.in-Last.is) at (c.in_ok-piece.ensures.gives told)) in
    joined_shows g.K.Origin.limit g.K.Origin.whole (λ all. all.items) c.joined.result c.fragments.text.items c.in_ok-last-in-Last.last.items (spot new.bits.position new.nodes) new.stop new.bits.taken _
    (sym (c.fragments.invariant.so_far told) ∙ e ∙ ap (with_front c.fragments.text.items) (c.in_ok-last-in-Last.ensures.gives told)) (omega (arith, c.in_ok-last-in-Last.ensures.reads.on.1)) c.joined.ensures.ok c.joined.ensures.memory

pub returns-in_err-text-in-Units-clause-gives : goal.returns-in_err-text-in-Units-clause-gives
returns-in_err-text-in-Units-clause-gives g c = λ told.
    let p = err_from_is_err_and c.from_residual-in_err-text-in-Units.result c.from_residual-in_err-text-in-Units.ensures.1 in
    let old = c.fragments.self in
    let new = c.take_octets-in-Units.new.self in
    let i = stands_inside old.bits.position old.bits.taken old.bits.held old.bits.limit g.K.Origin.limit g.K.Origin.whole _ old.limited old.bits.behind old.bits.within (old.here told) in
    let j = stands_inside new.bits.position new.bits.taken new.bits.held new.bits.limit g.K.Origin.limit g.K.Origin.whole _ new.limited new.bits.behind new.bits.within (new.here told) in
    let got = c.in_ok-octets-in-Units.octets.items in
    let full = turn_full g.V.Variant.ALIGNED 0 None octets_at sits-octets (c.fragments.text.items ++ got) c.in-Units.k (length c.fragments.text.items + c.in-Units.k * 16384) (input g.K.Origin.limit g.K.Origin.whole) (spot new.bits.position new.nodes)
    g.K.Origin.limit g.K.Origin.whole new.bits.taken j (omega (arith, c.in_ok-octets-in-Units.ensures.reads.on.1)) in
    let e = turn_more g.V.Variant.ALIGNED 0 None octets_at sits-octets c.fragments.text.items c.fragments.before (length c.fragments.text.items) (input g.K.Origin.limit g.K.Origin.whole) (spot old.bits.position old.nodes) i c.in-Units.k _ got (spot new.bits.position new.nodes) (rw (c.as_slice-total.ensures.value, c.in-Units.is) at (c.in_ok-piece.ensures.gives told)) (c.in_ok-octets-in-Units.ensures.gives told) in
    rw (p.1, p.2, c.in_err-text-in-Units.ensures.memory) (subst (FailsAt g.K.Origin.limit g.K.Origin.whole memory new.bits.taken) (sym e ∙ c.fragments.invariant.so_far told) full)

pub fragments-preserved : goal.fragments-preserved
fragments-preserved g c =
    let old = c.fragments.self in
    let new = c.take_octets-in-Units.new.self in
    let front = c.fragments.text.items in
    let got = c.in_ok-octets-in-Units.octets.items in
    let X = input g.K.Origin.limit g.K.Origin.whole in
    let long : length front + c.in-Units.k * 16384 ≡ length (front ++ got) = omega (arith, length-append front got, c.in_ok-octets-in-Units.ensures.count) in
    record {
      in_step = c.in_ok-octets-in-Units.ensures.reads.on.1;
      on = omega (arith, c.in_ok-octets-in-Units.ensures.reads.on.0, c.in_ok-piece.ensures.reads.on.0, c.fragments.invariant.on);
      nodes = c.take_octets-in-Units.ensures.nodes ∙ c.count.ensures.nodes ∙ c.fragments.invariant.nodes;
      same = c.take_octets-in-Units.ensures.reads.same_reference ∙ c.count.ensures.reads.same_reference ∙ c.fragments.invariant.same;
      so_far = λ told.
          let i = stands_inside old.bits.position old.bits.taken old.bits.held old.bits.limit g.K.Origin.limit g.K.Origin.whole _ old.limited old.bits.behind old.bits.within (old.here told) in
          let e = turn_more g.V.Variant.ALIGNED 0 None octets_at sits-octets c.fragments.text.items c.fragments.before (length c.fragments.text.items) (input g.K.Origin.limit g.K.Origin.whole) (spot old.bits.position old.nodes) i c.in-Units.k _ got (spot new.bits.position new.nodes) (rw (c.as_slice-total.ensures.value, c.in-Units.is) at (c.in_ok-piece.ensures.gives told)) (c.in_ok-octets-in-Units.ensures.gives told) in
          rw c.in_ok-text-in-Units.ensures.ok (subst (λ n. with_front (front ++ got) (fragments_at g.V.Variant.ALIGNED 0 None octets_at (suc (length X)) c.in-Units.k n X (spot new.bits.position new.nodes)) ≡ octets_more g.V.Variant.ALIGNED c.args.first.items c.args.units (length c.args.first.items) X (spot c.args.self.now.bits.position c.args.self.now.nodes))
          long (sym e ∙ c.fragments.invariant.so_far told));
    }
