use Rattle.std.proofs.Common.{◌≡◌, ◌+◌, ◌&&◌, true, arith}
use Rattle.std.specs.Prelude.{slice_index_or}
use Rattle.content_match.specs.Private.Standing.{spot_of}
use Rattle.value_builder.specs.Built.{flagged}
use Rattle.value_builder.proofs.Putting.{puts-as, puts-nothing}
use Rattle.value_contents.specs.Private.Moves.{inner_in, moved_order}
use Rattle.value_contents.proofs.Beside.{single, both-single, beside-given, beside-within, same-put, next-put}
use Rattle.value_contents.proofs.Kids.{kids_seen, on-ok}
use Rattle.value_contents.proofs.moving.step_beside.Goals as goal

pub returns-then-old-new : goal.returns-then-old-new
returns-then-old-new c =
    let ts = c.args.particles.now in
    let from = c.args.from in
    let to = c.args.to in
    let b = beside-given ts c.requires.leads.0 from.turns.now from.kids.now to.turns.now to.kids.now c.requires.beside c.requires.leads.1 in
    let s = inner_in (spot_of from.turns.now from.kids.now) in
    let u = inner_in (spot_of to.turns.now to.kids.now) in
    puts-as (λ z. z) (moved_order (kids_seen ts) s u) _ _ (same-put ts s u _ _ b c.if-old-new.true) (puts-nothing c.args.values.now)

pub overflow_sub-new : goal.overflow_sub-new
overflow_sub-new c =
    let from = c.args.from in
    let to = c.args.to in
    let b = beside-given c.args.particles.now c.requires.leads.0 from.turns.now from.kids.now to.turns.now to.kids.now c.requires.beside c.requires.leads.1 in
    (beside-within c.args.particles.now (inner_in (spot_of from.turns.now from.kids.now)) (inner_in (spot_of to.turns.now to.kids.now)) _ _ b).0

pub bounds-particles-old : goal.bounds-particles-old
bounds-particles-old c =
    let from = c.args.from in
    let to = c.args.to in
    let b = beside-given c.args.particles.now c.requires.leads.0 from.turns.now from.kids.now to.turns.now to.kids.now c.requires.beside c.requires.leads.1 in
    let h = beside-within c.args.particles.now (inner_in (spot_of from.turns.now from.kids.now)) (inner_in (spot_of to.turns.now to.kids.now)) _ _ b in
    let under = h.0 in
    let below = h.1 in
    omega arith

pub bounds-particles-new : goal.bounds-particles-new
bounds-particles-new c =
    let from = c.args.from in
    let to = c.args.to in
    let b = beside-given c.args.particles.now c.requires.leads.0 from.turns.now from.kids.now to.turns.now to.kids.now c.requires.beside c.requires.leads.1 in
    (beside-within c.args.particles.now (inner_in (spot_of from.turns.now from.kids.now)) (inner_in (spot_of to.turns.now to.kids.now)) _ _ b).1

pub returns-then-are_single : goal.returns-then-are_single
returns-then-are_single c =
    let ts = c.args.particles.now in
    let from = c.args.from in
    let to = c.args.to in
    let b = beside-given ts c.requires.leads.0 from.turns.now from.kids.now to.turns.now to.kids.now c.requires.beside c.requires.leads.1 in
    let s = inner_in (spot_of from.turns.now from.kids.now) in
    let u = inner_in (spot_of to.turns.now to.kids.now) in
    let old = c.index-particles-old.result in
    let new = c.index-particles-new.result in
    let past : slice_index_or to.kids.now 0 0 ≡ slice_index_or from.kids.now 0 0 + 1 =
    (let h = beside-within ts s u _ _ b in let under = h.0 in let one = c.if-new-old-eq1.true in omega (arith, under, one))
    in
    let both : (single old && single new) ≡ true =
    both-single old new c.label.result.now c.label-then-new-old-eq1.result.now c.label.ensures c.label-then-new-old-eq1.ensures _ c.are_single.ensures c.if-are_single.true
    in
    on-ok c.part.result _ _
    (λ put. puts-as (flagged true) (moved_order (kids_seen ts) s u) _ _ (next-put ts s u _ _ b old new past c.index-particles-old.is c.index-particles-new.is both) put) c.part.ensures
