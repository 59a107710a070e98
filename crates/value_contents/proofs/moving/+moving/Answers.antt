use Rattle.std.proofs.Common.{◌≡◌, ◌<◌, Some, length, refl, sym, ◌∙◌, ap, subst, arith}
use Rattle.base_trees.specs.Rose.{roses_of, count_all, kids_of, label_of}
use Rattle.base_trees.proofs.Roses.{node_count-kids}
use Rattle.base_trees.proofs.Kids.{kid-count-le}
use Rattle.content_models.specs.Seen.{seen}
use Rattle.content_models.specs.Particle.{sequence, choice, all}
use Rattle.content_models.specs.declared.particles.ParticleKind.TheVariants as kinds
use Rattle.content_models.specs.Spots.{next_term, next_order, next_one, inside}
use Rattle.content_match.specs.Private.Standing.{spot_of}
use Rattle.value_builder.proofs.Putting.{puts-then, puts-as}
use Rattle.value_contents.specs.Private.Empty.{term_of}
use Rattle.value_contents.specs.Private.Moves.{turn_in, inner_in, entered_term, ended_term, moved, moved_term, moved_order}
use Rattle.value_contents.proofs.Inverting as invert
use Rattle.value_contents.proofs.Kids.{kids_seen, term-by, next-seen, stays, goes, moved-stays, moved-goes, order-moves-within, order-stays-at, order-stayed-at, one-moves-within, one-moves-at, one-moved-at, on-ok}
use Rattle.value_contents.proofs.Ways.{never-left}
use Rattle.value_contents.proofs.moving.+moving.Goals as goal
use Rattle.value_contents.proofs.moving.+moving.Goals.{step_order-in_default-via-in-Some+in_default, step_order-in_default-via-in_default, step_term-in_default-via-in-Some+in_default, step_term-in_default-via-in_default}

pub step-step_term-requires : goal.step-step_term-requires
step-step_term-requires t c =
    let p = c.args.particle.now in
    let a = c.requires.leads.0 in
    let s = spot_of c.args.from.turns.now c.args.from.kids.now in
    let u = spot_of c.args.to.turns.now c.args.to.kids.now in
    let same : turn_in s ≡ turn_in u = sym c.turn_of.ensures ∙ c.if-turn_of.true ∙ c.turn_of-2.ensures in
    let d = c.decreases in
    (omega (arith, d), (c.requires.few, (a, stays (term_of p) (label_of p).max (turn_in s) (inner_in s) a (turn_in u) (inner_in u) (next-seen p a s u c.requires.leads.1) same)))

pub step-returns-then-turn_of : goal.step-returns-then-turn_of
step-returns-then-turn_of t c =
    let p = c.args.particle.now in
    let s = spot_of c.args.from.turns.now c.args.from.kids.now in
    let u = spot_of c.args.to.turns.now c.args.to.kids.now in
    let same : turn_in s ≡ turn_in u = sym c.turn_of.ensures ∙ c.if-turn_of.true ∙ c.turn_of-2.ensures in
    on-ok c.step_term.result _ _ (λ put. puts-as (moved_term (term_of p) (inner_in s) (inner_in u)) (moved (seen p) s u) _ _ (λ z. moved-stays p s u z same) put) c.step_term.ensures

pub step-end_term-requires-clause-done : goal.step-end_term-requires-clause-done
step-end_term-requires-clause-done t c =
    let p = c.args.particle.now in
    let a = c.requires.leads.0 in
    let s = spot_of c.args.from.turns.now c.args.from.kids.now in
    let u = spot_of c.args.to.turns.now c.args.to.kids.now in
    (goes (term_of p) (label_of p).max (turn_in s) (inner_in s) a (turn_in u) (inner_in u) (next-seen p a s u c.requires.leads.1)
    (λ e. c.if-turn_of.false (c.turn_of.ensures ∙ e ∙ sym c.turn_of-2.ensures))).1

pub step-enter_term-requires-clause-leads : goal.step-enter_term-requires-clause-leads
step-enter_term-requires-clause-leads t c =
    let p = c.args.particle.now in
    let a = c.requires.leads.0 in
    let s = spot_of c.args.from.turns.now c.args.from.kids.now in
    let u = spot_of c.args.to.turns.now c.args.to.kids.now in (
      a,
      (goes (term_of p) (label_of p).max (turn_in s) (inner_in s) a (turn_in u) (inner_in u) (next-seen p a s u c.requires.leads.1)
          (λ e. c.if-turn_of.false (c.turn_of.ensures ∙ e ∙ sym c.turn_of-2.ensures))).2,
    )

pub step-returns : goal.step-returns
step-returns t c =
    let p = c.args.particle.now in
    let a = c.requires.leads.0 in
    let s = spot_of c.args.from.turns.now c.args.from.kids.now in
    let u = spot_of c.args.to.turns.now c.args.to.kids.now in
    let next = (goes (term_of p) (label_of p).max (turn_in s) (inner_in s) a (turn_in u) (inner_in u) (next-seen p a s u c.requires.leads.1)
    (λ e. c.if-turn_of.false (c.turn_of.ensures ∙ e ∙ sym c.turn_of-2.ensures))).0 in
    on-ok c.enter_term.result _ _
    (λ put. puts-then (ended_term (term_of p) (inner_in s)) (entered_term (term_of p) (inner_in u)) (moved (seen p) s u) _ _ _ (λ z. moved-goes p s u z next) c.in_ok-end_term.ensures put)
    c.enter_term.ensures

pub step_order-bounds-particles-old : goal.step_order-bounds-particles-old
step_order-bounds-particles-old t c =
    let ts = c.args.particles.now in
    let a = c.requires.leads.0 in
    let old = c.in-Some-Some.old in
    let new = c.in-Some-Some.new in
    let s = spot_of old.path.turns.now old.path.kids.now in
    let u = spot_of new.path.turns.now new.path.kids.now in
    let e : next_order (kids_seen ts) (inside old.kid s) a ≡ Some (inside new.kid u) =
    ap (λ i. next_order (kids_seen ts) i a) (sym c.in-Some-Some.ensures.0) ∙ c.requires.leads.1 ∙ ap Some c.in-Some-Some.ensures'.0 in
    let h = order-moves-within ts a old.kid new.kid s u e in
    let under = h.0 in
    let within = h.1 in
    omega arith

pub step_order-step-requires : goal.step_order-step-requires
step_order-step-requires t c =
    let ts = c.args.particles.now in
    let a = c.requires.leads.0 in
    let old = c.in-Some-Some.old in
    let new = c.in-Some-Some.new in
    let s = spot_of old.path.turns.now old.path.kids.now in
    let u = spot_of new.path.turns.now new.path.kids.now in
    let e : next_order (kids_seen ts) (inside old.kid s) a ≡ Some (inside new.kid u) =
    ap (λ i. next_order (kids_seen ts) i a) (sym c.in-Some-Some.ensures.0) ∙ c.requires.leads.1 ∙ ap Some c.in-Some-Some.ensures'.0 in
    let f : next_order (kids_seen ts) (inside old.kid s) a ≡ Some (inside old.kid u) = e ∙ ap (λ n. Some (inside n u)) (sym c.if-old-new.true) in
    let h = order-moves-within ts a old.kid new.kid s u e in
    let under = h.0 in
    let below = h.1 in
    let within : old.kid < length ts = omega arith in
    let kid = c.index-particles-old.result in
    let d = c.decreases in
    let less = c.in-Some-Some.ensures.1 in
    let few = c.requires.few in (
      omega (arith, d, less),
      (omega (arith, few, kid-count-le ts old.kid kid within c.index-particles-old.is), (a, order-stays-at ts old.kid kid within c.index-particles-old.is a s u f)),
    )

pub step_order-step_over-requires-clause-later : goal.step_order-step_over-requires-clause-later
step_order-step_over-requires-clause-later t c =
    let ts = c.args.particles.now in
    let a = c.requires.leads.0 in
    let old = c.in-Some-Some.old in
    let new = c.in-Some-Some.new in
    let s = spot_of old.path.turns.now old.path.kids.now in
    let u = spot_of new.path.turns.now new.path.kids.now in
    let e : next_order (kids_seen ts) (inside old.kid s) a ≡ Some (inside new.kid u) =
    ap (λ i. next_order (kids_seen ts) i a) (sym c.in-Some-Some.ensures.0) ∙ c.requires.leads.1 ∙ ap Some c.in-Some-Some.ensures'.0 in
    let under = (order-moves-within ts a old.kid new.kid s u e).0 in
    let other = c.if-old-new.false in
    omega arith

pub step_order-unreachable-requires : goal.step_order-unreachable-requires
step_order-unreachable-requires t c =
    let ps = kids_seen c.args.particles.now in
    let a = c.requires.leads.0 in
    let from = inner_in (spot_of c.args.from.turns.now c.args.from.kids.now) in
    let to = inner_in (spot_of c.args.to.turns.now c.args.to.kids.now) in
    elim c.in_default.branch [
      | step_order-in_default-via-in-Some+in_default w ↦ invert.next_order-here ps from a (c.requires.leads.1 ∙ ap Some w.in_default.ensures')
      | step_order-in_default-via-in_default w ↦ invert.next_order-from ps a to (ap (λ i. next_order ps i a) (sym w.in_default.ensures) ∙ c.requires.leads.1)
    ]

pub step_order-returns-then-old-new : goal.step_order-returns-then-old-new
step_order-returns-then-old-new t c =
    let ts = c.args.particles.now in
    let a = c.requires.leads.0 in
    let old = c.in-Some-Some.old in
    let new = c.in-Some-Some.new in
    let s = spot_of old.path.turns.now old.path.kids.now in
    let u = spot_of new.path.turns.now new.path.kids.now in
    let from = inner_in (spot_of c.args.from.turns.now c.args.from.kids.now) in
    let to = inner_in (spot_of c.args.to.turns.now c.args.to.kids.now) in
    let e : next_order (kids_seen ts) (inside old.kid s) a ≡ Some (inside new.kid u) =
    ap (λ i. next_order (kids_seen ts) i a) (sym c.in-Some-Some.ensures.0) ∙ c.requires.leads.1 ∙ ap Some c.in-Some-Some.ensures'.0 in
    let h = order-moves-within ts a old.kid new.kid s u e in
    let under = h.0 in
    let below = h.1 in
    let within : old.kid < length ts = omega arith in
    let kid = c.index-particles-old.result in
    let same : to ≡ inside old.kid u = c.in-Some-Some.ensures'.0 ∙ ap (λ n. inside n u) (sym c.if-old-new.true) in
    on-ok c.step.result _ _
    (λ put. puts-as (moved (seen kid) s u) (moved_order (kids_seen ts) from to) _ _
    (λ z. sym (ap (λ i. moved_order (kids_seen ts) i to z) c.in-Some-Some.ensures.0 ∙ ap (λ i. moved_order (kids_seen ts) (inside old.kid s) i z) same ∙ order-stayed-at ts old.kid kid within c.index-particles-old.is s u z))
    put) c.step.ensures

pub step_term-step_order-requires : goal.step_term-step_order-requires
step_term-step_order-requires t c =
    let p = c.args.particle.now in
    let kids = c.kids.result.now in
    let a = c.requires.leads.0 in
    let from = inner_in (spot_of c.args.from.turns.now c.args.from.kids.now) in
    let to = inner_in (spot_of c.args.to.turns.now c.args.to.kids.now) in
    let is : term_of p ≡ sequence (kids_seen kids) = term-by p c.label.result.now kids kinds.Sequence c.label.ensures c.kids.ensures c.in-Sequence.is in
    let d = c.decreases in
    let few = c.requires.few in
    let k = node_count-kids p in
    (omega (arith, d), (rw c.kids.ensures (omega (arith, few, k)), (a, subst (λ x. next_term x from a ≡ Some to) is c.requires.leads.1)))

pub step_term-bounds-kids-old : goal.step_term-bounds-kids-old
step_term-bounds-kids-old t c =
    let p = c.args.particle.now in
    let kids = c.kids-in-Some-Some.result.now in
    let a = c.requires.leads.0 in
    let old = c.in-Some-Some.old in
    let new = c.in-Some-Some.new in
    let s = spot_of old.path.turns.now old.path.kids.now in
    let u = spot_of new.path.turns.now new.path.kids.now in
    let is : term_of p ≡ choice (kids_seen kids) = term-by p c.label.result.now kids kinds.Choice c.label.ensures c.kids-in-Some-Some.ensures c.in-Choice.is in
    let e : next_one (kids_seen kids) (inside old.kid s) a ≡ Some (inside new.kid u) =
    sym (ap (λ x. next_term x (inside old.kid s) a) is) ∙ ap (λ i. next_term (term_of p) i a) (sym c.in-Some-Some.ensures.0) ∙ c.requires.leads.1 ∙ ap Some c.in-Some-Some.ensures'.0 in
    (one-moves-within kids a old.kid new.kid s u e).0

pub step_term-step-requires : goal.step_term-step-requires
step_term-step-requires t c =
    let p = c.args.particle.now in
    let kids = c.kids-in-Some-Some.result.now in
    let a = c.requires.leads.0 in
    let old = c.in-Some-Some.old in
    let new = c.in-Some-Some.new in
    let s = spot_of old.path.turns.now old.path.kids.now in
    let u = spot_of new.path.turns.now new.path.kids.now in
    let is : term_of p ≡ choice (kids_seen kids) = term-by p c.label.result.now kids kinds.Choice c.label.ensures c.kids-in-Some-Some.ensures c.in-Choice.is in
    let e : next_one (kids_seen kids) (inside old.kid s) a ≡ Some (inside new.kid u) =
    sym (ap (λ x. next_term x (inside old.kid s) a) is) ∙ ap (λ i. next_term (term_of p) i a) (sym c.in-Some-Some.ensures.0) ∙ c.requires.leads.1 ∙ ap Some c.in-Some-Some.ensures'.0 in
    let h = one-moves-within kids a old.kid new.kid s u e in
    let f : next_one (kids_seen kids) (inside old.kid s) a ≡ Some (inside old.kid u) = e ∙ ap (λ n. Some (inside n u)) h.1 in
    let kid = c.index-kids-old.result in
    let d = c.decreases in
    let less = c.in-Some-Some.ensures.1 in
    let few = c.requires.few in
    let n = node_count-kids p in
    let same = ap (λ us. count_all (roses_of us)) c.kids-in-Some-Some.ensures in
    let fewer = kid-count-le kids old.kid kid h.0 c.index-kids-old.is in (
      omega (arith, d, less),
      (omega (arith, few, n, same, fewer), (a, one-moves-at kids old.kid kid h.0 c.index-kids-old.is a s u f)),
    )

pub step_term-unreachable-requires-in-All : goal.step_term-unreachable-requires-in-All
step_term-unreachable-requires-in-All t c =
    let p = c.args.particle.now in
    let ps = kids_seen (kids_of p) in
    let a = c.requires.leads.0 in
    let is : term_of p ≡ all ps = term-by p c.label.result.now (kids_of p) kinds.All c.label.ensures refl c.in-All.is in
    never-left ps c.args.from.turns.now c.args.from.kids.now a (inner_in (spot_of c.args.to.turns.now c.args.to.kids.now))
    (sym (ap (λ x. next_term x (inner_in (spot_of c.args.from.turns.now c.args.from.kids.now)) a) is) ∙ c.requires.leads.1)

pub step_term-unreachable-requires-in_default : goal.step_term-unreachable-requires-in_default
step_term-unreachable-requires-in_default t c =
    let p = c.args.particle.now in
    let ps = kids_seen (kids_of p) in
    let a = c.requires.leads.0 in
    let from = inner_in (spot_of c.args.from.turns.now c.args.from.kids.now) in
    let to = inner_in (spot_of c.args.to.turns.now c.args.to.kids.now) in
    let is : term_of p ≡ choice ps = term-by p c.label.result.now (kids_of p) kinds.Choice c.label.ensures refl c.in-Choice.is in
    let e : next_one ps from a ≡ Some to = sym (ap (λ x. next_term x from a) is) ∙ c.requires.leads.1 in
    elim c.in_default.branch [
      | step_term-in_default-via-in-Some+in_default w ↦ invert.next_one-here ps from a (e ∙ ap Some w.in_default.ensures')
      | step_term-in_default-via-in_default w ↦ invert.next_one-from ps a to (ap (λ i. next_one ps i a) (sym w.in_default.ensures) ∙ e)
    ]

pub step_term-returns-in-Some-Some : goal.step_term-returns-in-Some-Some
step_term-returns-in-Some-Some t c =
    let p = c.args.particle.now in
    let kids = c.kids-in-Some-Some.result.now in
    let a = c.requires.leads.0 in
    let old = c.in-Some-Some.old in
    let new = c.in-Some-Some.new in
    let s = spot_of old.path.turns.now old.path.kids.now in
    let u = spot_of new.path.turns.now new.path.kids.now in
    let from = inner_in (spot_of c.args.from.turns.now c.args.from.kids.now) in
    let to = inner_in (spot_of c.args.to.turns.now c.args.to.kids.now) in
    let is : term_of p ≡ choice (kids_seen kids) = term-by p c.label.result.now kids kinds.Choice c.label.ensures c.kids-in-Some-Some.ensures c.in-Choice.is in
    let e : next_one (kids_seen kids) (inside old.kid s) a ≡ Some (inside new.kid u) =
    sym (ap (λ x. next_term x (inside old.kid s) a) is) ∙ ap (λ i. next_term (term_of p) i a) (sym c.in-Some-Some.ensures.0) ∙ c.requires.leads.1 ∙ ap Some c.in-Some-Some.ensures'.0 in
    let h = one-moves-within kids a old.kid new.kid s u e in
    let kid = c.index-kids-old.result in
    on-ok c.step.result _ _
    (λ put. puts-as (moved (seen kid) s u) (moved_term (term_of p) from to) _ _
    (λ z. sym (ap (λ x. moved_term x from to z) is ∙ ap (λ i. moved_term (choice (kids_seen kids)) i to z) c.in-Some-Some.ensures.0
    ∙ ap (λ i. moved_term (choice (kids_seen kids)) (inside old.kid s) i z) c.in-Some-Some.ensures'.0 ∙ one-moved-at kids old.kid kid h.0 c.index-kids-old.is s u z))
    put) c.step.ensures
