use Rattle.std.proofs.Common.{◌≡◌, ◌+◌, true, false, drop, refl, sym, ◌∙◌, ap, subst, arith}
use Rattle.std.specs.Prelude.{OnOk}
use Rattle.base_trees.specs.Rose.{roses_of, count_all, kids_of}
use Rattle.base_trees.proofs.Roses.{node_count-kids}
use Rattle.base_trees.proofs.Kids.{kid-count-le, count_all-drop-le}
use Rattle.base_flat_trees.specs.Zips.{closed}
use Rattle.content_models.specs.Seen.{seen}
use Rattle.content_models.specs.Particle.{sequence, choice, all}
use Rattle.content_models.specs.declared.particles.ParticleKind.TheVariants as kinds
use Rattle.content_models.specs.Spots.{finishes_term, finishes_order, finishes_one, here, inside}
use Rattle.content_match.specs.Private.Standing.{spot_of}
use Rattle.value_builder.specs.Built.{Puts}
use Rattle.value_builder.proofs.Putting.{puts-then}
use Rattle.value_contents.specs.Bounds.{is_single}
use Rattle.value_contents.specs.Private.Empty.{term_of, emptied}
use Rattle.value_contents.specs.Private.Moves.{inner_in, items_closed, ended, ended_term, ended_order}
use Rattle.value_contents.proofs.Kids.{kids_seen, term-by, finishes-seen, ended-by, order-ends-within, order-ends-at, order-ended-at, one-ends-within, one-ends-at, one-ended-at, on-ok, no-order-here, no-one-here, rest-is}
use Rattle.value_contents.proofs.Ways.{never-ended}
use Rattle.value_contents.proofs.ending.+ending.Goals as goal

pub end-returns : goal.end-returns
end-returns t c =
    let p = c.args.particle.now in
    let l = c.label.result.now in
    let s = spot_of c.args.from.turns.now c.args.from.kids.now in
    puts-then (ended_term (term_of p) (inner_in s)) (items_closed (is_single c.args.in_choice l.min l.max)) (ended c.args.in_choice (seen p) s) _ _ _
    (ended-by c.args.in_choice p l s c.label.ensures) c.in_ok-end_term.ensures c.close_items.ensures

pub end_order-unreachable-requires : goal.end_order-unreachable-requires
end_order-unreachable-requires t c =
    no-order-here (kids_seen c.args.particles.now) (subst (λ s. finishes_order (kids_seen c.args.particles.now) s ≡ true) c.in-None.ensures c.requires.done)

pub end_order-bounds-particles-kid : goal.end_order-bounds-particles-kid
end_order-bounds-particles-kid t c =
    let low = c.in-Some.lower in
    order-ends-within c.args.particles.now low.kid (spot_of low.path.turns.now low.path.kids.now)
    (subst (λ s. finishes_order (kids_seen c.args.particles.now) s ≡ true) c.in-Some.ensures.0 c.requires.done)

pub end_order-end-requires : goal.end_order-end-requires
end_order-end-requires t c =
    let ts = c.args.particles.now in
    let low = c.in-Some.lower in
    let s = spot_of low.path.turns.now low.path.kids.now in
    let e = subst (λ s. finishes_order (kids_seen ts) s ≡ true) c.in-Some.ensures.0 c.requires.done in
    let h = order-ends-within ts low.kid s e in
    let kid = c.index-particles-kid.result in
    let d = c.decreases in
    let less = c.in-Some.ensures.1 in
    let few = c.requires.few in (
      omega (arith, d, less),
      (omega (arith, few, kid-count-le ts low.kid kid h c.index-particles-kid.is), finishes-seen kid s (order-ends-at ts low.kid kid h c.index-particles-kid.is s e).0),
    )

pub end_order-slice_bounds-put_empty_parts-count : goal.end_order-slice_bounds-put_empty_parts-count
end_order-slice_bounds-put_empty_parts-count t c =
    let low = c.in-Some.lower in
    let h = order-ends-within c.args.particles.now low.kid (spot_of low.path.turns.now low.path.kids.now)
    (subst (λ s. finishes_order (kids_seen c.args.particles.now) s ≡ true) c.in-Some.ensures.0 c.requires.done) in
    omega arith

pub end_order-slice_bounds-put_empty_parts-start : goal.end_order-slice_bounds-put_empty_parts-start
end_order-slice_bounds-put_empty_parts-start t c =
    let low = c.in-Some.lower in
    let h = order-ends-within c.args.particles.now low.kid (spot_of low.path.turns.now low.path.kids.now)
    (subst (λ s. finishes_order (kids_seen c.args.particles.now) s ≡ true) c.in-Some.ensures.0 c.requires.done) in
    omega arith

pub end_order-put_empty_parts-requires-clause-few : goal.end_order-put_empty_parts-requires-clause-few
end_order-put_empty_parts-requires-clause-few t c =
    let few = c.requires.few in
    rw (rest-is c.args.particles.now (c.in-Some.lower.kid + 1)) (omega (arith, few, count_all-drop-le c.args.particles.now (c.in-Some.lower.kid + 1)))

pub end_order-put_empty_parts-requires-clause-empty : goal.end_order-put_empty_parts-requires-clause-empty
end_order-put_empty_parts-requires-clause-empty t c =
    let ts = c.args.particles.now in
    let low = c.in-Some.lower in
    let s = spot_of low.path.turns.now low.path.kids.now in
    let e = subst (λ s. finishes_order (kids_seen ts) s ≡ true) c.in-Some.ensures.0 c.requires.done in
    let h = order-ends-within ts low.kid s e in
    rw (rest-is ts (low.kid + 1)) (order-ends-at ts low.kid c.index-particles-kid.result h c.index-particles-kid.is s e).1

pub end_order-returns : goal.end_order-returns
end_order-returns t c =
    let ts = c.args.particles.now in
    let low = c.in-Some.lower in
    let s = spot_of low.path.turns.now low.path.kids.now in
    let inner = inner_in (spot_of c.args.from.turns.now c.args.from.kids.now) in
    let e = subst (λ s. finishes_order (kids_seen ts) s ≡ true) c.in-Some.ensures.0 c.requires.done in
    let h = order-ends-within ts low.kid s e in
    let kid = c.index-particles-kid.result in
    on-ok c.put_empty_parts.result _ _
    (λ put. puts-then (ended false (seen kid) s) (emptied (kids_seen (drop (low.kid + 1) ts))) (ended_order (kids_seen ts) inner) _ _ _
    (λ z. sym (ap (λ i. ended_order (kids_seen ts) i z) c.in-Some.ensures.0 ∙ order-ended-at ts low.kid kid h c.index-particles-kid.is s z))
    c.in_ok-end-in-Some.ensures put)
    (subst (λ us. OnOk c.put_empty_parts.result (Puts (emptied (kids_seen us)) c.end.new.values c.put_empty_parts.new.values)) (rest-is ts (low.kid + 1)) c.put_empty_parts.ensures)

pub end_term-end_order-requires : goal.end_term-end_order-requires
end_term-end_order-requires t c =
    let p = c.args.particle.now in
    let kids = c.kids.result.now in
    let inner = inner_in (spot_of c.args.from.turns.now c.args.from.kids.now) in
    let is : term_of p ≡ sequence (kids_seen kids) = term-by p c.label.result.now kids kinds.Sequence c.label.ensures c.kids.ensures c.in-Sequence.is in
    let d = c.decreases in
    let few = c.requires.few in
    let k = node_count-kids p in (
      omega (arith, d),
      (rw c.kids.ensures (omega (arith, few, k)), subst (λ u. finishes_term u inner ≡ true) is c.requires.done),
    )

pub end_term-unreachable-requires : goal.end_term-unreachable-requires
end_term-unreachable-requires t c =
    let p = c.args.particle.now in
    let is : term_of p ≡ choice (kids_seen (kids_of p)) = term-by p c.label.result.now (kids_of p) kinds.Choice c.label.ensures refl c.in-Choice.is in
    no-one-here (kids_seen (kids_of p)) (sym (ap (λ u. finishes_term u here) is) ∙ subst (λ i. finishes_term (term_of p) i ≡ true) c.in-None.ensures c.requires.done)

pub end_term-unreachable-requires-in-All : goal.end_term-unreachable-requires-in-All
end_term-unreachable-requires-in-All t c =
    let p = c.args.particle.now in
    let ps = kids_seen (kids_of p) in
    let is : term_of p ≡ all ps = term-by p c.label.result.now (kids_of p) kinds.All c.label.ensures refl c.in-All.is in
    never-ended ps c.args.from.turns.now c.args.from.kids.now (sym (ap (λ u. finishes_term u (inner_in (spot_of c.args.from.turns.now c.args.from.kids.now))) is) ∙ c.requires.done)

pub end_term-bounds-kids-lower : goal.end_term-bounds-kids-lower
end_term-bounds-kids-lower t c =
    let p = c.args.particle.now in
    let kids = c.kids-in-Some.result.now in
    let low = c.in-Some.lower in
    let s = spot_of low.path.turns.now low.path.kids.now in
    let is : term_of p ≡ choice (kids_seen kids) = term-by p c.label.result.now kids kinds.Choice c.label.ensures c.kids-in-Some.ensures c.in-Choice.is in
    let e : finishes_one (kids_seen kids) (inside low.kid s) ≡ true = sym (ap (λ u. finishes_term u (inside low.kid s)) is) ∙ subst (λ i. finishes_term (term_of p) i ≡ true) c.in-Some.ensures.0 c.requires.done in
    one-ends-within kids low.kid s e

pub end_term-end-requires : goal.end_term-end-requires
end_term-end-requires t c =
    let p = c.args.particle.now in
    let kids = c.kids-in-Some.result.now in
    let low = c.in-Some.lower in
    let s = spot_of low.path.turns.now low.path.kids.now in
    let is : term_of p ≡ choice (kids_seen kids) = term-by p c.label.result.now kids kinds.Choice c.label.ensures c.kids-in-Some.ensures c.in-Choice.is in
    let e : finishes_one (kids_seen kids) (inside low.kid s) ≡ true = sym (ap (λ u. finishes_term u (inside low.kid s)) is) ∙ subst (λ i. finishes_term (term_of p) i ≡ true) c.in-Some.ensures.0 c.requires.done in
    let h = one-ends-within kids low.kid s e in
    let kid = c.index-kids-lower.result in
    let d = c.decreases in
    let less = c.in-Some.ensures.1 in
    let few = c.requires.few in
    let n = node_count-kids p in
    let same = ap (λ us. count_all (roses_of us)) c.kids-in-Some.ensures in
    let fewer = kid-count-le kids low.kid kid h c.index-kids-lower.is in (
      omega (arith, d, less),
      (omega (arith, few, n, same, fewer), finishes-seen kid s (one-ends-at kids low.kid kid h c.index-kids-lower.is s e)),
    )

pub end_term-returns-in_ok-end-in-Some : goal.end_term-returns-in_ok-end-in-Some
end_term-returns-in_ok-end-in-Some t c =
    let p = c.args.particle.now in
    let kids = c.kids-in-Some.result.now in
    let low = c.in-Some.lower in
    let s = spot_of low.path.turns.now low.path.kids.now in
    let inner = inner_in (spot_of c.args.from.turns.now c.args.from.kids.now) in
    let is : term_of p ≡ choice (kids_seen kids) = term-by p c.label.result.now kids kinds.Choice c.label.ensures c.kids-in-Some.ensures c.in-Choice.is in
    let e : finishes_one (kids_seen kids) (inside low.kid s) ≡ true = sym (ap (λ u. finishes_term u (inside low.kid s)) is) ∙ subst (λ i. finishes_term (term_of p) i ≡ true) c.in-Some.ensures.0 c.requires.done in
    let h = one-ends-within kids low.kid s e in
    let kid = c.index-kids-lower.result in
    puts-then (ended true (seen kid) s) closed (ended_term (term_of p) inner) _ _ _
    (λ z. sym (ap (λ u. ended_term u inner z) is ∙ ap (λ i. ended_term (choice (kids_seen kids)) i z) c.in-Some.ensures.0 ∙ ap closed (one-ended-at kids low.kid kid h c.index-kids-lower.is s z)))
    c.in_ok-end-in-Some.ensures c.close-in-Some.ensures
