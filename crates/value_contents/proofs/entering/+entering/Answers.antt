use Rattle.std.proofs.Common.{◌≡◌, true, false, Some, take, refl, sym, ◌∙◌, ap, subst, arith}
use Rattle.std.proofs.lemmas.List.{length-take}
use Rattle.base_trees.specs.Rose.{roses_of, count_all, kids_of}
use Rattle.base_trees.proofs.Roses.{node_count-kids}
use Rattle.base_trees.proofs.Kids.{kid-count-le, count_all-take-le}
use Rattle.base_flat_trees.specs.Zips.{opened}
use Rattle.simple_types.specs.declared.labels.ValueLabel.TheVariants as value
use Rattle.content_models.specs.Seen.{seen}
use Rattle.content_models.specs.Particle.{sequence, choice, all}
use Rattle.content_models.specs.declared.particles.ParticleKind.TheVariants as kinds
use Rattle.content_models.specs.Spots.{enter_term, enter_one, inside, pick, unmarked}
use Rattle.content_match.specs.Private.Standing.{spot_of}
use Rattle.value_builder.specs.Built.{flagged}
use Rattle.value_builder.proofs.Putting.{puts-then, puts-both}
use Rattle.value_contents.specs.Bounds.{is_single}
use Rattle.value_contents.specs.Private.Empty.{term_of, emptied}
use Rattle.value_contents.specs.Private.Moves.{inner_in, items_opened, entered, entered_term, entered_order}
use Rattle.value_contents.proofs.Inverting.{enter_order-here, enter_one-here}
use Rattle.value_contents.proofs.Kids.{kids_seen, term-by, enter-seen, entered-by, order-within, order-enters-at, order-entered-at, one-within, one-enters-at, one-entered-at, on-ok, kid-there}
use Rattle.value_contents.proofs.Ways.{never-entered}
use Rattle.value_contents.proofs.entering.+entering.Goals as goal

pub enter-returns : goal.enter-returns
enter-returns t c =
    let p = c.args.particle.now in
    let l = c.label.result.now in
    let s = spot_of c.args.to.turns.now c.args.to.kids.now in
    on-ok c.enter_term.result _ _
    (λ put. puts-then (items_opened (is_single c.args.in_choice l.min l.max)) (entered_term (term_of p) (inner_in s)) (entered c.args.in_choice (seen p) s) _ _ _
    (entered-by c.args.in_choice p l s c.label.ensures) c.in_ok-open_items.ensures put)
    c.enter_term.ensures

pub enter_order-unreachable-requires : goal.enter_order-unreachable-requires
enter_order-unreachable-requires t c =
    enter_order-here (kids_seen c.args.particles.now) c.requires.leads.0 (c.requires.leads.1 ∙ ap Some c.in-None.ensures)

pub enter_order-slice_bounds-put_empty_parts-end : goal.enter_order-slice_bounds-put_empty_parts-end
enter_order-slice_bounds-put_empty_parts-end t c =
    let low = c.in-Some.lower in
    let s = spot_of low.path.turns.now low.path.kids.now in
    let h = order-within c.args.particles.now c.requires.leads.0 low.kid s (c.requires.leads.1 ∙ ap Some c.in-Some.ensures.0) in
    omega (arith, length-take low.kid c.args.particles.now)

pub enter_order-put_empty_parts-requires-clause-few : goal.enter_order-put_empty_parts-requires-clause-few
enter_order-put_empty_parts-requires-clause-few t c =
    let few = c.requires.few in
    omega (arith, count_all-take-le c.args.particles.now c.in-Some.lower.kid)

pub enter_order-put_empty_parts-requires-clause-empty : goal.enter_order-put_empty_parts-requires-clause-empty
enter_order-put_empty_parts-requires-clause-empty t c =
    let ts = c.args.particles.now in
    let low = c.in-Some.lower in
    let s = spot_of low.path.turns.now low.path.kids.now in
    let e = c.requires.leads.1 ∙ ap Some c.in-Some.ensures.0 in
    let h = order-within ts c.requires.leads.0 low.kid s e in
    let k = kid-there ts low.kid h in
    (order-enters-at ts low.kid k.0 h k.1 c.requires.leads.0 s e).0

pub enter_order-bounds-particles-kid : goal.enter_order-bounds-particles-kid
enter_order-bounds-particles-kid t c =
    let low = c.in-Some.lower in
    order-within c.args.particles.now c.requires.leads.0 low.kid (spot_of low.path.turns.now low.path.kids.now) (c.requires.leads.1 ∙ ap Some c.in-Some.ensures.0)

pub enter_order-enter-requires : goal.enter_order-enter-requires
enter_order-enter-requires t c =
    let ts = c.args.particles.now in
    let low = c.in-Some.lower in
    let s = spot_of low.path.turns.now low.path.kids.now in
    let e = c.requires.leads.1 ∙ ap Some c.in-Some.ensures.0 in
    let h = order-within ts c.requires.leads.0 low.kid s e in
    let kid = c.index-particles-kid.result in
    let d = c.decreases in
    let less = c.in-Some.ensures.1 in
    let few = c.requires.few in (
      omega (arith, d, less),
      (
        omega (arith, few, kid-count-le ts low.kid kid h c.index-particles-kid.is),
        (c.requires.leads.0, enter-seen kid c.requires.leads.0 s (order-enters-at ts low.kid kid h c.index-particles-kid.is c.requires.leads.0 s e).1),
      ),
    )

pub enter_order-returns : goal.enter_order-returns
enter_order-returns t c =
    let ts = c.args.particles.now in
    let low = c.in-Some.lower in
    let s = spot_of low.path.turns.now low.path.kids.now in
    let inner = inner_in (spot_of c.args.to.turns.now c.args.to.kids.now) in
    let h = order-within ts c.requires.leads.0 low.kid s (c.requires.leads.1 ∙ ap Some c.in-Some.ensures.0) in
    let kid = c.index-particles-kid.result in
    let before = emptied (kids_seen (take low.kid ts)) in
    on-ok c.enter.result _ _
    (λ put. puts-then (λ z. flagged true (before z)) (entered false (seen kid) s) (entered_order (kids_seen ts) inner) _ _ _
    (λ z. sym (ap (λ i. entered_order (kids_seen ts) i z) c.in-Some.ensures.0 ∙ order-entered-at ts low.kid kid h c.index-particles-kid.is s z))
    (puts-both before (flagged true) _ _ _ c.in_ok-put_empty_parts-in-Some.ensures c.in_ok-part-in-Some.ensures) put)
    c.enter.ensures

pub enter_term-enter_order-requires : goal.enter_term-enter_order-requires
enter_term-enter_order-requires t c =
    let p = c.args.particle.now in
    let kids = c.kids.result.now in
    let inner = inner_in (spot_of c.args.to.turns.now c.args.to.kids.now) in
    let is : term_of p ≡ sequence (kids_seen kids) = term-by p c.label.result.now kids kinds.Sequence c.label.ensures c.kids.ensures c.in-Sequence.is in
    let d = c.decreases in
    let few = c.requires.few in
    let k = node_count-kids p in (
      omega (arith, d),
      (rw c.kids.ensures (omega (arith, few, k)), (c.requires.leads.0, subst (λ u. enter_term u c.requires.leads.0 ≡ Some inner) is c.requires.leads.1)),
    )

pub enter_term-unreachable-requires : goal.enter_term-unreachable-requires
enter_term-unreachable-requires t c =
    let p = c.args.particle.now in
    let a = c.requires.leads.0 in
    let is : term_of p ≡ choice (kids_seen (kids_of p)) = term-by p c.label.result.now (kids_of p) kinds.Choice c.label.ensures refl c.in-Choice.is in
    enter_one-here (kids_seen (kids_of p)) a (sym (ap (λ u. enter_term u a) is) ∙ c.requires.leads.1 ∙ ap Some c.in-None.ensures)

pub enter_term-unreachable-requires-in-All : goal.enter_term-unreachable-requires-in-All
enter_term-unreachable-requires-in-All t c =
    let p = c.args.particle.now in
    let a = c.requires.leads.0 in
    let ps = kids_seen (kids_of p) in
    let is : term_of p ≡ all ps = term-by p c.label.result.now (kids_of p) kinds.All c.label.ensures refl c.in-All.is in
    never-entered (pick ps (unmarked ps) a) c.args.to.turns.now c.args.to.kids.now (sym (ap (λ u. enter_term u a) is) ∙ c.requires.leads.1)

pub enter_term-bounds-kids-lower : goal.enter_term-bounds-kids-lower
enter_term-bounds-kids-lower t c =
    let p = c.args.particle.now in
    let kids = c.kids-in-Some.result.now in
    let low = c.in-Some.lower in
    let a = c.requires.leads.0 in
    let s = spot_of low.path.turns.now low.path.kids.now in
    let is : term_of p ≡ choice (kids_seen kids) = term-by p c.label.result.now kids kinds.Choice c.label.ensures c.kids-in-Some.ensures c.in-Choice.is in
    let e : enter_one (kids_seen kids) a ≡ Some (inside low.kid s) = sym (ap (λ u. enter_term u a) is) ∙ c.requires.leads.1 ∙ ap Some c.in-Some.ensures.0 in
    one-within kids a low.kid s e

pub enter_term-enter-requires : goal.enter_term-enter-requires
enter_term-enter-requires t c =
    let p = c.args.particle.now in
    let kids = c.kids-in-Some.result.now in
    let low = c.in-Some.lower in
    let a = c.requires.leads.0 in
    let s = spot_of low.path.turns.now low.path.kids.now in
    let is : term_of p ≡ choice (kids_seen kids) = term-by p c.label.result.now kids kinds.Choice c.label.ensures c.kids-in-Some.ensures c.in-Choice.is in
    let e : enter_one (kids_seen kids) a ≡ Some (inside low.kid s) = sym (ap (λ u. enter_term u a) is) ∙ c.requires.leads.1 ∙ ap Some c.in-Some.ensures.0 in
    let h = one-within kids a low.kid s e in
    let kid = c.index-kids-lower.result in
    let d = c.decreases in
    let less = c.in-Some.ensures.1 in
    let few = c.requires.few in
    let n = node_count-kids p in
    let same = ap (λ us. count_all (roses_of us)) c.kids-in-Some.ensures in
    let fewer = kid-count-le kids low.kid kid h c.index-kids-lower.is in (
      omega (arith, d, less),
      (omega (arith, few, n, same, fewer), (a, enter-seen kid a s (one-enters-at kids low.kid kid h c.index-kids-lower.is a s e))),
    )

pub enter_term-returns-in_ok-open-in-Some : goal.enter_term-returns-in_ok-open-in-Some
enter_term-returns-in_ok-open-in-Some t c =
    let p = c.args.particle.now in
    let kids = c.kids-in-Some.result.now in
    let low = c.in-Some.lower in
    let a = c.requires.leads.0 in
    let s = spot_of low.path.turns.now low.path.kids.now in
    let inner = inner_in (spot_of c.args.to.turns.now c.args.to.kids.now) in
    let is : term_of p ≡ choice (kids_seen kids) = term-by p c.label.result.now kids kinds.Choice c.label.ensures c.kids-in-Some.ensures c.in-Choice.is in
    let e : enter_one (kids_seen kids) a ≡ Some (inside low.kid s) = sym (ap (λ u. enter_term u a) is) ∙ c.requires.leads.1 ∙ ap Some c.in-Some.ensures.0 in
    let h = one-within kids a low.kid s e in
    let kid = c.index-kids-lower.result in
    on-ok c.enter.result _ _
    (λ put. puts-then (opened (value.Choice low.kid)) (entered true (seen kid) s) (entered_term (term_of p) inner) _ _ _
    (λ z. sym (ap (λ u. entered_term u inner z) is ∙ ap (λ i. entered_term (choice (kids_seen kids)) i z) c.in-Some.ensures.0 ∙ one-entered-at kids low.kid kid h c.index-kids-lower.is s (opened (value.Choice low.kid) z)))
    c.in_ok-open-in-Some.ensures put)
    c.enter.ensures
