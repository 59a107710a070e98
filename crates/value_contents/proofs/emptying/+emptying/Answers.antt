use Rattle.std.proofs.Common.{◌≡◌, ◌+◌, [], true, cond, take, sym, ◌∙◌, ap, subst, arith}
use Rattle.base_trees.specs.Rose.{node, roses_of, node_count, count_all, label_of}
use Rattle.base_trees.specs.Rose as rose
use Rattle.base_trees.proofs.Roses.{node_count-kids, length-le-count_all}
use Rattle.base_trees.proofs.Kids.{kid-count-le, take-more_kid}
use Rattle.base_flat_trees.specs.Zips.{added, opened, closed}
use Rattle.simple_types.specs.declared.labels.ValueLabel.TheVariants as value
use Rattle.content_models.specs.Clear.{empties_term}
use Rattle.content_models.specs.Seen.{seen}
use Rattle.content_models.specs.Particle.{sequence, choice, more, none}
use Rattle.content_models.specs.declared.particles.ParticleKind.TheVariants as kinds
use Rattle.value_builder.specs.Built.{Puts, flagged}
use Rattle.value_builder.proofs.Putting.{puts-then, puts-both, puts-as}
use Rattle.value_contents.specs.Bounds.{is_once, is_optional}
use Rattle.value_contents.specs.Private.Empty.{term_of, emptied, empty_value, empty_term, empty_place}
use Rattle.value_contents.proofs.Filling.{once-empty}
use Rattle.value_contents.proofs.Kids.{kids_seen, term-by, empties-seen, empty_value-seen, left_out-seen, all-empty-at, emptied-push, part-kept, on-ok, kid-get}
use Rattle.value_contents.proofs.emptying.+emptying.Goals as goal

pub put_empty_part-returns : goal.put_empty_part-returns
put_empty_part-returns t c =
    let p = c.args.particle.now in
    let not_optional = sym (c.if-is_optional.ensures ∙ ap (λ l. is_optional l.min l.max) c.label.ensures) in
    on-ok c.put_empty_value.result _ _
    (λ put. puts-then (flagged true) (added (empty_value (seen p))) (emptied (more (seen p) none)) _ _ _ (part-kept (seen p) (left_out-seen p ∙ not_optional)) c.in_ok-part.ensures put)
    c.put_empty_value.ensures

pub put_empty_parts-put_empty_part-requires : goal.put_empty_parts-put_empty_part-requires
put_empty_parts-put_empty_part-requires t c =
    let ts = c.args.particles.now in
    let i = c.particles.particle-index in
    let kid = c.particle-item.result in
    let at = c.particles-test.true in
    let d = c.decreases in
    let few = c.requires.few in
    let k = kid-count-le ts i kid at c.particle-item.is in
    (omega (arith, d, k), (omega (arith, few, k), all-empty-at ts i kid at c.particle-item.is c.requires.empty))

pub put_empty_parts-particles-preserved : goal.put_empty_parts-particles-preserved
put_empty_parts-particles-preserved t c =
    let ts = c.args.particles.now in
    let i = c.particles.particle-index in
    let kid = c.particle-item.result in
    let at = c.particles-test.true in
    puts-then (emptied (kids_seen (take i ts))) (emptied (more (seen kid) none)) (emptied (kids_seen (take (i + 1) ts))) _ _ _
    (λ z. sym (ap (λ us. emptied (kids_seen us) z) (take-more_kid ts i kid at c.particle-item.is) ∙ emptied-push (take i ts) kid z))
    c.particles.invariant c.in_ok-put_empty_part.ensures

pub put_empty_term-put_empty_parts-requires : goal.put_empty_term-put_empty_parts-requires
put_empty_term-put_empty_parts-requires t c =
    let p = c.args.particle.now in
    let kids = c.kids.result.now in
    let is : term_of p ≡ sequence (kids_seen kids) = term-by p c.label.result.now kids kinds.Sequence c.label.ensures c.kids.ensures c.in-Sequence.is in
    let d = c.decreases in
    let few = c.requires.few in
    let k = node_count-kids p in
    (rw c.kids.ensures (omega (arith, d, k)), (rw c.kids.ensures (omega (arith, few, k)), subst (λ u. empties_term u ≡ true) is c.requires.empty))

pub put_empty_term-overflow_cast-place : goal.put_empty_term-overflow_cast-place
put_empty_term-overflow_cast-place t c =
    let kids = c.kids-alternatives.result.now in
    let within = c.empty_alternative-place.ensures.within in
    let long = length-le-count_all kids in
    let same = ap (λ us. count_all (roses_of us)) c.kids-alternatives.ensures in
    let k = node_count-kids c.args.particle.now in
    let few = c.requires.few in
    omega (arith, within, long, same, k, few)

pub put_empty_term-put_empty_value-requires : goal.put_empty_term-put_empty_value-requires
put_empty_term-put_empty_value-requires t c =
    let kids = c.kids-alternatives.result.now in
    let place = c.empty_alternative-place.result in
    let kid = c.index-alternatives-place.result in
    let at = c.empty_alternative-place.ensures.within in
    let k = kid-count-le kids place kid at c.index-alternatives-place.is in
    let same = ap (λ us. count_all (roses_of us)) c.kids-alternatives.ensures in
    let n = node_count-kids c.args.particle.now in
    let d = c.decreases in
    let few = c.requires.few in
    (omega (arith, d, k, same, n), (omega (arith, few, k, same, n), (c.empty_alternative-place.ensures.chosen kid (kid-get kids place kid at c.index-alternatives-place.is)).0))

pub put_empty_term-returns-in_ok-put_empty_parts-in-Sequence : goal.put_empty_term-returns-in_ok-put_empty_parts-in-Sequence
put_empty_term-returns-in_ok-put_empty_parts-in-Sequence t c =
    let p = c.args.particle.now in
    let kids = c.kids.result.now in
    let is : term_of p ≡ sequence (kids_seen kids) = term-by p c.label.result.now kids kinds.Sequence c.label.ensures c.kids.ensures c.in-Sequence.is in
    let begun = subst (λ fs. Puts (opened (value.Sequence fs)) c.args.values.now c.open.new.self) c.none.ensures c.in_ok-open-in-Sequence.ensures in
    puts-then (λ z. emptied (kids_seen kids) (opened (value.Sequence []) z)) closed (added (empty_term (term_of p))) _ _ _
    (λ z. sym (ap (λ u. added (empty_term u) z) is))
    (puts-both (opened (value.Sequence [])) (emptied (kids_seen kids)) _ _ _ begun c.in_ok-put_empty_parts-in-Sequence.ensures) c.close.ensures

pub put_empty_term-returns-in_ok-put_empty_value-in-Choice : goal.put_empty_term-returns-in_ok-put_empty_value-in-Choice
put_empty_term-returns-in_ok-put_empty_value-in-Choice t c =
    let p = c.args.particle.now in
    let kids = c.kids-alternatives.result.now in
    let place = c.empty_alternative-place.result in
    let kid = c.index-alternatives-place.result in
    let at = c.empty_alternative-place.ensures.within in
    let chosen = (c.empty_alternative-place.ensures.chosen kid (kid-get kids place kid at c.index-alternatives-place.is)).1 in
    let is : term_of p ≡ choice (kids_seen kids) = term-by p c.label.result.now kids kinds.Choice c.label.ensures c.kids-alternatives.ensures c.in-Choice.is in
    puts-then (λ z. added (empty_value (seen kid)) (opened (value.Choice place) z)) closed (added (empty_term (term_of p))) _ _ _
    (λ z. sym (ap (λ u. added (empty_term u) z) is
    ∙ ap (λ w. added (node (value.Choice (empty_place (kids_seen kids))) (rose.more w rose.none)) z) chosen
    ∙ ap (λ n. added (node (value.Choice n) (rose.more (empty_value (seen kid)) rose.none)) z) c.empty_alternative-place.ensures.place))
    (puts-both (opened (value.Choice place)) (added (empty_value (seen kid))) _ _ _ c.in_ok-open-in-Choice.ensures c.in_ok-put_empty_value-in-Choice.ensures) c.close-in-Choice.ensures

pub put_empty_value-put_empty_term-requires : goal.put_empty_value-put_empty_term-requires
put_empty_value-put_empty_term-requires t c =
    let p = c.args.particle.now in
    let once = sym (c.if-is_once.ensures ∙ ap (λ l. is_once l.min l.max) c.label.ensures) in
    let d = c.decreases in
    (omega (arith, d), (c.requires.few, once-empty (label_of p).min (label_of p).max (empties_term (term_of p)) once (empties-seen p c.requires.empty)))

pub put_empty_value-returns-then-is_once : goal.put_empty_value-returns-then-is_once
put_empty_value-returns-then-is_once t c =
    let p = c.args.particle.now in
    let once = sym (c.if-is_once.ensures ∙ ap (λ l. is_once l.min l.max) c.label.ensures) in
    let same = empty_value-seen p ∙ ap (λ b. cond b (empty_term (term_of p)) (node value.SequenceOf rose.none)) once in
    on-ok c.put_empty_term.result _ _
    (λ put. puts-as (added (empty_term (term_of p))) (added (empty_value (seen p))) _ _ (λ z. ap (λ v. added v z) (sym same)) put) c.put_empty_term.ensures
