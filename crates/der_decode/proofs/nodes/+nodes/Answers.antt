use Rattle.std.proofs.Common.{rules, arith, refl, sym, ap, ◌∙◌, subst, ◌≡◌, ◌-◌, ◌∷◌, [], length, true, false, None, Some, Ok, Err}
use Rattle.std.specs.Prelude.{slice_get}
use Rattle.std.proofs.lemmas.List.{length-append, length-take-le}
use Rattle.std.proofs.lemmas.Result.{err_from_is_err_and}
use Rattle.base_flat_trees.specs.Zips.{closed}
use Rattle.base_trees.specs.Rose.{Rose, label_of, kids_of}
use Rattle.simple_types.specs.declared.labels.ValueLabel.{ValueLabel}
use Rattle.asn_types.specs.declared.types.TypeLabel.{TypeLabel}
use Rattle.asn_types.specs.Modules.{AreWellFormed}
use Rattle.asn_types.specs.Parts.{parts_of}
use Rattle.asn_types.specs.Refs.{resolve}
use Rattle.asn_types.proofs.Chaining.{resolved-of-module, well-formed}
use Rattle.asn_types.specs.Roles.{role_of}
use Rattle.asn_values.specs.Values.{place_of, place_at, below, OwnAt}
use Rattle.base_codecs.specs.Reading.{◌>>=◌}
use Rattle.base_codecs.specs.Sequences.{at_most_at, items_at}
use Rattle.per_fields.specs.Levels.{levels_needed}
use Rattle.der_fields.specs.Encoding.{is_open}
use Rattle.der_fields.specs.Reading.{choice_at, never}
use Rattle.der_decode.specs.Private.Bodies.{HasKids, IsChoice, kid_at, part_read, headed_read, entered_kid}
use Rattle.der_decode.specs.Private.Newest.{newest}
use Rattle.der_decode.specs.Private.Showing.{Fails, Shows}
use Rattle.der_decode.proofs.Choices.{choice_none, chosen, ended_fails, ended_err, ended_more, ended_all, told_as, alternative-is, as_alternative, as_entered, not_entered}
use Rattle.der_decode.proofs.Heading.{open-choice, headed-open, headless, headed, contents-sequence, contents-choice, contents-many}
use Rattle.der_decode.proofs.Items.{items_end, items_more, items_fail, list_fails, list_few, list_many, list_reads}
use Rattle.der_decode.proofs.Newest.{newest-pushed, pushed-newest, closed-list, closed-one, closed-labeled}
use Rattle.der_decode.proofs.Owning.{node_plain, node_keeps, node_unowned, node_fails, free_read, part_keeps, part_unkept}
use Rattle.der_decode.proofs.Parts.{got_here, kids-parts, components_few, kid_here}
use Rattle.der_decode.proofs.Sequences.{through_none, through_there, through_absent, through_missing, through_fails, through_more, through_end, sequence_fails, sequence_reads}
use Rattle.der_decode.proofs.Shows.{shows_as, fails_as, fails_then, with_front, same_front}
use Rattle.der_decode.proofs.Types.{leaf-no_kids, kids-no_leaf, resolved-kids, resolved-levels, found_of}
use Rattle.der_decode.proofs.nodes.+nodes.Goals as goal

-- A NODE, by its form and its rule

pub node-leaf_node-requires-clause-form : goal.node-leaf_node-requires-clause-form
node-leaf_node-requires-clause-form t c =
    rw c.label.ensures at (leaf-no_kids _ c.is_leaf.result c.is_leaf.ensures c.if-is_leaf.true)

pub node-has_no_rules-requires : goal.node-has_no_rules-requires
node-has_no_rules-requires t c =
    let M = c.args.place.now.module.now in
    let u = c.args.place.now.node.now in
    subst (AreWellFormed M) (sym c.requires.place.resolved) (well-formed M (resolve M u) c.requires.place.known (resolved-of-module M u c.requires.place.of))

pub node-headed-requires : goal.node-headed-requires
node-headed-requires t c =
    let M = c.args.place.now.module.now in
    let u = c.args.place.now.node.now in
    let d = c.decreases in
    let no_leaf = rw (c.label.ensures, c.requires.place.resolved) at (kids-no_leaf _ c.is_leaf.result c.is_leaf.ensures c.if-is_leaf.false) in
    let has = subst (λ (w : Rose TypeLabel). HasKids (label_of w).form) (sym c.requires.place.resolved) (resolved-kids M c.requires.place.known u c.requires.place.of no_leaf) in
    (omega (arith, d), (c.requires.place, (has, c.requires.inside)))

pub node-ruled-requires : goal.node-ruled-requires
node-ruled-requires t c =
    let M = c.args.place.now.module.now in
    let u = c.args.place.now.node.now in
    let d = c.decreases in
    let no_leaf = rw (c.label.ensures, c.requires.place.resolved) at (kids-no_leaf _ c.is_leaf.result c.is_leaf.ensures c.if-is_leaf.false) in
    let has = subst (λ (w : Rose TypeLabel). HasKids (label_of w).form) (sym c.requires.place.resolved) (resolved-kids M c.requires.place.known u c.requires.place.of no_leaf) in
    (omega (arith, d), (c.requires.place, (has, c.requires.inside)))

pub node-returns-then-has_no_rules-clause-gives : goal.node-returns-then-has_no_rules-clause-gives
node-returns-then-has_no_rules-clause-gives t c =
    let M = c.args.place.now.module.now in
    let u = c.args.place.now.node.now in
    let v = newest c.headed.new.values.kids in
    let own = subst (λ w. (v : Rose ValueLabel) → OwnAt M (label_of w) w v) c.requires.place.resolved (c.has_no_rules.ensures c.if-has_no_rules.true) in
    node_plain M c.requires.place.known c.args.place.now.depth c.args.place.now.tag u c.requires.place.of c.args.input.octets.now c.args.input.spot v c.headed.result own c.headed.ensures.adds.text
    (subst (λ w. Shows (λ r. (v, r)) c.headed.result (headed_read M c.args.place.now.depth c.args.place.now.tag w c.args.input.octets.now c.args.input.spot)) c.requires.place.resolved c.headed.ensures.gives)

-- ITS RULE

pub ruled-headed-requires : goal.ruled-headed-requires
ruled-headed-requires t c =
    let M = c.args.place.now.module.now in
    let u = c.args.place.now.node.now in
    let d = c.decreases in
    (omega (arith, d), (c.requires.place, (c.requires.form, c.requires.inside)))

pub ruled-returns-in_err-behind-clause-gives : goal.ruled-returns-in_err-behind-clause-gives
ruled-returns-in_err-behind-clause-gives t c =
    let p = err_from_is_err_and c.from_residual.result c.from_residual.ensures.1 in
    let M = c.args.place.now.module.now in
    let v = newest c.headed.new.values.kids in
    rw (p.1, p.2) (node_fails M c.requires.place.known c.args.place.now.depth c.args.place.now.tag c.args.place.now.node.now c.requires.place.of c.args.input.octets.now c.args.input.spot c.in_err-behind.field-0.0
    (subst (λ w. Fails c.in_err-behind.field-0.0 (headed_read M c.args.place.now.depth c.args.place.now.tag w c.args.input.octets.now c.args.input.spot)) c.requires.place.resolved c.in_err-behind.ensures.gives))

pub ruled-returns-in_err-owned-clause-gives : goal.ruled-returns-in_err-owned-clause-gives
ruled-returns-in_err-owned-clause-gives t c =
    let p = err_from_is_err_and c.from_residual-in_err-owned.result c.from_residual-in_err-owned.ensures.1 in
    let M = c.args.place.now.module.now in
    let v = c.finish_one.result in
    let is : newest c.headed.new.values.kids ≡ v = ap newest c.finish_one.ensures in
    let read = rw (is, c.requires.place.resolved) at c.in_ok-behind.ensures.gives in
    rw (p.1, p.2) (node_unowned M c.requires.place.known c.args.place.now.depth c.args.place.now.tag c.args.place.now.node.now c.requires.place.of c.args.input.octets.now c.args.input.spot v c.in_ok-behind.behind read (rw is at c.in_ok-behind.ensures.adds.text) c.in_err-owned.field-0.0 c.in_err-owned.ensures.err)

pub ruled-returns-clause-pushed : goal.ruled-returns-clause-pushed
ruled-returns-clause-pushed t c = pushed-newest _ _ c.finish_one.result c.in_ok-owned.ensures.pushed

pub ruled-returns-clause-gives : goal.ruled-returns-clause-gives
ruled-returns-clause-gives t c =
    let M = c.args.place.now.module.now in
    let v = c.finish_one.result in
    let is : newest c.headed.new.values.kids ≡ v = ap newest c.finish_one.ensures in
    let read = rw (is, c.requires.place.resolved) at c.in_ok-behind.ensures.gives in
    rw (newest-pushed _ _ v c.in_ok-owned.ensures.pushed) (node_keeps M c.requires.place.known c.args.place.now.depth c.args.place.now.tag c.args.place.now.node.now c.requires.place.of c.args.input.octets.now c.args.input.spot v c.in_ok-behind.behind read (rw is at c.in_ok-behind.ensures.adds.text) c.in_ok-owned.ensures.ok)

-- WHAT IS READ before the rule

pub headed-open_choice-requires : goal.headed-open_choice-requires
headed-open_choice-requires t c =
    let d = c.decreases in
    let is = subst (λ (l : TypeLabel). IsChoice l.form) c.label.ensures (open-choice c.args.place.now.tag c.label.result.now.form (sym c.is_open.ensures ∙ c.if-is_open.true)) in
    (omega (arith, d), (c.requires.place, (is, c.requires.inside)))

pub headed-contents-requires : goal.headed-contents-requires
headed-contents-requires t c =
    let d = c.decreases in
    let few = c.in_ok-window.ensures.few in
    (omega (arith, d), (record { known = c.requires.place.known; of = c.requires.place.of; resolved = c.requires.place.resolved; few = few.0 }, (c.requires.form, omega (arith, c.in_ok-window.ensures.inside, length-take-le c.in_ok-window.window.end c.args.input.octets.now (omega (arith, c.in_ok-window.ensures.inside))))))

pub headed-returns-then-is_open-clause-gives : goal.headed-returns-then-is_open-clause-gives
headed-returns-then-is_open-clause-gives t c =
    let M = c.args.place.now.module.now in
    let u = c.args.place.now.found.now in
    let is = subst (λ (l : TypeLabel). is_open c.args.place.now.tag l.form ≡ true) c.label.ensures (sym c.is_open.ensures ∙ c.if-is_open.true) in
    shows_as _ c.open_choice.result _ _ (headed-open M (kid_at M c.args.place.now.depth) c.args.place.now.depth c.args.place.now.tag (label_of u) (kids_of u) c.args.input.octets.now c.args.input.spot is) c.open_choice.ensures.gives

pub headed-returns-in_err-window-clause-gives : goal.headed-returns-in_err-window-clause-gives
headed-returns-in_err-window-clause-gives t c =
    let p = err_from_is_err_and c.from_residual.result c.from_residual.ensures.1 in
    let isnt = subst (λ (l : TypeLabel). is_open c.args.place.now.tag l.form ≡ false) c.label.ensures (sym c.is_open.ensures ∙ c.if-is_open.false) in
    rw (p.1, p.2) (headless c.args.place.now.module.now c.args.place.now.depth c.args.place.now.tag c.args.place.now.found.now c.args.input.octets.now c.args.input.spot isnt c.in_err-window.field-0.0 (rw c.label.ensures at c.in_err-window.ensures.gives))

pub headed-returns-clause-gives : goal.headed-returns-clause-gives
headed-returns-clause-gives t c =
    let isnt = subst (λ (l : TypeLabel). is_open c.args.place.now.tag l.form ≡ false) c.label.ensures (sym c.is_open.ensures ∙ c.if-is_open.false) in
    shows_as _ c.contents.result _ _ (headed c.args.place.now.module.now c.args.place.now.depth c.args.place.now.tag c.args.place.now.found.now c.args.input.octets.now c.args.input.spot isnt c.in_ok-window.window (rw c.label.ensures at c.in_ok-window.ensures.gives)) c.contents.ensures.gives

-- CONTENTS, by the form of the type

pub contents-sequence-requires : goal.contents-sequence-requires
contents-sequence-requires t c =
    let d = c.decreases in
    let e = ap (λ (l : TypeLabel). l.form) (sym c.label.ensures) ∙ c.in-Sequence.is in
    (omega (arith, d), (c.requires.place, (rw c.items.ensures e, c.requires.inside)))

pub contents-choice-requires : goal.contents-choice-requires
contents-choice-requires t c =
    let d = c.decreases in
    let e = ap (λ (l : TypeLabel). l.form) (sym c.label.ensures) ∙ c.in-Choice.is in
    (omega (arith, d), (c.requires.place, (rw c.items-in-Choice.ensures e, c.requires.inside)))

pub contents-sequence_of-requires : goal.contents-sequence_of-requires
contents-sequence_of-requires t c =
    let d = c.decreases in
    let e = ap (λ (l : TypeLabel). l.form) (sym c.label.ensures) ∙ c.in-SequenceOf.is in
    (omega (arith, d), (c.requires.place, (e, c.requires.inside)))

pub contents-returns-in-Sequence-clause-gives : goal.contents-returns-in-Sequence-clause-gives
contents-returns-in-Sequence-clause-gives t c =
    let e = ap (λ (l : TypeLabel). l.form) (sym c.label.ensures) ∙ c.in-Sequence.is in
    shows_as _ c.sequence.result _ _ (contents-sequence c.args.place.now.module.now c.args.place.now.depth c.args.begin c.args.place.now.found.now c.args.input.octets.now c.args.input.spot _ e) (rw c.items.ensures at c.sequence.ensures.gives)

pub contents-returns-in-Choice-clause-gives : goal.contents-returns-in-Choice-clause-gives
contents-returns-in-Choice-clause-gives t c =
    let e = ap (λ (l : TypeLabel). l.form) (sym c.label.ensures) ∙ c.in-Choice.is in
    shows_as _ c.choice.result _ _ (contents-choice c.args.place.now.module.now c.args.place.now.depth c.args.begin c.args.place.now.found.now c.args.input.octets.now c.args.input.spot _ e) (rw c.items-in-Choice.ensures at c.choice.ensures.gives)

pub contents-returns-in-SequenceOf-clause-gives : goal.contents-returns-in-SequenceOf-clause-gives
contents-returns-in-SequenceOf-clause-gives t c =
    let e = ap (λ (l : TypeLabel). l.form) (sym c.label.ensures) ∙ c.in-SequenceOf.is in
    shows_as _ c.sequence_of.result _ _ (contents-many c.args.place.now.module.now c.args.place.now.depth c.args.begin c.args.place.now.found.now c.args.input.octets.now c.args.input.spot _ _ _ e) c.sequence_of.ensures.gives

-- A SEQUENCE

pub sequence-returns-in_err-behind-clause-gives : goal.sequence-returns-in_err-behind-clause-gives
sequence-returns-in_err-behind-clause-gives t c =
    let M = c.args.place.now.module.now in
    let u = c.args.place.now.found.now in
    let p = err_from_is_err_and c.from_residual-in_err-behind.result c.from_residual-in_err-behind.ensures.1 in
    rw (p.1, p.2) (sequence_fails M (kid_at M c.args.place.now.depth) (label_of u) c.args.parts.now (kids_of u) c.args.input.octets.now c.args.input.spot c.in_err-behind.field-0.0 c.in_err-behind.ensures.gives)

pub sequence-returns-clause-adds : goal.sequence-returns-clause-adds
sequence-returns-clause-adds t c = record {
  on = search rules;
  pushed = pushed-newest _ _ _ (c.close.ensures ∙ ap closed c.relabel-none.ensures.relabeled ∙ closed-labeled _ _ _ _ _ c.in_ok-open.ensures.ok c.in_ok-behind.ensures.above);
  text = rw (newest-pushed _ _ _ (c.close.ensures ∙ ap closed c.relabel-none.ensures.relabeled ∙ closed-labeled _ _ _ _ _ c.in_ok-open.ensures.ok c.in_ok-behind.ensures.above)) refl;
}

pub sequence-returns-clause-gives : goal.sequence-returns-clause-gives
sequence-returns-clause-gives t c =
    let M = c.args.place.now.module.now in
    let u = c.args.place.now.found.now in
    rw (newest-pushed _ _ _ (c.close.ensures ∙ ap closed c.relabel-none.ensures.relabeled ∙ closed-labeled _ _ _ _ _ c.in_ok-open.ensures.ok c.in_ok-behind.ensures.above))
    (sequence_reads M (kid_at M c.args.place.now.depth) (label_of u) c.args.parts.now (kids_of u) c.args.input.octets.now c.args.input.spot c.components.new.present c.components.new.values.kids c.in_ok-behind.behind c.in_ok-behind.ensures.gives)

-- ITS COMPONENTS

pub components-parts-init : goal.components-parts-init
components-parts-init t c =
    let M = c.args.place.now.module.now in
    let u = c.args.place.now.found.now in
    record {
      later = omega arith;
      inside = c.requires.inside;
      above = refl;
      through = rw (c.requires.none, c.requires.empty) (through_none M (kid_at M c.args.place.now.depth) (label_of u) c.args.parts.now (kids_of u) c.args.input.octets.now c.args.input.spot);
    }

pub components-kid-kid-requires : goal.components-kid-kid-requires
components-kid-kid-requires t c =
    let as_many = kids-parts c.args.place.now.module.now c.requires.place.known c.args.place.now.found.now (found_of c.args.place.now c.requires.place) ∙ ap (λ f. length (parts_of f)) c.requires.form in
    omega (arith, as_many, c.parts-test.true)

pub components-overflow_cast-tag : goal.components-overflow_cast-tag
components-overflow_cast-tag t c =
    omega (arith, components_few c.args.place.now.module.now c.requires.place.known c.args.place.now.found.now (found_of c.args.place.now c.requires.place) c.args.parts.now c.requires.form, c.parts-test.true)

pub components-role_of-requires : goal.components-role_of-requires
components-role_of-requires t c = rw (c.label-in-parts.ensures, c.requires.form) (omega (arith, c.parts-test.true))

pub components-component-requires : goal.components-component-requires
components-component-requires t c =
    let M = c.args.place.now.module.now in
    let u = c.args.place.now.found.now in
    let parts = c.args.parts.now in
    let i = c.parts.i in
    let kid = c.kid-kid.result.now in
    let part = c.index-parts-i.result in
    let here = got_here parts i part c.parts-test.true c.index-parts-i.is in
    let there = subst (λ f. slice_get (parts_of f) i ≡ Some part) (sym c.requires.form) here in
    let k = kid_here M c.requires.place.known u (found_of c.args.place.now c.requires.place) c.args.place.now.depth i c.below-inner.result part kid (subst HasKids (sym c.requires.form) tt) c.requires.place.few there c.kid-kid.ensures (c.below-inner.ensures.same ∙ ap (λ r. below r c.args.place.now.depth) (c.role_of.ensures ∙ ap (λ l. role_of l i part) c.label-in-parts.ensures)) in
    let d = c.decreases in
    (omega (arith, d, k.fewer, resolved-levels M c.requires.place.known c.below-inner.result kid k.of_module, ap (levels_needed M c.below-inner.result) c.resolve-to.ensures), (record { known = c.requires.place.known; of = k.of_module; resolved = c.resolve-to.ensures; few = c.below-inner.ensures.few }, c.parts.invariant.inside))

pub components-returns-clause-gives : goal.components-returns-clause-gives
components-returns-clause-gives t c =
    let M = c.args.place.now.module.now in
    let u = c.args.place.now.found.now in
    through_end M (kid_at M c.args.place.now.depth) (label_of u) c.args.parts.now (kids_of u) c.args.input.octets.now c.args.input.spot c.parts.i c.parts.present c.parts.values.kids c.parts.reached c.parts.invariant.through c.parts-test.false c.if-reached-octets.false

-- A COMPONENT, by its node and its default or fixed value

pub component-node-requires : goal.component-node-requires
component-node-requires t c =
    let d = c.decreases in
    (omega (arith, d), (c.requires.place, c.requires.inside))

pub component-standard-requires : goal.component-standard-requires
component-standard-requires t c =
    let d = c.decreases in
    (omega (arith, d), (c.requires.place, c.requires.inside))

pub component-returns-in-Free-clause-gives : goal.component-returns-in-Free-clause-gives
component-returns-in-Free-clause-gives t c =
    shows_as _ c.node.result _ _ (free_read c.args.part.now.place.module.now c.args.part.now.place.depth c.args.part.now.place.tag c.args.part.now.component.now c.args.part.now.place.node.now c.args.input.octets.now c.args.input.spot c.in-Free.is) c.node.ensures.gives

pub standard-node-requires : goal.standard-node-requires
standard-node-requires t c =
    let d = c.decreases in
    (omega (arith, d), (c.requires.place, c.requires.inside))

pub standard-returns-in_err-behind-clause-gives : goal.standard-returns-in_err-behind-clause-gives
standard-returns-in_err-behind-clause-gives t c =
    let p = err_from_is_err_and c.from_residual.result c.from_residual.ensures.1 in
    rw (p.1, p.2) (fails_then c.in_err-behind.field-0.0 _ _ c.in_err-behind.ensures.gives)

pub standard-returns-in_err-unless_standard-clause-gives : goal.standard-returns-in_err-unless_standard-clause-gives
standard-returns-in_err-unless_standard-clause-gives t c =
    let p = err_from_is_err_and c.from_residual-in_err-unless_standard.result c.from_residual-in_err-unless_standard.ensures.1 in
    let v = c.finish_one.result in
    let is : newest c.node.new.values.kids ≡ v = ap newest c.finish_one.ensures in
    rw (p.1, p.2) (part_unkept c.args.part.now.place.module.now c.args.part.now.place.depth c.args.part.now.place.tag c.args.part.now.component.now c.args.part.now.place.node.now c.args.input.octets.now c.args.input.spot v c.in_ok-behind.behind (rw is at c.in_ok-behind.ensures.gives) c.in_err-unless_standard.field-0.0 c.in_err-unless_standard.ensures.err)

pub standard-returns-clause-pushed : goal.standard-returns-clause-pushed
standard-returns-clause-pushed t c = pushed-newest _ _ c.finish_one.result c.in_ok-unless_standard.ensures.pushed

pub standard-returns-clause-gives : goal.standard-returns-clause-gives
standard-returns-clause-gives t c =
    let v = c.finish_one.result in
    let is : newest c.node.new.values.kids ≡ v = ap newest c.finish_one.ensures in
    rw (newest-pushed _ _ v c.in_ok-unless_standard.ensures.pushed) (part_keeps c.args.part.now.place.module.now c.args.part.now.place.depth c.args.part.now.place.tag c.args.part.now.component.now c.args.part.now.place.node.now c.args.input.octets.now c.args.input.spot v c.in_ok-behind.behind (rw is at c.in_ok-behind.ensures.gives) c.in_ok-unless_standard.ensures.ok)

-- A CHOICE

pub alternative-kid-kid-requires : goal.alternative-kid-kid-requires
alternative-kid-kid-requires t c =
    let as_many = kids-parts c.args.place.now.module.now c.requires.place.known c.args.place.now.found.now (found_of c.args.place.now c.requires.place) ∙ ap (λ f. length (parts_of f)) c.requires.form in
    omega (arith, as_many, c.requires.index)

pub alternative-role_of-requires : goal.alternative-role_of-requires
alternative-role_of-requires t c = rw (c.label.ensures, c.requires.form) c.requires.index

pub alternative-component-requires : goal.alternative-component-requires
alternative-component-requires t c =
    let M = c.args.place.now.module.now in
    let u = c.args.place.now.found.now in
    let parts = c.args.parts.now in
    let i = c.args.index in
    let kid = c.kid-kid.result.now in
    let part = c.index-parts-i.result in
    let here = got_here parts i part c.requires.index c.index-parts-i.is in
    let there = subst (λ f. slice_get (parts_of f) i ≡ Some part) (sym c.requires.form) here in
    let k = kid_here M c.requires.place.known u (found_of c.args.place.now c.requires.place) c.args.place.now.depth i c.below-inner.result part kid (subst HasKids (sym c.requires.form) tt) c.requires.place.few there c.kid-kid.ensures (c.below-inner.ensures.same ∙ ap (λ r. below r c.args.place.now.depth) (c.role_of.ensures ∙ ap (λ l. role_of l i part) c.label.ensures)) in
    let d = c.decreases in
    (omega (arith, d, k.fewer, resolved-levels M c.requires.place.known c.below-inner.result kid k.of_module, ap (levels_needed M c.below-inner.result) c.resolve-to.ensures), (record { known = c.requires.place.known; of = k.of_module; resolved = c.resolve-to.ensures; few = c.below-inner.ensures.few }, c.requires.inside))

-- ITEMS

pub items-items-init : goal.items-items-init
items-items-init t c = record {
  later = omega arith;
  inside = c.requires.inside;
  above = refl;
  counted = rw c.requires.empty refl;
  few = omega arith;
  so_far = let z : length c.args.input.octets.now - 0 ≡ length c.args.input.octets.now = omega arith in
      rw c.requires.empty (ap (λ n. with_front [] (at_most_at never n (part_read c.args.part.now.place.module.now c.args.part.now.place.depth c.args.part.now.place.tag c.args.part.now.component.now c.args.part.now.place.node.now) c.args.input.octets.now c.args.input.spot)) z ∙ same_front _);
}

pub items-component-requires : goal.items-component-requires
items-component-requires t c =
    let M = c.args.part.now.place.module.now in
    let d = c.decreases in
    (omega (arith, d, resolved-levels M c.requires.place.known c.args.part.now.place.depth c.args.part.now.place.node.now c.requires.place.of, ap (levels_needed M c.args.part.now.place.depth) c.requires.place.resolved), (c.requires.place, c.items.invariant.inside))

pub items-returns-clause-gives : goal.items-returns-clause-gives
items-returns-clause-gives t c =
    sym c.items.invariant.so_far ∙ items_end (part_read c.args.part.now.place.module.now c.args.part.now.place.depth c.args.part.now.place.tag c.args.part.now.component.now c.args.part.now.place.node.now) c.args.input.octets.now c.items.values.kids c.items.reached c.items.count (omega (arith, c.items-test.false))

pub open_choice-entered_choice-requires : goal.open_choice-entered_choice-requires
open_choice-entered_choice-requires t c =
    let d = c.decreases in
    let e = ap (λ (l : TypeLabel). l.form) (sym c.label.ensures) ∙ c.in-Choice.is in
    (omega (arith, d), (c.requires.place, (rw c.items.ensures e, c.requires.inside)))

pub open_choice-returns-clause-gives : goal.open_choice-returns-clause-gives
open_choice-returns-clause-gives t c =
    let e = ap (λ (l : TypeLabel). l.form) (sym c.label.ensures) ∙ c.in-Choice.is in
    rw e (rw c.items.ensures at c.entered_choice.ensures.gives)

pub entered_choice-alternative-requires : goal.entered_choice-alternative-requires
entered_choice-alternative-requires t c =
    let M = c.args.place.now.module.now in
    let u = c.args.place.now.found.now in
    let d = c.decreases in
    let ch = chosen M c.args.input.octets.now c.args.input.spot (label_of u) c.args.parts.now (kids_of u) c.in-Some.i (sym c.in-Some.ensures) in
    (omega (arith, d), (record { known = c.requires.place.known; of = c.requires.place.of; resolved = c.requires.place.resolved; few = c.in_ok-enter-in-Some.ensures.few.0 }, (c.requires.form, (ch.within, c.requires.inside))))

pub entered_choice-returns-in-None-clause-gives : goal.entered_choice-returns-in-None-clause-gives
entered_choice-returns-in-None-clause-gives t c =
    let M = c.args.place.now.module.now in
    let u = c.args.place.now.found.now in
    choice_none M c.args.input.octets.now c.args.input.spot (label_of u) c.args.parts.now (kids_of u) (entered_kid M c.args.place.now.depth) (sym c.in-None.ensures) ∙ ap Err (sym c.unexpected.ensures)

pub entered_choice-returns-in_err-enter-in-Some-clause-gives : goal.entered_choice-returns-in_err-enter-in-Some-clause-gives
entered_choice-returns-in_err-enter-in-Some-clause-gives t c =
    let M = c.args.place.now.module.now in
    let u = c.args.place.now.found.now in
    let p = err_from_is_err_and c.from_residual.result c.from_residual.ensures.1 in
    let ch = chosen M c.args.input.octets.now c.args.input.spot (label_of u) c.args.parts.now (kids_of u) c.in-Some.i (sym c.in-Some.ensures) in
    rw (p.1, p.2) (not_entered M c.args.place.now.depth u c.args.parts.now c.args.input.octets.now c.in-Some.i c.args.input.spot ch c.in_err-enter-in-Some.ensures.err.0 ∙ ap Err (sym c.in_err-enter-in-Some.ensures.err.1))

pub entered_choice-returns-in_ok-enter-in-Some-clause-gives : goal.entered_choice-returns-in_ok-enter-in-Some-clause-gives
entered_choice-returns-in_ok-enter-in-Some-clause-gives t c =
    let M = c.args.place.now.module.now in
    let u = c.args.place.now.found.now in
    let ch = chosen M c.args.input.octets.now c.args.input.spot (label_of u) c.args.parts.now (kids_of u) c.in-Some.i (sym c.in-Some.ensures) in
    shows_as _ c.alternative.result _ _ (as_entered M c.args.place.now.depth u c.args.parts.now c.args.input.octets.now c.in-Some.i c.args.input.spot ch c.in_ok-enter-in-Some.ensures.ok) c.alternative.ensures.gives

pub choice-alternative-requires : goal.choice-alternative-requires
choice-alternative-requires t c =
    let M = c.args.place.now.module.now in
    let u = c.args.place.now.found.now in
    let d = c.decreases in
    let ch = chosen M c.args.input.octets.now c.args.input.spot (label_of u) c.args.parts.now (kids_of u) c.in-Some.i (sym c.in-Some.ensures) in
    (omega (arith, d), (c.requires.place, (c.requires.form, (ch.within, c.requires.inside))))

pub choice-returns-in-None-clause-gives : goal.choice-returns-in-None-clause-gives
choice-returns-in-None-clause-gives t c =
    let M = c.args.place.now.module.now in
    let u = c.args.place.now.found.now in
    ended_err (choice_at M (kid_at M c.args.place.now.depth) (label_of u) (kids_of u) c.args.parts.now) c.args.input.octets.now c.args.input.spot c.unexpected.result
    (choice_none M c.args.input.octets.now c.args.input.spot (label_of u) c.args.parts.now (kids_of u) (kid_at M c.args.place.now.depth) (sym c.in-None.ensures) ∙ ap Err (sym c.unexpected.ensures))

pub choice-returns-in_err-behind-in-Some-clause-gives : goal.choice-returns-in_err-behind-in-Some-clause-gives
choice-returns-in_err-behind-in-Some-clause-gives t c =
    let M = c.args.place.now.module.now in
    let u = c.args.place.now.found.now in
    let p = err_from_is_err_and c.from_residual.result c.from_residual.ensures.1 in
    let ch = chosen M c.args.input.octets.now c.args.input.spot (label_of u) c.args.parts.now (kids_of u) c.in-Some.i (sym c.in-Some.ensures) in
    rw (p.1, p.2) (ended_fails (choice_at M (kid_at M c.args.place.now.depth) (label_of u) (kids_of u) c.args.parts.now) c.args.input.octets.now c.args.input.spot c.in_err-behind-in-Some.field-0.0
    (fails_as c.in_err-behind-in-Some.field-0.0 _ _ (as_alternative M c.args.place.now.depth u c.args.parts.now c.args.input.octets.now c.in-Some.i c.args.input.spot ch) c.in_err-behind-in-Some.ensures.gives))

pub choice-returns-else-behind-octets-clause-gives : goal.choice-returns-else-behind-octets-clause-gives
choice-returns-else-behind-octets-clause-gives t c =
    let M = c.args.place.now.module.now in
    let u = c.args.place.now.found.now in
    let ch = chosen M c.args.input.octets.now c.args.input.spot (label_of u) c.args.parts.now (kids_of u) c.in-Some.i (sym c.in-Some.ensures) in
    ended_all (choice_at M (kid_at M c.args.place.now.depth) (label_of u) (kids_of u) c.args.parts.now) c.args.input.octets.now c.args.input.spot _ c.in_ok-behind-in-Some.behind
    (as_alternative M c.args.place.now.depth u c.args.parts.now c.args.input.octets.now c.in-Some.i c.args.input.spot ch ∙ c.in_ok-behind-in-Some.ensures.gives) c.if-behind-octets.false

pub alternative-returns-in_err-behind-clause-gives : goal.alternative-returns-in_err-behind-clause-gives
alternative-returns-in_err-behind-clause-gives t c =
    let M = c.args.place.now.module.now in
    let u = c.args.place.now.found.now in
    let parts = c.args.parts.now in
    let i = c.args.index in
    let part = c.index-parts-i.result in
    let p = err_from_is_err_and c.from_residual-in_err-behind.result c.from_residual-in_err-behind.ensures.1 in
    let here = got_here parts i part c.requires.index c.index-parts-i.is in
    let inner_is = c.below-inner.ensures.same ∙ ap (λ r. below r c.args.place.now.depth) (c.role_of.ensures ∙ ap (λ l. role_of l i part) c.label.ensures) in
    rw (p.1, p.2) (fails_as c.in_err-behind.field-0.0 _ _ (alternative-is M c.args.place.now.depth u parts c.args.input.octets.now i c.below-inner.result part c.kid-kid.result.now c.args.input.spot here c.kid-kid.ensures inner_is) (fails_then c.in_err-behind.field-0.0 _ _ c.in_err-behind.ensures.gives))

pub alternative-returns-clause-adds : goal.alternative-returns-clause-adds
alternative-returns-clause-adds t c = record {
  on = search rules;
  pushed = pushed-newest _ _ _ (c.close.ensures ∙ closed-one _ _ _ _ _ c.in_ok-open.ensures.ok c.in_ok-behind.ensures.pushed);
  text = rw (newest-pushed _ _ _ (c.close.ensures ∙ closed-one _ _ _ _ _ c.in_ok-open.ensures.ok c.in_ok-behind.ensures.pushed)) refl;
}

pub alternative-returns-clause-gives : goal.alternative-returns-clause-gives
alternative-returns-clause-gives t c =
    let M = c.args.place.now.module.now in
    let u = c.args.place.now.found.now in
    let parts = c.args.parts.now in
    let i = c.args.index in
    let part = c.index-parts-i.result in
    let here = got_here parts i part c.requires.index c.index-parts-i.is in
    let inner_is = c.below-inner.ensures.same ∙ ap (λ r. below r c.args.place.now.depth) (c.role_of.ensures ∙ ap (λ l. role_of l i part) c.label.ensures) in
    rw (newest-pushed _ _ _ (c.close.ensures ∙ closed-one _ _ _ _ _ c.in_ok-open.ensures.ok c.in_ok-behind.ensures.pushed))
    (alternative-is M c.args.place.now.depth u parts c.args.input.octets.now i c.below-inner.result part c.kid-kid.result.now c.args.input.spot here c.kid-kid.ensures inner_is
    ∙ ap (λ k. k >>= told_as i) c.in_ok-behind.ensures.gives)

-- A SEQUENCE OF

pub sequence_of-kid-item-requires : goal.sequence_of-kid-item-requires
sequence_of-kid-item-requires t c =
    let as_many = kids-parts c.args.place.now.module.now c.requires.place.known c.args.place.now.found.now (found_of c.args.place.now c.requires.place) ∙ ap (λ f. length (parts_of f)) c.requires.form in
    omega (arith, as_many)

pub sequence_of-role_of-requires : goal.sequence_of-role_of-requires
sequence_of-role_of-requires t c = rw (c.label.ensures, c.requires.form) (omega arith)

pub sequence_of-items-requires : goal.sequence_of-items-requires
sequence_of-items-requires t c =
    let M = c.args.place.now.module.now in
    let u = c.args.place.now.found.now in
    let part = c.args.list.part.now in
    let item = c.kid-item.result.now in
    let is_part : slice_get (parts_of (label_of u).form) 0 ≡ Some part = ap (λ f. slice_get (parts_of f) 0) c.requires.form in
    let k = kid_here M c.requires.place.known u (found_of c.args.place.now c.requires.place) c.args.place.now.depth 0 c.below-inner.result part item (subst HasKids (sym c.requires.form) tt) c.requires.place.few is_part c.kid-item.ensures (c.below-inner.ensures.same ∙ ap (λ r. below r c.args.place.now.depth) (c.role_of.ensures ∙ ap (λ l. role_of l 0 part) c.label.ensures)) in
    let d = c.decreases in
    (omega (arith, d, k.fewer), (record { known = c.requires.place.known; of = k.of_module; resolved = c.resolve-to.ensures; few = c.below-inner.ensures.few }, (ap (λ z. z.kids) c.in_ok-open.ensures.ok, c.requires.inside)))

pub choice-returns-then-behind-octets-clause-gives : goal.choice-returns-then-behind-octets-clause-gives
choice-returns-then-behind-octets-clause-gives t c =
    let M = c.args.place.now.module.now in
    let u = c.args.place.now.found.now in
    let ch = chosen M c.args.input.octets.now c.args.input.spot (label_of u) c.args.parts.now (kids_of u) c.in-Some.i (sym c.in-Some.ensures) in
    ended_more (choice_at M (kid_at M c.args.place.now.depth) (label_of u) (kids_of u) c.args.parts.now) c.args.input.octets.now c.args.input.spot _ c.in_ok-behind-in-Some.behind
    (as_alternative M c.args.place.now.depth u c.args.parts.now c.args.input.octets.now c.in-Some.i c.args.input.spot ch ∙ c.in_ok-behind-in-Some.ensures.gives) c.if-behind-octets.true

-- THE TURNS of a SEQUENCE

pub components-begins_so-requires : goal.components-begins_so-requires
components-begins_so-requires t c = c.parts.invariant.inside

pub components-returns-then-not-part-clause-gives : goal.components-returns-then-not-part-clause-gives
components-returns-then-not-part-clause-gives t c =
    let M = c.args.place.now.module.now in
    let u = c.args.place.now.found.now in
    let i = c.parts.i in
    let part = c.index-parts-i.result in
    let here = got_here c.args.parts.now i part c.parts-test.true c.index-parts-i.is in
    let same = c.label.ensures ∙ ap label_of c.resolve-to.ensures in
    through_missing M (kid_at M c.args.place.now.depth) (label_of u) c.args.parts.now (kids_of u) c.args.input.octets.now c.args.input.spot i c.parts.present c.parts.values.kids c.parts.reached c.parts.invariant.through part c.kid-kid.result.now here c.kid-kid.ensures
    (rw same at (sym c.begins_so.ensures ∙ c.if-not-begins_so.true)) c.if-not-part.true ∙ ap Err (sym c.unexpected.ensures)

pub components-parts-preserved-then-not-begins_so : goal.components-parts-preserved-then-not-begins_so
components-parts-preserved-then-not-begins_so t c =
    let M = c.args.place.now.module.now in
    let u = c.args.place.now.found.now in
    let i = c.parts.i in
    let part = c.index-parts-i.result in
    let here = got_here c.args.parts.now i part c.parts-test.true c.index-parts-i.is in
    let same = c.label.ensures ∙ ap label_of c.resolve-to.ensures in
    record {
      later = c.parts.invariant.later;
      inside = c.parts.invariant.inside;
      above = c.parts.invariant.above;
      through = rw c.in_ok-push.ensures (through_absent M (kid_at M c.args.place.now.depth) (label_of u) c.args.parts.now (kids_of u) c.args.input.octets.now c.args.input.spot i c.parts.present c.parts.values.kids c.parts.reached c.parts.invariant.through part c.kid-kid.result.now here c.kid-kid.ensures
          (rw same at (sym c.begins_so.ensures ∙ c.if-not-begins_so.true)) c.if-not-part.false);
    }

pub components-returns-in_err-reached-clause-gives : goal.components-returns-in_err-reached-clause-gives
components-returns-in_err-reached-clause-gives t c =
    let M = c.args.place.now.module.now in
    let u = c.args.place.now.found.now in
    let i = c.parts.i in
    let part = c.index-parts-i.result in
    let kid = c.kid-kid.result.now in
    let p = err_from_is_err_and c.from_residual-in_err-reached.result c.from_residual-in_err-reached.ensures.1 in
    let here = got_here c.args.parts.now i part c.parts-test.true c.index-parts-i.is in
    let same = c.label.ensures ∙ ap label_of c.resolve-to.ensures in
    let inner_is = c.below-inner.ensures.same ∙ ap (λ r. below r c.args.place.now.depth) (c.role_of.ensures ∙ ap (λ l. role_of l i part) c.label-in-parts.ensures) in
    rw (p.1, p.2) (through_fails M (kid_at M c.args.place.now.depth) (label_of u) c.args.parts.now (kids_of u) c.args.input.octets.now c.args.input.spot i c.parts.present c.parts.values.kids c.parts.reached c.parts.invariant.through part kid here c.kid-kid.ensures
    (rw same at (sym c.begins_so.ensures ∙ c.if-not-begins_so.false)) c.in_err-reached.field-0.0
    (subst (λ n. Fails c.in_err-reached.field-0.0 (part_read M n (Some i) part kid c.args.input.octets.now c.parts.reached)) inner_is c.in_err-reached.ensures.gives))

pub components-parts-preserved : goal.components-parts-preserved
components-parts-preserved t c =
    let M = c.args.place.now.module.now in
    let u = c.args.place.now.found.now in
    let i = c.parts.i in
    let part = c.index-parts-i.result in
    let kid = c.kid-kid.result.now in
    let here = got_here c.args.parts.now i part c.parts-test.true c.index-parts-i.is in
    let same = c.label.ensures ∙ ap label_of c.resolve-to.ensures in
    let inner_is = c.below-inner.ensures.same ∙ ap (λ r. below r c.args.place.now.depth) (c.role_of.ensures ∙ ap (λ l. role_of l i part) c.label-in-parts.ensures) in
    let v = newest c.component.new.values.kids in
    let r = c.in_ok-reached.reached in
    let read = subst (λ n. part_read M n (Some i) part kid c.args.input.octets.now c.parts.reached ≡ Ok (v, r)) inner_is c.in_ok-reached.ensures.gives in
    let pushed = ap (λ z. z.kids) c.in_ok-reached.ensures.pushed in
    record {
      later = omega (arith, c.in_ok-reached.ensures.on, c.parts.invariant.later);
      inside = omega (arith, c.in_ok-reached.ensures.on);
      above = ap (λ z. z.above) c.in_ok-reached.ensures.pushed ∙ c.parts.invariant.above;
      through = rw (c.in_ok-push-2.ensures, pushed) (through_there M (kid_at M c.args.place.now.depth) (label_of u) c.args.parts.now (kids_of u) c.args.input.octets.now c.args.input.spot i c.parts.present c.parts.values.kids c.parts.reached c.parts.invariant.through part kid here c.kid-kid.ensures
          (rw same at (sym c.begins_so.ensures ∙ c.if-not-begins_so.false)) v r read);
    }

pub components-returns-then-reached-octets-clause-gives : goal.components-returns-then-reached-octets-clause-gives
components-returns-then-reached-octets-clause-gives t c =
    let M = c.args.place.now.module.now in
    let u = c.args.place.now.found.now in
    through_more M (kid_at M c.args.place.now.depth) (label_of u) c.args.parts.now (kids_of u) c.args.input.octets.now c.args.input.spot c.parts.i c.parts.present c.parts.values.kids c.parts.reached c.parts.invariant.through c.parts-test.false c.if-reached-octets.true
    ∙ ap Err (sym c.unexpected-then-reached-octets.ensures)

-- THE TURNS of a SEQUENCE OF

pub items-returns-in_err-reached-clause-gives : goal.items-returns-in_err-reached-clause-gives
items-returns-in_err-reached-clause-gives t c =
    let p = err_from_is_err_and c.from_residual.result c.from_residual.ensures.1 in
    rw (p.1, p.2) (fails_as c.in_err-reached.field-0.0 _ _ (sym c.items.invariant.so_far)
    (items_fail (part_read c.args.part.now.place.module.now c.args.part.now.place.depth c.args.part.now.place.tag c.args.part.now.component.now c.args.part.now.place.node.now) c.args.input.octets.now c.items.values.kids c.items.reached c.items.count (omega (arith, c.items.invariant.few, c.items-test.true)) c.items-test.true c.in_err-reached.field-0.0 c.in_err-reached.ensures.gives))

pub items-overflow_add-count : goal.items-overflow_add-count
items-overflow_add-count t c = omega (arith, c.items.invariant.few, c.items-test.true)

pub items-items-preserved : goal.items-items-preserved
items-items-preserved t c =
    let v = newest c.component.new.values.kids in
    let pushed = ap (λ z. z.kids) c.in_ok-reached.ensures.pushed in
    record {
      later = omega (arith, c.in_ok-reached.ensures.on, c.items.invariant.later);
      inside = omega (arith, c.in_ok-reached.ensures.on);
      above = ap (λ z. z.above) c.in_ok-reached.ensures.pushed ∙ c.items.invariant.above;
      counted = rw pushed (omega (arith, c.items.invariant.counted, length-append c.items.values.kids (v ∷ [])));
      few = omega (arith, c.in_ok-reached.ensures.on, c.items.invariant.few);
      so_far = rw pushed (sym (items_more (part_read c.args.part.now.place.module.now c.args.part.now.place.depth c.args.part.now.place.tag c.args.part.now.component.now c.args.part.now.place.node.now) c.args.input.octets.now c.items.values.kids c.items.reached c.items.count (omega (arith, c.items.invariant.few, c.items-test.true)) c.items-test.true v c.in_ok-reached.reached c.in_ok-reached.ensures.gives) ∙ c.items.invariant.so_far);
    }

-- THEIR COUNT

pub sequence_of-returns-in_err-read-clause-gives : goal.sequence_of-returns-in_err-read-clause-gives
sequence_of-returns-in_err-read-clause-gives t c =
    let M = c.args.place.now.module.now in
    let u = c.args.place.now.found.now in
    let part = c.args.list.part.now in
    let item = c.kid-item.result.now in
    let p = err_from_is_err_and c.from_residual-in_err-read.result c.from_residual-in_err-read.ensures.1 in
    let inner_is = c.below-inner.ensures.same ∙ ap (λ r. below r c.args.place.now.depth) (c.role_of.ensures ∙ ap (λ l. role_of l 0 part) c.label.ensures) in
    let is_place : place_at (label_of u) 0 (Some part) (slice_get (kids_of u) 0) ≡ Some (place_of (label_of u) 0 part item) = ap (λ o. place_at (label_of u) 0 (Some part) o) c.kid-item.ensures in
    rw (p.1, p.2) (rw is_place (list_fails (kid_at M c.args.place.now.depth) c.args.begin c.args.list.min c.args.list.max (place_of (label_of u) 0 part item) c.args.input.octets.now c.args.input.spot c.in_err-read.field-0.0
    (subst (λ n. Fails c.in_err-read.field-0.0 (items_at never (part_read M n None part item) c.args.input.octets.now c.args.input.spot)) inner_is c.in_err-read.ensures.gives)))

pub sequence_of-returns-then-read-list-clause-gives : goal.sequence_of-returns-then-read-list-clause-gives
sequence_of-returns-then-read-list-clause-gives t c =
    let M = c.args.place.now.module.now in
    let u = c.args.place.now.found.now in
    let part = c.args.list.part.now in
    let item = c.kid-item.result.now in
    let vs = c.items.new.values.kids in
    let r = c.in_ok-read.read.0 in
    let inner_is = c.below-inner.ensures.same ∙ ap (λ r. below r c.args.place.now.depth) (c.role_of.ensures ∙ ap (λ l. role_of l 0 part) c.label.ensures) in
    let is_place : place_at (label_of u) 0 (Some part) (slice_get (kids_of u) 0) ≡ Some (place_of (label_of u) 0 part item) = ap (λ o. place_at (label_of u) 0 (Some part) o) c.kid-item.ensures in
    let read = subst (λ n. items_at never (part_read M n None part item) c.args.input.octets.now c.args.input.spot ≡ Ok (vs, r)) inner_is c.in_ok-read.ensures.gives in
    rw is_place (list_few (kid_at M c.args.place.now.depth) c.args.begin c.args.list.min c.args.list.max (place_of (label_of u) 0 part item) c.args.input.octets.now c.args.input.spot vs r read (omega (arith, c.if-read-list.true, c.in_ok-read.ensures.count)))

pub sequence_of-returns-then-not-is_at_most-clause-gives : goal.sequence_of-returns-then-not-is_at_most-clause-gives
sequence_of-returns-then-not-is_at_most-clause-gives t c =
    let M = c.args.place.now.module.now in
    let u = c.args.place.now.found.now in
    let part = c.args.list.part.now in
    let item = c.kid-item.result.now in
    let vs = c.items.new.values.kids in
    let r = c.in_ok-read.read.0 in
    let inner_is = c.below-inner.ensures.same ∙ ap (λ r. below r c.args.place.now.depth) (c.role_of.ensures ∙ ap (λ l. role_of l 0 part) c.label.ensures) in
    let is_place : place_at (label_of u) 0 (Some part) (slice_get (kids_of u) 0) ≡ Some (place_of (label_of u) 0 part item) = ap (λ o. place_at (label_of u) 0 (Some part) o) c.kid-item.ensures in
    let read = subst (λ n. items_at never (part_read M n None part item) c.args.input.octets.now c.args.input.spot ≡ Ok (vs, r)) inner_is c.in_ok-read.ensures.gives in
    rw is_place (list_many (kid_at M c.args.place.now.depth) c.args.begin c.args.list.min c.args.list.max (place_of (label_of u) 0 part item) c.args.input.octets.now c.args.input.spot vs r read (omega (arith, c.if-read-list.false, c.in_ok-read.ensures.count))
    (rw c.in_ok-read.ensures.count at (sym c.is_at_most.ensures ∙ c.if-not-is_at_most.true)))

pub sequence_of-returns-clause-adds : goal.sequence_of-returns-clause-adds
sequence_of-returns-clause-adds t c = record {
  on = search rules;
  pushed = pushed-newest _ _ _ (c.close.ensures ∙ closed-list _ _ _ _ c.in_ok-open.ensures.ok c.in_ok-read.ensures.above);
  text = rw (newest-pushed _ _ _ (c.close.ensures ∙ closed-list _ _ _ _ c.in_ok-open.ensures.ok c.in_ok-read.ensures.above)) refl;
}

pub sequence_of-returns-clause-gives : goal.sequence_of-returns-clause-gives
sequence_of-returns-clause-gives t c =
    let M = c.args.place.now.module.now in
    let u = c.args.place.now.found.now in
    let part = c.args.list.part.now in
    let item = c.kid-item.result.now in
    let vs = c.items.new.values.kids in
    let r = c.in_ok-read.read.0 in
    let inner_is = c.below-inner.ensures.same ∙ ap (λ r. below r c.args.place.now.depth) (c.role_of.ensures ∙ ap (λ l. role_of l 0 part) c.label.ensures) in
    let is_place : place_at (label_of u) 0 (Some part) (slice_get (kids_of u) 0) ≡ Some (place_of (label_of u) 0 part item) = ap (λ o. place_at (label_of u) 0 (Some part) o) c.kid-item.ensures in
    let read = subst (λ n. items_at never (part_read M n None part item) c.args.input.octets.now c.args.input.spot ≡ Ok (vs, r)) inner_is c.in_ok-read.ensures.gives in
    rw (newest-pushed _ _ _ (c.close.ensures ∙ closed-list _ _ _ _ c.in_ok-open.ensures.ok c.in_ok-read.ensures.above))
    (rw is_place (list_reads (kid_at M c.args.place.now.depth) c.args.begin c.args.list.min c.args.list.max (place_of (label_of u) 0 part item) c.args.input.octets.now c.args.input.spot vs r read (omega (arith, c.if-read-list.false, c.in_ok-read.ensures.count))
    (rw c.in_ok-read.ensures.count at (sym c.is_at_most.ensures ∙ c.if-not-is_at_most.false))))
