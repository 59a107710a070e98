use Rattle.std.proofs.Common.{true, false, inl, inr, IfOk, refl, sym, ap, subst, ◌∙◌, arith}
use Rattle.std.proofs.lemmas.List.{drop_all}
use Rattle.base_trees.specs.Rose.{roses_of, kids_of, count_all}
use Rattle.base_trees.proofs.Roses.{node_count-kids, node_count-positive}
use Rattle.base_trees.proofs.Kids.{roses_of-drop, kid-count-le}
use Rattle.content_models.specs.Seen.{term_seen, seen, all_seen}
use Rattle.map_assignments.specs.Plans.{base, finish}
use Rattle.map_assignments.specs.Planning.{simple_type, attributes, is_mixed, is_ordered, with_texts, with_order, order_plan, rest_parts, content_parts, content_type, top, term_type, particle_parts}
use Rattle.map_assignments.specs.Naming.{IsNamed}
use Rattle.map_assignments.specs.Private.Placing.{place_of}
use Rattle.map_assignments.specs.Private.Building.{LeadsToNamed, declared, AreKnown}
use Rattle.map_assignments.proofs.Building.{on_ok, if_ok, adds-marked, adds-next, leads-init, named-sequence, named-choice}
use Rattle.map_assignments.proofs.Known.{known-element, known-kids, known-alternatives, known-all, known-kid, term-parts}
use Rattle.map_assignments.proofs.Models.{plain-sequence, group-type, content-sequence, top-plain, top-other, parts-more}
use Rattle.map_assignments.proofs.mapper.Mapper.+content.Goals as goal

pub complex_type-returns : goal.complex_type-returns
complex_type-returns t c =
    let s = c.args.self.set.now in
    let place = place_of c.args.self.places.now in
    let d = c.args.definition.now in
    let T = declared s c.args.levels in
    let rest = rest_parts T s c.args.nillable d.content in
    let whole = with_texts (is_mixed d.content) (with_order (is_ordered d.content) (order_plan T s c.args.nillable d) (attributes s d.uses rest)) in
    if_ok c.marked_sequence.result _ _
    (λ made h. h place whole (c.in_ok-push_rest.ensures whole (c.in_ok-parts.ensures T rest)))
    c.marked_sequence.ensures

pub content_type-returns : goal.content_type-returns
content_type-returns t c =
    let s = c.args.self.set.now in
    let place = place_of c.args.self.places.now in
    let T = declared s c.args.levels in
    let whole = content_parts T s c.args.content.now in
    let new = c.new-parts in
    subst (λ p. IsNamed place p c.into_sequence.result) (sym (content-sequence T s c.args.content.now c.in_default.not-Simple))
    (named-sequence place c.push_content.new.parts c.into_sequence.result c.of-marks.result false false false whole c.into_sequence.ensures (c.of-marks.ensures ∙ c.new.ensures.items)
    (c.in_ok-push_content.ensures whole (leads-init place new.result whole new.ensures.scope new.ensures.components new.ensures.kids)))

pub push_content-returns-in_ok-kid-in-Simple : goal.push_content-returns-in_ok-kid-in-Simple
push_content-returns-in_ok-kid-in-Simple t c =
    let s = c.args.self.set.now in
    let place = place_of c.args.self.places.now in
    let T = declared s c.args.levels in
    let kid = c.in_ok-kid-in-Simple.kid in
    on_ok c.push_untagged.result _ _
    (λ added whole lead.
    adds-next place c.args.parts.now c.push_untagged.new.parts base false (simple_type s c.in-Simple.n) kid finish whole
    (adds-marked c.args.parts.now c.push_untagged.new.parts base _ _ false kid refl refl (λ g. refl) added) c.in_ok-kid-in-Simple.ensures
    (subst (λ k. LeadsToNamed place c.args.parts.now (content_parts T s k) whole) c.in-Simple.is lead))
    c.push_untagged.ensures

pub push_content-returns-in-ElementOnly : goal.push_content-returns-in-ElementOnly
push_content-returns-in-ElementOnly t c =
    let s = c.args.self.set.now in
    let place = place_of c.args.self.places.now in
    let T = declared s c.args.levels in
    on_ok c.push_top.result _ _
    (λ h whole lead. h whole (subst (λ p. LeadsToNamed place c.args.parts.now (top T (seen p)) whole) (sym c.root.ensures.root)
    (subst (λ k. LeadsToNamed place c.args.parts.now (content_parts T s k) whole) c.in-ElementOnly.is lead)))
    c.push_top.ensures

pub push_content-returns-in-Mixed : goal.push_content-returns-in-Mixed
push_content-returns-in-Mixed t c =
    let s = c.args.self.set.now in
    let place = place_of c.args.self.places.now in
    let T = declared s c.args.levels in
    on_ok c.push_top-in-Mixed.result _ _
    (λ h whole lead. h whole (subst (λ p. LeadsToNamed place c.args.parts.now (top T (seen p)) whole) (sym c.root-in-Mixed.ensures.root)
    (subst (λ k. LeadsToNamed place c.args.parts.now (content_parts T s k) whole) c.in-Mixed.is lead)))
    c.push_top-in-Mixed.ensures

pub push_rest-returns-in_ok-kid : goal.push_rest-returns-in_ok-kid
push_rest-returns-in_ok-kid t c =
    let s = c.args.self.set.now in
    let place = place_of c.args.self.places.now in
    let T = declared s c.args.levels in
    on_ok c.push_nillable.result _ _
    (λ h whole lead. h place (content_type T s c.args.content.now) whole c.in_ok-kid.ensures
    (subst (λ b. LeadsToNamed place c.args.parts.now (rest_parts T s b c.args.content.now) whole) c.if-nillable.true lead))
    c.push_nillable.ensures

pub push_rest-returns-else-nillable : goal.push_rest-returns-else-nillable
push_rest-returns-else-nillable t c =
    let s = c.args.self.set.now in
    let place = place_of c.args.self.places.now in
    let T = declared s c.args.levels in
    on_ok c.push_content.result _ _
    (λ h whole lead. h whole (subst (λ b. LeadsToNamed place c.args.parts.now (rest_parts T s b c.args.content.now) whole) c.if-nillable.false lead))
    c.push_content.ensures

pub push_top-push_particles-requires : goal.push_top-push_particles-requires
push_top-push_particles-requires t c =
    let particle = c.args.particle.now in
    let l = c.label-label.result.now in
    let below = c.kids.ensures in
    let now = c.decreases in
    let fewer = ap (λ ts. count_all (roses_of ts)) below in
    let all = node_count-kids particle in
    let known : AreKnown c.args.self.set.now c.kids.result.now = elim (plain-sequence l.kind l.min l.max (sym c.stands_as_parts.ensures ∙ c.if-stands_as_parts.true)) [
      | inl kind ↦ known-kids c.args.self.set.now particle l c.kids.result.now c.requires.known c.label-label.ensures below kind
      | inr kind ↦ known-all c.args.self.set.now particle l c.kids.result.now c.requires.known c.label-label.ensures below kind
    ] in
    (omega (arith, now, fewer, all), (c.requires.linked, known))

pub push_top-returns-then-stands_as_parts : goal.push_top-returns-then-stands_as_parts
push_top-returns-then-stands_as_parts t c =
    let place = place_of c.args.self.places.now in
    let T = declared c.args.self.set.now c.args.levels in
    on_ok c.push_particles.result _ _
    (λ h whole lead. h whole (subst (λ ps. LeadsToNamed place c.args.parts.now ps whole)
    (top-plain T c.args.particle.now c.label-label.result.now c.kids.result.now c.label-label.ensures c.kids.ensures (sym c.stands_as_parts.ensures ∙ c.if-stands_as_parts.true)) lead))
    c.push_particles.ensures

pub push_top-returns : goal.push_top-returns
push_top-returns t c =
    let place = place_of c.args.self.places.now in
    let T = declared c.args.self.set.now c.args.levels in
    let particle = c.args.particle.now in
    on_ok c.push_particle.result _ _
    (λ h whole lead. h place (all_seen (roses_of (kids_of particle))) _ finish whole c.in_ok-kid.ensures (subst (λ ps. LeadsToNamed place c.args.parts.now ps whole)
    (top-other T particle c.label-label.result.now (kids_of particle) c.label-label.ensures refl (sym c.stands_as_parts.ensures ∙ c.if-stands_as_parts.false)) lead))
    c.push_particle.ensures

pub term_type-particle_type-requires : goal.term_type-particle_type-requires
term_type-particle_type-requires t c =
    let particle = c.args.particle.now in
    let some = node_count-positive particle in
    let now = c.decreases in
    (omega (arith, now, some), (c.requires.linked, known-element c.args.self.set.now particle c.label.result.now c.in-Element.decl _ c.requires.known c.label.ensures c.in-Element.is))

pub term_type-sequence_type-requires : goal.term_type-sequence_type-requires
term_type-sequence_type-requires t c =
    let particle = c.args.particle.now in
    let below = c.kids.ensures in
    let now = c.decreases in
    let fewer = ap (λ ts. count_all (roses_of ts)) below in
    let all = node_count-kids particle in
    let known : AreKnown c.args.self.set.now c.kids.result.now = elim c.in-Sequence.is [
      | inl kind ↦ known-kids c.args.self.set.now particle c.label.result.now c.kids.result.now c.requires.known c.label.ensures below kind
      | inr kind ↦ known-all c.args.self.set.now particle c.label.result.now c.kids.result.now c.requires.known c.label.ensures below kind
    ] in
    (omega (arith, now, fewer, all), (c.requires.linked, known))

pub term_type-choice_type-requires : goal.term_type-choice_type-requires
term_type-choice_type-requires t c =
    let particle = c.args.particle.now in
    let below = c.kids-in-Choice.ensures in
    let now = c.decreases in
    let fewer = ap (λ ts. count_all (roses_of ts)) below in
    let all = node_count-kids particle in
    (omega (arith, now, fewer, all), (c.requires.linked, known-alternatives c.args.self.set.now particle c.label.result.now c.kids-in-Choice.result.now c.requires.known c.label.ensures below c.in-Choice.is))

pub term_type-returns-in-Sequence : goal.term_type-returns-in-Sequence
term_type-returns-in-Sequence t c =
    let place = place_of c.args.self.places.now in
    let T = declared c.args.self.set.now c.args.levels in
    let ps = all_seen (roses_of c.kids.result.now) in
    subst (λ p. IfOk c.sequence_type.result (λ made. IsNamed place p made))
    (sym (ap (term_type T) (term-parts c.args.particle.now c.label.result.now c.kids.result.now c.label.ensures c.kids.ensures) ∙ group-type T c.label.result.now.kind ps c.in-Sequence.is))
    c.sequence_type.ensures

pub term_type-returns-in-Choice : goal.term_type-returns-in-Choice
term_type-returns-in-Choice t c =
    let place = place_of c.args.self.places.now in
    let T = declared c.args.self.set.now c.args.levels in
    let ps = all_seen (roses_of c.kids-in-Choice.result.now) in
    subst (λ m. IfOk c.choice_type.result (λ made. IsNamed place (term_type T m) made))
    (sym (term-parts c.args.particle.now c.label.result.now c.kids-in-Choice.result.now c.label.ensures c.kids-in-Choice.ensures ∙ ap (λ k. term_seen k ps) c.in-Choice.is))
    c.choice_type.ensures

pub sequence_type-returns : goal.sequence_type-returns
sequence_type-returns t c =
    let place = place_of c.args.self.places.now in
    let T = declared c.args.self.set.now c.args.levels in
    let whole = particle_parts T false (all_seen (roses_of c.args.particles.now)) in
    let new = c.new-parts in
    named-sequence place c.push_particles.new.parts c.into_sequence.result c.of.result false false false whole c.into_sequence.ensures (c.of.ensures ∙ c.new.ensures.items)
    (c.in_ok-push_particles.ensures whole (leads-init place new.result whole new.ensures.scope new.ensures.components new.ensures.kids))

pub choice_type-returns : goal.choice_type-returns
choice_type-returns t c =
    let place = place_of c.args.self.places.now in
    let T = declared c.args.self.set.now c.args.levels in
    let whole = particle_parts T true (all_seen (roses_of c.args.particles.now)) in
    let new = c.new-parts in
    named-choice place c.push_particles.new.parts c.into_choice.result c.of.result whole c.into_choice.ensures (c.of.ensures ∙ c.new.ensures.items)
    (c.in_ok-push_particles.ensures whole (leads-init place new.result whole new.ensures.scope new.ensures.components new.ensures.kids))

pub push_particles-term_type-requires : goal.push_particles-term_type-requires
push_particles-term_type-requires t c =
    let particles = c.args.particles.now in
    let particle = c.particle-item.result in
    let fewer = kid-count-le particles c.particles.particle-index particle c.particles-test.true c.particle-item.is in
    let now = c.decreases in
    (omega (arith, now, fewer), (c.requires.linked, known-kid c.args.self.set.now particles c.particles.particle-index particle c.requires.known c.particles-test.true c.particle-item.is))

pub push_particles-particles-preserved : goal.push_particles-particles-preserved
push_particles-particles-preserved t c =
    let place = place_of c.args.self.places.now in
    let T = declared c.args.self.set.now c.args.levels in
    let b = c.args.in_choice in
    let particles = c.args.particles.now in
    let particle = c.particle-item.result in
    λ whole lead.
    c.in_ok-push_particle.ensures place (all_seen (roses_of (kids_of particle))) _ _ whole c.in_ok-kid.ensures
    (subst (λ ps. LeadsToNamed place c.particles.parts ps whole)
    (ap (λ ts. particle_parts T b (all_seen ts)) (roses_of-drop particles c.particles.particle-index particle c.particles-test.true c.particle-item.is)
    ∙ parts-more T particle c.label.result.now (kids_of particle) c.label.ensures refl b _)
    (c.particles.invariant whole lead))

pub push_particles-returns : goal.push_particles-returns
push_particles-returns t c =
    let place = place_of c.args.self.places.now in
    let T = declared c.args.self.set.now c.args.levels in
    let particles = c.args.particles.now in
    λ whole lead.
    subst (λ ts. LeadsToNamed place c.particles.parts (particle_parts T c.args.in_choice (all_seen (roses_of ts))) whole) (drop_all c.particles.particle-index particles c.particles-test.false)
    (c.particles.invariant whole lead)
