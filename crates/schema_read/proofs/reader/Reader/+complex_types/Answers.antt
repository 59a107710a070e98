use Rattle.std.proofs.Common.{rules, arith, ◌≡◌, true, Option, Some, ◌++◌, length, option_map, refl, sym, ◌∙◌, ap, subst, ◌+◌, codes}
use Rattle.schema_read.proofs.Words.{Rose, roses_of, ParticleLabel, kid-count-le, node_count-kids, Complex, Reference, bindings_in, is_in, Particles, never_occurs, is_true, no_name, local_name, is_named, said, Makes, made_some, BodyHeld, FoundHeld, HasRoom, IsHeld}
use Rattle.schema_components.specs.Seen as seen
use Rattle.schema_read.specs.Particles as parts
use Rattle.schema_read.proofs.Bases.{not_false}
use Rattle.schema_read.proofs.Rooms.{particle_room, group_room, kind_held, declared_held}
use Rattle.schema_read.proofs.Making.{makes_as, makes_some, particle_inside, same_particle, same_complex, its_particle, its_complex_type, kind_passed, group_passed, held_within, declared_in_place}
use Rattle.schema_read.proofs.reader.Reader.+complex_types.Goals as goal

pub particles_among-particle_at-requires : goal.particles_among-particle_at-requires
particles_among-particle_at-requires t c =
    let d = c.decreases in
    let k = kid-count-le c.args.kids.now c.loop-kid.kid-index c.kid-item.result c.loop-kid-test.true c.kid-item.is in
    let s = said c.args.self.setting in
    let scope = bindings_in c.args.self.scope.now in
    let before = c.args.locals.now.items in (
      omega (arith, d, k),
      particle_room s scope c.args.kids.now c.loop-kid.kid-index c.kid-item.result c.loop-kid-test.true c.kid-item.is before c.loop-kid.locals.items c.loop-kid.particles.items
          (parts.particles_among s scope (length before) (roses_of c.args.kids.now)) c.loop-kid.invariant c.requires,
    )

pub group_among-particle_at-requires : goal.group_among-particle_at-requires
group_among-particle_at-requires t c =
    let d = c.decreases in
    let k = kid-count-le c.args.kids.now c.loop-kid.kid-index c.kid-item.result c.loop-kid-test.true c.kid-item.is in
    let s = said c.args.self.setting in
    let scope = bindings_in c.args.self.scope.now in
    let before = c.args.locals.now.items in (
      omega (arith, d, k),
      group_room s scope c.args.kids.now c.loop-kid.kid-index c.kid-item.result c.loop-kid-test.true c.kid-item.is before c.loop-kid.locals.items
          (parts.group_among s scope (length before) (roses_of c.args.kids.now)) c.loop-kid.invariant c.requires,
    )

pub inner_kind-complex_type-requires : goal.inner_kind-complex_type-requires
inner_kind-complex_type-requires t c =
    let d = c.decreases in
    let k = kid-count-le c.args.kids.now c.loop-kid.kid-index c.kid-item.result c.loop-kid-test.true c.kid-item.is in
    let s = said c.args.self.setting in
    let scope = bindings_in c.args.self.scope.now in
    let before = c.args.locals.now.items in (
      omega (arith, d, k),
      kind_held s scope c.args.kids.now c.loop-kid.kid-index c.kid-item.result c.loop-kid-test.true c.kid-item.is before c.loop-kid.locals.items
          (parts.inner_kind s scope (length before) (roses_of c.args.kids.now))
          (ap (option_map seen.simple_of) (sym c.in_default.is) ∙ c.in_ok-simple.ensures) c.loop-kid.invariant c.requires,
    )

pub particle_at-particle_of-requires : goal.particle_at-particle_of-requires
particle_at-particle_of-requires t c =
    let d = c.decreases in
    let k = node_count-kids c.args.tree.now in
    let s = said c.args.self.setting in
    let outer = bindings_in c.args.self.scope.now in
    let before = c.args.locals.now.items in
    let tree = c.args.tree.now in
    let n = length before in
    let label = sym c.label.ensures ∙ c.in-Element.is in
    let is : c.is_in.result ≡ true = first_of (assumption c.if-not-is_in.false, search (rules, not_false, c.if-not-is_in.false)) in
    let read = rw c.items.ensures at c.in_ok-own.ensures in
    let given = particle_inside s outer n c.in-Element.at c.as_str.result.now c.in-Element.declares c.deref-2.result.now c.kids.result.now in
    let same = same_particle s outer n c.in-Element.at c.in-Element.name c.in-Element.attributes c.in-Element.declares tree label
    c.as_str.result.now c.in-Element.declares c.deref-2.result.now c.kids.result.now c.as_str.ensures refl (c.deref-2.ensures.value ∙ read) c.kids.ensures in
    let there = its_particle s outer n c.in-Element.at c.in-Element.name c.in-Element.attributes c.in-Element.declares tree label
    (sym (c.is_in.ensures ∙ ap (is_in Particles) c.label-2.ensures) ∙ is)
    (sym (ap never_occurs (c.deref.ensures.value ∙ read)) ∙ (sym c.never_occurs.ensures ∙ c.if-never_occurs.false)) in
    let room : HasRoom before given = subst (λ (m : parts.Made (Option (Rose ParticleLabel))). HasRoom before m) (sym (ap made_some same ∙ there)) c.requires in (
      rw c.kids.ensures (omega (arith, d, k)),
      subst (λ inside. HasRoom before (parts.particle_by s n c.as_str.result.now c.in-Element.at inside c.deref-2.result.now
          (parts.inner_kind s inside (n + 1) (roses_of c.kids.result.now)) (parts.particles_among s inside n (roses_of c.kids.result.now))))
          (sym c.in_ok-inside.ensures) room,
    )

pub complex_type-complex_of-requires : goal.complex_type-complex_of-requires
complex_type-complex_of-requires t c =
    let d = c.decreases in
    let k = node_count-kids c.args.tree.now in
    let s = said c.args.self.setting in
    let outer = bindings_in c.args.self.scope.now in
    let before = c.args.locals.now.items in
    let tree = c.args.tree.now in
    let n = length before in
    let label = sym c.label.ensures ∙ c.in-Element.is in
    let is : c.is_named.result ≡ true = first_of (assumption c.if-not-is_named.false, search (rules, not_false, c.if-not-is_named.false)) in
    let own = c.deref.ensures.value ∙ (rw c.items.ensures at c.in_ok-own.ensures) in
    let scope = c.in-Element.declares ++ outer in
    let given = parts.complex_of s c.in-Element.at c.is_true-mixed.result scope c.kids.result.now (parts.group_among s scope n (roses_of c.kids.result.now)) in
    let same = same_complex s outer n c.in-Element.at c.in-Element.name c.in-Element.attributes c.in-Element.declares tree label
    c.in-Element.declares c.is_true-mixed.result c.kids.result.now refl (c.is_true-mixed.ensures ∙ ap (is_true (codes "mixed")) own) c.kids.ensures in
    let there = its_complex_type s outer n c.in-Element.at c.in-Element.name c.in-Element.attributes c.in-Element.declares tree label
    (sym (c.is_named.ensures ∙ ap (is_named (codes "complexType")) c.label-2.ensures) ∙ is) in
    let held : IsHeld FoundHeld before (made_some given) = subst (λ (m : parts.Made (Option Complex)). IsHeld FoundHeld before m) (sym (ap made_some same ∙ there)) c.requires in (
      rw c.kids.ensures (omega (arith, d, k)),
      subst (λ inside. IsHeld BodyHeld before (parts.complex_of s c.in-Element.at c.is_true-mixed.result inside c.kids.result.now (parts.group_among s inside n (roses_of c.kids.result.now))))
          (sym c.in_ok-inside.ensures) (record { value = held.value; room = held.room }),
    )

pub particle_at-returns : goal.particle_at-returns
particle_at-returns t c =
    let s = said c.args.self.setting in
    let outer = bindings_in c.args.self.scope.now in
    let before = c.args.locals.now.items in
    let after = c.particle_of.new.locals.items in
    let tree = c.args.tree.now in
    let n = length before in
    let label = sym c.label.ensures ∙ c.in-Element.is in
    let is : c.is_in.result ≡ true = first_of (assumption c.if-not-is_in.false, search (rules, not_false, c.if-not-is_in.false)) in
    let read = rw c.items.ensures at c.in_ok-own.ensures in
    let given = particle_inside s outer n c.in-Element.at c.as_str.result.now c.in-Element.declares c.deref-2.result.now c.kids.result.now in
    let same = same_particle s outer n c.in-Element.at c.in-Element.name c.in-Element.attributes c.in-Element.declares tree label
    c.as_str.result.now c.in-Element.declares c.deref-2.result.now c.kids.result.now c.as_str.ensures refl (c.deref-2.ensures.value ∙ read) c.kids.ensures in
    let there = its_particle s outer n c.in-Element.at c.in-Element.name c.in-Element.attributes c.in-Element.declares tree label
    (sym (c.is_in.ensures ∙ ap (is_in Particles) c.label-2.ensures) ∙ is)
    (sym (ap never_occurs (c.deref.ensures.value ∙ read)) ∙ (sym c.never_occurs.ensures ∙ c.if-never_occurs.false)) in
    makes_as before after (Some c.in_ok-particle.particle) (made_some given) (parts.particle_at s outer n tree)
    (makes_some before after c.in_ok-particle.particle given
    (subst (λ inside. Makes before after c.in_ok-particle.particle (parts.particle_by s n c.as_str.result.now c.in-Element.at inside c.deref-2.result.now
    (parts.inner_kind s inside (n + 1) (roses_of c.kids.result.now)) (parts.particles_among s inside n (roses_of c.kids.result.now))))
    c.in_ok-inside.ensures c.in_ok-particle.ensures)) (ap made_some same ∙ there)

pub complex_type-returns : goal.complex_type-returns
complex_type-returns t c =
    let s = said c.args.self.setting in
    let outer = bindings_in c.args.self.scope.now in
    let before = c.args.locals.now.items in
    let after = c.complex_of.new.locals.items in
    let tree = c.args.tree.now in
    let n = length before in
    let label = sym c.label.ensures ∙ c.in-Element.is in
    let is : c.is_named.result ≡ true = first_of (assumption c.if-not-is_named.false, search (rules, not_false, c.if-not-is_named.false)) in
    let own = c.deref.ensures.value ∙ (rw c.items.ensures at c.in_ok-own.ensures) in
    let scope = c.in-Element.declares ++ outer in
    let body = seen.complex_of c.in_ok-body.body in
    let given = parts.complex_of s c.in-Element.at c.is_true-mixed.result scope c.kids.result.now (parts.group_among s scope n (roses_of c.kids.result.now)) in
    let same = same_complex s outer n c.in-Element.at c.in-Element.name c.in-Element.attributes c.in-Element.declares tree label
    c.in-Element.declares c.is_true-mixed.result c.kids.result.now refl (c.is_true-mixed.ensures ∙ ap (is_true (codes "mixed")) own) c.kids.ensures in
    let there = its_complex_type s outer n c.in-Element.at c.in-Element.name c.in-Element.attributes c.in-Element.declares tree label
    (sym (c.is_named.ensures ∙ ap (is_named (codes "complexType")) c.label-2.ensures) ∙ is) in
    makes_as before after (Some body) (made_some given) (parts.complex_type s outer n tree) (makes_some before after body given
    (subst (λ inside. Makes before after body (parts.complex_of s c.in-Element.at c.is_true-mixed.result inside c.kids.result.now (parts.group_among s inside n (roses_of c.kids.result.now))))
    c.in_ok-inside.ensures c.in_ok-body.ensures)) (ap made_some same ∙ there)

pub declare_own-element_of-requires : goal.declare_own-element_of-requires
declare_own-element_of-requires t c =
    let d = c.decreases in (
      omega (arith, d),
      declared_held (said c.args.self.setting) (bindings_in c.args.self.scope.now) c.args.tag.own.now c.args.tag.at (roses_of c.args.kids.now) c.args.locals.now.items c.hold.new.locals.items
          (Reference no_name c.args.tag.at) c.in_ok-name.name (local_name c.args.self.setting.target.now c.args.self.setting.elements_qualified c.args.tag.own.now) tt
          c.in_ok-hold.ensures c.in_ok-name.ensures c.requires,
    )

pub declare_own-put_own-requires : goal.declare_own-put_own-requires
declare_own-put_own-requires t c =
    let before = c.args.locals.now.items in
    let counted : c.len-number.result ≡ length before = omega (arith, c.len-number.ensures, c.args.locals.now.ok.0) in
    held_within before c.hold.new.locals.items c.element_of.new.locals.items (Reference no_name c.args.tag.at) (seen.element_of c.in_ok-element.element)
    c.len-number.result c.in_ok-hold.ensures c.in_ok-element.ensures counted

pub declare_own-returns : goal.declare_own-returns
declare_own-returns t c =
    let counted : c.len-number.result ≡ length c.args.locals.now.items = omega (arith, c.len-number.ensures, c.args.locals.now.ok.0) in
    declared_in_place (said c.args.self.setting) (bindings_in c.args.self.scope.now) c.args.tag.own.now c.args.tag.at (roses_of c.args.kids.now)
    c.args.locals.now.items c.hold.new.locals.items c.element_of.new.locals.items c.put_own.new.locals.items (Reference no_name c.args.tag.at)
    c.in_ok-name.name (local_name c.args.self.setting.target.now c.args.self.setting.elements_qualified c.args.tag.own.now) (seen.element_of c.in_ok-element.element) c.len-number.result
    c.in_ok-hold.ensures c.in_ok-name.ensures c.in_ok-element.ensures counted c.put_own.ensures

pub inner_kind-loop-kid-preserved : goal.inner_kind-loop-kid-preserved
inner_kind-loop-kid-preserved t c =
    let s = said c.args.self.setting in
    let scope = bindings_in c.args.self.scope.now in
    let before = c.args.locals.now.items in
    kind_passed s scope c.args.kids.now c.loop-kid.kid-index c.kid-item.result c.loop-kid-test.true c.kid-item.is
    before c.loop-kid.locals.items c.complex_type.new.locals.items (parts.inner_kind s scope (length before) (roses_of c.args.kids.now))
    (ap (option_map seen.simple_of) (sym c.in_default.is) ∙ c.in_ok-simple.ensures) (rw c.in_default-complex.is at c.in_ok-complex.ensures) c.loop-kid.invariant

pub group_among-loop-kid-preserved : goal.group_among-loop-kid-preserved
group_among-loop-kid-preserved t c =
    let s = said c.args.self.setting in
    let scope = bindings_in c.args.self.scope.now in
    let before = c.args.locals.now.items in
    group_passed s scope c.args.kids.now c.loop-kid.kid-index c.kid-item.result c.loop-kid-test.true c.kid-item.is
    before c.loop-kid.locals.items c.particle_at.new.locals.items (parts.group_among s scope (length before) (roses_of c.args.kids.now))
    (rw c.in_default.is at c.in_ok-found.ensures) c.loop-kid.invariant
