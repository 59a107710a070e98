-- Where the simple types and the content models of a set are within the widths that the code has, so is its map.
use Rattle.std.proofs.Common.{◌≡◌, ℕ, zero, suc, ◌<◌, ◌^◌, Bool, true, false, cond, not, List, [], ◌∷◌, All, Option, Some, None, refl, sym, subst, arith}
use Rattle.std.specs.Prelude.{slice_get, nat_lt, ◌&&◌, if◌then◌else◌}
use Rattle.std.proofs.lemmas.List.Elements.{All-nil, All-cons, All-head, All-tail}
use Rattle.base_trees.specs.Rose.{Rose, node, Roses}
use Rattle.base_trees.specs.Rose as rose
use Rattle.simple_types.specs.Seen.{space_of}
use Rattle.simple_types.specs.Space.{Space, Spaces, none, more, Booleans, Wholes, Numbers, Words, Characters, ListOf, UnionOf}
use Rattle.content_models.specs.declared.particles.ParticleKind.{ParticleKind}
use Rattle.content_models.specs.declared.particles.ParticleKind.TheVariants as particle
use Rattle.content_models.specs.declared.particles.ParticleLabel.{ParticleLabel}
use Rattle.content_models.specs.Particle as model
use Rattle.content_models.specs.Particle.{Particle, occurs, Term, Particles}
use Rattle.content_models.specs.Seen.{term_seen, seen, all_seen}
use Rattle.asn_types.specs.Bounds.{IsSize, AreBounded, AllBounded, IsBounded}
use Rattle.asn_types.specs.declared.modules.Assignment.{Assignment}
use Rattle.asn_types.specs.declared.types.Component.{Component}
use Rattle.asn_types.specs.declared.types.TypeLabel.{TypeLabel}
use Rattle.schema_components.specs.declared.components.ElementDecl.{ElementDecl}
use Rattle.schema_components.specs.declared.components.TypeOf.{TypeOf}
use Rattle.schema_components.specs.declared.components.TypeOf.TheVariants as kind
use Rattle.schema_components.specs.declared.components.AttributeUse.{AttributeUse}
use Rattle.schema_components.specs.declared.components.SimpleDef.{SimpleDef}
use Rattle.schema_components.specs.declared.components.ComplexDef.{ComplexDef}
use Rattle.schema_components.specs.declared.components.GlobalAttribute.{GlobalAttribute}
use Rattle.schema_components.specs.declared.components.Content.{Content}
use Rattle.schema_components.specs.declared.components.Content.TheVariants as content_
use Rattle.schema_components.specs.Components.{Set, model_of}
use Rattle.base_texts.specs.declared.texts.Name.{Name}
use Rattle.map_subjects.specs.declared.subjects.Subject.{Subject}
use Rattle.map_subjects.specs.declared.subjects.Subject.TheVariants as subject
use Rattle.map_subjects.specs.declared.subjects.NamedSubject.{NamedSubject}
use Rattle.map_assignments.specs.Plans.{Label, content, TypePlan, simple, sequence, choice, repeated, order_items, reference, Parts, finish, part}
use Rattle.map_assignments.specs.Planning.{simple_plan, simple_type, attributes, label_of, list_label_of, is_once, is_optional, particle_part, is_mixed, is_ordered, with_texts, with_order, order_type, order_plan, labels, labels_before, term_type, particle_parts, top_part, top, content_parts, content_type, rest_parts, complex_plan, nillable_simple_type, own_type, particle_type, in_place, body}
use Rattle.map_assignments.specs.Naming.{IsSimpleType, AreMembers, IsNamed, AreNamed}
use Rattle.map_assignments.specs.Mapped.{AreMapped, IsMapOf}
use Rattle.map_laws.specs.Widths.{IsWide, AreWide, IsWideModel, AreWideModels, IfWideModel, HasWidths}

-- ---- types with names

mutual
  simple_bounded : (s : Space) (t : Rose TypeLabel) → IsWide s → IsSimpleType s t → AreBounded t
  simple_bounded Booleans t wide h = subst AreBounded (sym h) (tt, tt)
  simple_bounded (Wholes least greatest) t wide h = subst AreBounded (sym h) (wide, tt)
  simple_bounded (Numbers numbers) t wide h = subst AreBounded (sym h) (wide, tt)
  simple_bounded (Words how words) t wide h = subst AreBounded (sym h.type) (tt, tt)
  simple_bounded (Characters how least most class) t wide h = subst AreBounded (sym h) (wide, tt)
  simple_bounded (ListOf s least most) t wide h = subst AreBounded (sym h.1) ((wide.1, wide.2), (simple_bounded s h.0 wide.0 h.2, tt))
  simple_bounded (UnionOf members) t wide h = subst AreBounded (sym h.2) (tt, members_bounded [] members h.0 h.1 wide h.3)

  members_bounded : (before : List (List ℕ)) (ss : Spaces) (parts : List Component) (ts : Roses TypeLabel) → AreWide ss → AreMembers before ss parts ts → AllBounded ts
  members_bounded before none parts ts wide h = subst AllBounded (sym h.1) tt
  members_bounded before (more s ss) parts ts wide h =
      subst AllBounded (sym h.6) (simple_bounded s h.2 wide.0 h.7, members_bounded _ ss h.1 h.3 wide.1 h.8)

abbrev mutual
  IsWidePlan : TypePlan → Type 0
  IsWidePlan (simple s) = IsWide s
  IsWidePlan (sequence nillable mixed ordered ps) = AreWidePlans ps
  IsWidePlan (choice ps) = AreWidePlans ps
  IsWidePlan (repeated l p least most) = IsWidePlan p × (least < 2 ^ 32) × IsSize most
  IsWidePlan (order_items firsts ls) = Unit {0}
  IsWidePlan (reference w) = Unit {0}

  AreWidePlans : Parts → Type 0
  AreWidePlans finish = Unit {0}
  AreWidePlans (part l optional p ps) = IsWidePlan p × AreWidePlans ps

module _ (place : Subject → ℕ) where
  mutual
    named_bounded : (p : TypePlan) (t : Rose TypeLabel) → IsWidePlan p → IsNamed place p t → AreBounded t
    named_bounded (simple s) t wide h = simple_bounded s t wide h
    named_bounded (sequence nillable mixed ordered ps) t wide h = subst AreBounded (sym h.2) (tt, parts_bounded [] ps h.0 h.1 wide h.3)
    named_bounded (choice ps) t wide h = subst AreBounded (sym h.2) (tt, parts_bounded [] ps h.0 h.1 wide h.3)
    named_bounded (repeated l p least most) t wide h = subst AreBounded (sym h.1) ((wide.1, wide.2), (named_bounded p h.0 wide.0 h.2, tt))
    named_bounded (order_items firsts ls) t wide h = subst AreBounded (sym h.type) (tt, tt)
    named_bounded (reference w) t wide h = subst AreBounded (sym h) (tt, tt)

    parts_bounded : (before : List (List ℕ)) (ps : Parts) (parts : List Component) (ts : Roses TypeLabel) → AreWidePlans ps → AreNamed place before ps parts ts → AllBounded ts
    parts_bounded before finish parts ts wide h = subst AllBounded (sym h.1) tt
    parts_bounded before (part l optional p ps) parts ts wide h =
        subst AllBounded (sym h.6) (named_bounded p h.2 wide.0 h.7, parts_bounded _ ps h.1 h.3 wide.1 h.8)

-- ---- content models

abbrev mutual
  IsWideParticle : Particle → Type 0
  IsWideParticle (occurs t least most) = (least < 2 ^ 32) × IsSize most × IsWideTerm t

  IsWideTerm : Term → Type 0
  IsWideTerm (model.element d name) = Unit {0}
  IsWideTerm (model.sequence ps) = AreWideParticles ps
  IsWideTerm (model.choice ps) = AreWideParticles ps
  IsWideTerm (model.all ps) = AreWideParticles ps

  AreWideParticles : Particles → Type 0
  AreWideParticles model.none = Unit {0}
  AreWideParticles (model.more p ps) = IsWideParticle p × AreWideParticles ps

kind_wide : (k : ParticleKind) (ps : Particles) → AreWideParticles ps → IsWideTerm (term_seen k ps)
kind_wide (particle.Element decl name) ps h = tt
kind_wide particle.Sequence ps h = h
kind_wide particle.Choice ps h = h
kind_wide particle.All ps h = h

mutual
  model_wide : (m : Rose ParticleLabel) → IsWideModel m → IsWideParticle (seen m)
  model_wide (node l ts) h = (h.0.0, h.0.1, kind_wide l.kind (all_seen ts) (models_wide ts h.1))

  models_wide : (ts : Roses ParticleLabel) → AreWideModels ts → AreWideParticles (all_seen ts)
  models_wide rose.none h = tt
  models_wide (rose.more t ts) h = (model_wide t h.0, models_wide ts h.1)

-- ---- plans

either_way : {A : Type 0} (P : A → Type 0) (b : Bool) (x y : A) → P x → P y → P (cond b x y)
either_way P true x y h g = h
either_way P false x y h g = g

all_at : {A : Type 0} (P : A → Type 0) (xs : List A) (n : ℕ) (x : A) → slice_get xs n ≡ Some x → All P xs → P x
all_at P [] n x is h = absurd (cc)
all_at P (y ∷ ys) zero x is h = subst P (let same : y ≡ x = cc in same) (All-head P y ys h)
all_at P (y ∷ ys) (suc n) x is h = all_at P ys n x is (All-tail P y ys h)

module _ (s : Set) (wide : HasWidths s) where
  simple_wide : (n : ℕ) → IsWidePlan (simple_type s n)
  simple_wide n = by (slice_get s.simples n) refl
    where
      named : (t : SimpleDef) → IsWide (space_of t.space) → (o : Option Name) → IsWidePlan (elim o [ None ↦ simple (space_of t.space) | Some name ↦ reference (subject.Simple n) ])
      named t h None = h
      named t h (Some name) = tt

      by : (o : Option SimpleDef) → slice_get s.simples n ≡ o → IsWidePlan (elim o [ None ↦ simple Booleans | Some t ↦ simple_plan t n ])
      by None is = tt
      by (Some t) is = named t (all_at (λ (u : SimpleDef). IsWide (space_of u.space)) s.simples n t is wide.simples) t.name

  attributes_wide : (us : List AttributeUse) (rest : Parts) → AreWidePlans rest → AreWidePlans (attributes s us rest)
  attributes_wide [] rest h = h
  attributes_wide (u ∷ us) rest h = (simple_wide u.simple, attributes_wide us rest h)

  part_wide : (in_choice : Bool) (t : Term) (type : TypePlan) (least : ℕ) (most : Option ℕ) (rest : Parts) → IsWidePlan type → least < 2 ^ 32 → IsSize most → AreWidePlans rest
      → AreWidePlans (particle_part in_choice t type least most rest)
  part_wide in_choice t type least most rest h low size all =
      let several : Parts = part (list_label_of t) false (repeated (label_of t) type least most) rest in
      let perhaps : Parts = part (label_of t) true type rest in
      either_way (λ ps. AreWidePlans ps) (is_once least most) (part (label_of t) false type rest) (cond (is_optional least most && not in_choice) perhaps several)
      (h, all) (either_way (λ ps. AreWidePlans ps) (is_optional least most && not in_choice) perhaps several (h, all) ((h, low, size), all))

  texts_wide : (mixed : Bool) (rest : Parts) → AreWidePlans rest → AreWidePlans (with_texts mixed rest)
  texts_wide true rest h = (((omega arith, tt), omega arith, tt), h)
  texts_wide false rest h = h

  order_wide : (ordered : Bool) (firsts ls : List Label) (rest : Parts) → AreWidePlans rest → AreWidePlans (with_order ordered (order_type firsts ls) rest)
  order_wide true firsts ls rest h = ((tt, omega arith, tt), h)
  order_wide false firsts ls rest h = h

  module _ (T : ℕ → TypePlan) (types : (d : ℕ) → IsWidePlan (T d)) where
    mutual
      term_wide : (t : Term) → IsWideTerm t → IsWidePlan (term_type T t)
      term_wide (model.element d name) h = types d
      term_wide (model.sequence ps) h = particles_wide false ps h
      term_wide (model.choice ps) h = particles_wide true ps h
      term_wide (model.all ps) h = particles_wide false ps h

      particles_wide : (in_choice : Bool) (ps : Particles) → AreWideParticles ps → AreWidePlans (particle_parts T in_choice ps)
      particles_wide in_choice model.none h = tt
      particles_wide in_choice (model.more (occurs t least most) ps) h =
          part_wide in_choice t (term_type T t) least most (particle_parts T in_choice ps) (term_wide t h.0.2) h.0.0 h.0.1 (particles_wide in_choice ps h.1)

    top_part_wide : (t : Term) (least : ℕ) (most : Option ℕ) → IsWideParticle (occurs t least most) → AreWidePlans (top_part T t least most)
    top_part_wide t least most h = part_wide false t (term_type T t) least most finish (term_wide t h.2) h.0 h.1 tt

    top_wide : (p : Particle) → IsWideParticle p → AreWidePlans (top T p)
    top_wide (occurs (model.element d name) least most) h = top_part_wide (model.element d name) least most h
    top_wide (occurs (model.sequence ps) least most) h =
        either_way (λ qs. AreWidePlans qs) (is_once least most) (particle_parts T false ps) (top_part T (model.sequence ps) least most)
        (particles_wide false ps h.2) (top_part_wide (model.sequence ps) least most h)
    top_wide (occurs (model.choice ps) least most) h = top_part_wide (model.choice ps) least most h
    top_wide (occurs (model.all ps) least most) h = particles_wide false ps h.2

    content_parts_wide : (c : Content) → IfWideModel (model_of c) → AreWidePlans (content_parts T s c)
    content_parts_wide content_.Empty h = tt
    content_parts_wide (content_.Simple n) h = (simple_wide n, tt)
    content_parts_wide (content_.ElementOnly m) h = top_wide (seen m) (model_wide m h)
    content_parts_wide (content_.Mixed m) h = top_wide (seen m) (model_wide m h)

    content_type_wide : (c : Content) → IfWideModel (model_of c) → IsWidePlan (content_type T s c)
    content_type_wide content_.Empty h = tt
    content_type_wide (content_.Simple n) h = simple_wide n
    content_type_wide (content_.ElementOnly m) h = top_wide (seen m) (model_wide m h)
    content_type_wide (content_.Mixed m) h = top_wide (seen m) (model_wide m h)

    complex_wide : (nillable : Bool) (c : ComplexDef) → IfWideModel (model_of c.content) → IsWidePlan (complex_plan T s nillable c)
    complex_wide nillable c h =
        let behind = attributes s c.uses (rest_parts T s nillable c.content) in
        texts_wide (is_mixed c.content) (with_order (is_ordered c.content) (order_plan T s nillable c) behind)
        (order_wide (is_ordered c.content) (if nillable then [] else labels_before (is_mixed c.content) c.uses) (labels (content_parts T s c.content)) behind
        (attributes_wide c.uses (rest_parts T s nillable c.content)
        (either_way (λ ps. AreWidePlans ps) nillable (part content true (content_type T s c.content) finish) (content_parts T s c.content)
        (content_type_wide c.content h, tt) (content_parts_wide c.content h))))

  nillable_simple_wide : (n : ℕ) → IsWidePlan (nillable_simple_type s n)
  nillable_simple_wide n = (simple_wide n, tt)

  module _ (inner : Bool → ℕ → TypePlan) (inners : (b : Bool) (n : ℕ) → IsWidePlan (inner b n)) where
    own_wide : (e : ElementDecl) → IsWidePlan (own_type s inner e)
    own_wide e = by e.kind
      where
        named : (n : ℕ) (o : Option Name) → IsWidePlan (elim o [ None ↦ inner e.nillable n | Some name ↦ reference (if e.nillable then subject.Nillable n else subject.Complex n) ])
        named n None = inners e.nillable n
        named n (Some name) = tt

        complex : (n : ℕ) (o : Option ComplexDef) → IsWidePlan (elim o [
          | None ↦ sequence false false false finish
          | Some c ↦ elim c.name [ None ↦ inner e.nillable n | Some name ↦ reference (if e.nillable then subject.Nillable n else subject.Complex n) ]
        ])
        complex n None = tt
        complex n (Some c) = named n c.name

        by : (k : TypeOf) → IsWidePlan (elim k [
          | kind.Simple n ↦ if e.nillable then nillable_simple_type s n else simple_type s n
          | kind.Complex n ↦ elim (slice_get s.complexes n) [
            | None ↦ sequence false false false finish
            | Some c ↦ elim c.name [ None ↦ inner e.nillable n | Some name ↦ reference (if e.nillable then subject.Nillable n else subject.Complex n) ]
          ]
        ])
        by (kind.Simple n) = either_way (λ p. IsWidePlan p) e.nillable (nillable_simple_type s n) (simple_type s n) (nillable_simple_wide n) (simple_wide n)
        by (kind.Complex n) = complex n (slice_get s.complexes n)

    particle_type_wide : (d : ℕ) → IsWidePlan (particle_type s inner d)
    particle_type_wide d =
        let other : TypePlan = elim (slice_get s.elements d) [ None ↦ simple Booleans | Some e ↦ own_type s inner e ] in
        either_way (λ p. IsWidePlan p) (nat_lt d s.globals) (reference (subject.Element d)) other tt (by (slice_get s.elements d))
      where
        by : (o : Option ElementDecl) → IsWidePlan (elim o [ None ↦ simple Booleans | Some e ↦ own_type s inner e ])
        by None = tt
        by (Some e) = own_wide e

  in_place_wide : (levels : ℕ) (nillable : Bool) (n : ℕ) → IsWidePlan (in_place s levels nillable n)
  in_place_wide zero nillable n = tt
  in_place_wide (suc levels) nillable n = by (λ b m. in_place_wide levels b m) (slice_get s.complexes n) refl
    where
      by : ((b : Bool) (m : ℕ) → IsWidePlan (in_place s levels b m)) → (o : Option ComplexDef) → slice_get s.complexes n ≡ o
          → IsWidePlan (elim o [ None ↦ sequence false false false finish | Some c ↦ complex_plan (particle_type s (in_place s levels)) s nillable c ])
      by below None is = tt
      by below (Some c) is =
          complex_wide (particle_type s (in_place s levels)) (particle_type_wide (in_place s levels) below) nillable c
          (all_at (λ (d : ComplexDef). IfWideModel (model_of d.content)) s.complexes n c is wide.complexes)

  body_wide : (w : Subject) → IsWidePlan (body s w)
  body_wide (subject.Element d) = by (slice_get s.elements d)
    where
      by : (o : Option ElementDecl) → IsWidePlan (elim o [ None ↦ simple Booleans | Some e ↦ own_type s (in_place s 21) e ])
      by None = tt
      by (Some e) = own_wide (in_place s 21) (λ b n. in_place_wide 21 b n) e
  body_wide (subject.Attribute n) = by (slice_get s.attributes n)
    where
      by : (o : Option GlobalAttribute) → IsWidePlan (elim o [ None ↦ simple Booleans | Some a ↦ simple_type s a.simple ])
      by None = tt
      by (Some a) = simple_wide a.simple
  body_wide (subject.Simple n) = by (slice_get s.simples n) refl
    where
      by : (o : Option SimpleDef) → slice_get s.simples n ≡ o → IsWidePlan (elim o [ None ↦ simple Booleans | Some t ↦ simple (space_of t.space) ])
      by None is = tt
      by (Some t) is = all_at (λ (u : SimpleDef). IsWide (space_of u.space)) s.simples n t is wide.simples
  body_wide (subject.Complex n) = in_place_wide 21 false n
  body_wide (subject.Nillable n) = in_place_wide 21 true n

  -- ---- assignments

  mapped_bounded : (place : Subject → ℕ) (before : List (List ℕ)) (es : List NamedSubject) (M : List Assignment) → AreMapped place s before es M → IsBounded M
  mapped_bounded place before [] [] h = All-nil (λ (a : Assignment). AreBounded a.body)
  mapped_bounded place before [] (a ∷ M) h = absurd h
  mapped_bounded place before (e ∷ es) [] h = absurd h
  mapped_bounded place before (e ∷ es) (a ∷ M) h =
      All-cons (λ (b : Assignment). AreBounded b.body) a M (named_bounded place (body s e.subject) a.body (body_wide e.subject) h.0.body)
      (mapped_bounded place _ es M h.1)

  pub map_bounded : (M : List Assignment) → IsMapOf s M → IsBounded M
  map_bounded M is = mapped_bounded _ [] is.entries M is.assignments
