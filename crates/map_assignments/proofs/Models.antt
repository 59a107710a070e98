-- The parts for content models.
use Rattle.std.proofs.Common.{◌≡◌, ℕ, Bool, true, false, if◌then◌else◌, List, Option, ◌⊎◌, inl, inr, refl, sym, ap, ◌∙◌}
use Rattle.base_trees.specs.Rose.{Rose, roses_of, label_of, kids_of}
use Rattle.content_models.specs.declared.particles.ParticleLabel.{ParticleLabel}
use Rattle.content_models.specs.declared.particles.ParticleKind.{ParticleKind}
use Rattle.content_models.specs.declared.particles.ParticleKind.TheVariants.{Element, Sequence, Choice, All as AllKind}
use Rattle.content_models.specs.Particle as model
use Rattle.content_models.specs.Particle.{occurs, Particles}
use Rattle.content_models.specs.Seen.{term_seen, seen, all_seen}
use Rattle.schema_components.specs.declared.components.Content.{Content}
use Rattle.schema_components.specs.declared.components.Content.TheVariants as content
use Rattle.schema_components.specs.Components.{Set}
use Rattle.map_assignments.specs.Plans.{TypePlan, sequence, finish}
use Rattle.map_assignments.specs.Planning.{particle_part, term_type, particle_parts, top_part, top, content_parts, content_type}
use Rattle.map_assignments.specs.Private.Building.{term_of, stands_as_parts}
use Rattle.map_assignments.proofs.Known.{seen-parts, term-parts}

pub plain-sequence : (kind : ParticleKind) (least : ℕ) (most : Option ℕ) → stands_as_parts kind least most ≡ true → (kind ≡ Sequence) ⊎ (kind ≡ AllKind)
plain-sequence (Element d name) least most e = absurd (cc)
plain-sequence Sequence least most e = inl refl
plain-sequence Choice least most e = absurd (cc)
plain-sequence AllKind least most e = inr refl

-- the type of what a nillable element has
pub content-sequence : (T : ℕ → TypePlan) (s : Set) (c : Content) → ((n : ℕ) → c ≡ content.Simple n → ⊥) → content_type T s c ≡ sequence false false false (content_parts T s c)
content-sequence T s content.Empty h = refl
content-sequence T s (content.Simple n) h = absurd (h n refl)
content-sequence T s (content.ElementOnly particle) h = refl
content-sequence T s (content.Mixed particle) h = refl

module _ (T : ℕ → TypePlan) where
  -- a sequence, or an all where it isn't the top
  pub group-type : (kind : ParticleKind) (ps : Particles) → (kind ≡ Sequence) ⊎ (kind ≡ AllKind) → term_type T (term_seen kind ps) ≡ sequence false false false (particle_parts T false ps)
  group-type kind ps (inl is) = ap (λ k. term_type T (term_seen k ps)) is
  group-type kind ps (inr is) = ap (λ k. term_type T (term_seen k ps)) is

  plain : (kind : ParticleKind) (ps : Particles) (least : ℕ) (most : Option ℕ) → stands_as_parts kind least most ≡ true
      → top T (occurs (term_seen kind ps) least most) ≡ particle_parts T false ps
  plain (Element d name) ps least most e = absurd (cc)
  plain Sequence ps least most e = ap (λ b. if b then particle_parts T false ps else top_part T (model.sequence ps) least most) e
  plain Choice ps least most e = absurd (cc)
  plain AllKind ps least most e = refl

  other : (kind : ParticleKind) (ps : Particles) (least : ℕ) (most : Option ℕ) → stands_as_parts kind least most ≡ false
      → top T (occurs (term_seen kind ps) least most) ≡ particle_part false (term_seen kind ps) (term_type T (term_seen kind ps)) least most finish
  other (Element d name) ps least most e = refl
  other Sequence ps least most e = ap (λ b. if b then particle_parts T false ps else top_part T (model.sequence ps) least most) e
  other Choice ps least most e = refl
  other AllKind ps least most e = absurd (cc)

  -- the parts of a content model
  module _ (t : Rose ParticleLabel) (l : ParticleLabel) (kids : List (Rose ParticleLabel)) (is : l ≡ label_of t) (below : kids ≡ kids_of t) where
    pub top-plain : stands_as_parts l.kind l.min l.max ≡ true → top T (seen t) ≡ particle_parts T false (all_seen (roses_of kids))
    top-plain e = ap (top T) (seen-parts t l kids is below) ∙ plain l.kind (all_seen (roses_of kids)) l.min l.max e

    pub top-other : stands_as_parts l.kind l.min l.max ≡ false
        → top T (seen t) ≡ particle_part false (term_seen l.kind (all_seen (roses_of kids))) (term_type T (term_of t)) l.min l.max finish
    top-other e =
        ap (top T) (seen-parts t l kids is below) ∙ other l.kind (all_seen (roses_of kids)) l.min l.max e
        ∙ ap (λ m. particle_part false (term_seen l.kind (all_seen (roses_of kids))) (term_type T m) l.min l.max finish) (sym (term-parts t l kids is below))

    -- the parts for a particle and those behind it
    pub parts-more : (in_choice : Bool) (ps : Particles)
        → particle_parts T in_choice (model.more (seen t) ps)
        ≡ particle_part in_choice (term_seen l.kind (all_seen (roses_of kids))) (term_type T (term_of t)) l.min l.max (particle_parts T in_choice ps)
    parts-more in_choice ps =
        ap (λ p. particle_parts T in_choice (model.more p ps)) (seen-parts t l kids is below)
        ∙ ap (λ m. particle_part in_choice (term_seen l.kind (all_seen (roses_of kids))) (term_type T m) l.min l.max (particle_parts T in_choice ps)) (sym (term-parts t l kids is below))
