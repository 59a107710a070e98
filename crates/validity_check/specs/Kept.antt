-- The plans that are kept.
use Rattle.std.specs.Prelude.{◌≡◌, ℕ, List, length, Option, Some, None, slice_get}
use Rattle.std.specs.declared.alloc.Global.{Global}
use Rattle.std.specs.declared.rc.Rc.{Rc}
use Rattle.base_trees.specs.Rose.{Rose}
use Rattle.content_models.specs.declared.particles.ParticleLabel.{ParticleLabel}
use Rattle.content_models.specs.Particle.{Particle}
use Rattle.content_models.specs.Seen.{seen}
use Rattle.schema_components.specs.Components.{Set}
use Rattle.validity_check.specs.Told.{model_at}

abbrev pub KeptPlan : Type 0
KeptPlan = Rc Particle Global

-- a plan that is kept is that of the content model
abbrev pub IsPlanAt : Set → ℕ → Option KeptPlan → Type 0
IsPlanAt s n None = Unit {0}
IsPlanAt s n (Some plan) = (m : Rose ParticleLabel) × (model_at s n ≡ Some m) × (plan.value ≡ seen m)

pub record ArePlans (s : Set) (kept : List (Option KeptPlan)) : Type 0 where
  pub count : length kept ≡ length s.complexes
  pub plans : (n : ℕ) (o : Option KeptPlan) → slice_get kept n ≡ Some o → IsPlanAt s n o
