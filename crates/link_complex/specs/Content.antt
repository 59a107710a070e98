-- Content models that can't be read without lookahead.
use Rattle.std.specs.Prelude.{◌≡◌, List, [], Option, Some, None}
use Rattle.std.specs.List.{Any}
use Rattle.base_trees.specs.Rose.{Rose}
use Rattle.content_models.specs.Breaches.{Placed, all_placed, Breaks}
use Rattle.content_models.specs.declared.particles.ParticleLabel.{ParticleLabel}
use Rattle.schema_components.specs.Raw.{Document}
use Rattle.link_names.specs.declared.faults.LinkingFault.{LinkingFault}
use Rattle.link_names.specs.declared.faults.LinkWhy.TheVariants.{NotClear}
use Rattle.link_names.specs.Order.{place, OneHas}
use Rattle.link_complex.specs.ComplexTypes.{ComplexDefinition, complex_types, model_of}

-- The fault is at a particle that breaks a rule of clear content models.
abbrev pub BreaksIn : Option (Rose ParticleLabel) → LinkingFault → Type 0
BreaksIn None f = ⊥
BreaksIn (Some model) f =
    (f.why ≡ NotClear) × Any (λ (p : Placed). Breaks p × (f.place ≡ place p.label.file p.label.at)) (all_placed model [])

abbrev pub IsUnclearType : ComplexDefinition → LinkingFault → Type 0
IsUnclearType c f = BreaksIn (model_of c.body.content) f

-- The fault is at an unclear particle of a complex type. This rule replaces XML Schema Part 1, section 3.8.6, 'Unique Particle
-- Attribution'.
abbrev pub IsUnclear : List Document → LinkingFault → Type 0
IsUnclear docs f = OneHas IsUnclearType (complex_types docs) f
