-- Element particles of one name in a content model whose types differ (XML Schema Part 1, section 3.8.6, 'Element
-- Declarations Consistent').
use Rattle.std.specs.Prelude.{◌≡◌, ℕ, true, List, [], ◌∷◌, map, Option, Some, None, slice_get, if◌then◌else◌}
use Rattle.std.specs.List.{flat_map}
use Rattle.base_texts.specs.declared.texts.Name.{Name}
use Rattle.base_texts.specs.Lists.{HasItem}
use Rattle.base_texts.specs.Names.{name_eq}
use Rattle.simple_types.specs.declared.simples.Builtin.{Builtin}
use Rattle.content_models.specs.declared.particles.ParticleLabel.{ParticleLabel}
use Rattle.content_models.specs.declared.particles.ParticleKind.TheVariants as particle
use Rattle.schema_components.specs.declared.simple_definitions.RawRef.TheVariants as reference
use Rattle.schema_components.specs.Raw.{Kind, NamedKind, SimpleKind, ComplexKind, Element, Local, Reference, Own, Document}
use Rattle.link_names.specs.Parts as part
use Rattle.link_names.specs.Parts.{What, in_content}
use Rattle.link_names.specs.declared.places.Place.{Place}
use Rattle.link_names.specs.declared.faults.LinkingFault.{LinkingFault}
use Rattle.link_names.specs.declared.faults.LinkWhy.TheVariants.{TypesDiffer}
use Rattle.link_names.specs.Order.{place, fault, is_before, OneHas}
use Rattle.link_complex.specs.ComplexTypes.{ComplexDefinition, of_document}

-- The definition of a type: a built-in one, the one of this name, or one in place.
pub data TypeIdentity : Type 0 where
  BuiltIn : Builtin → TypeIdentity
  ByName : Name → TypeIdentity
  InPlace : Place → TypeIdentity

abbrev pub identity : ℕ → Kind → TypeIdentity
identity file (NamedKind (reference.Builtin which)) = BuiltIn which
identity file (NamedKind (reference.Other name)) = ByName name
identity file (SimpleKind s) = InPlace (place file s.at)
identity file (ComplexKind c) = InPlace (place file c.at)

-- A global element with its type.
pub record TypedElement : Type 0 where
  pub name : Name
  pub kind : TypeIdentity

abbrev pub typed_element : ℕ → Element → TypedElement
typed_element file e = record { name = e.name; kind = identity file e.kind }

abbrev pub typed_elements : List Document → List TypedElement
typed_elements docs = flat_map (λ d. map (typed_element d.file) d.elements) docs

-- The type of the first element that has the name.
abbrev pub type_named : List TypedElement → Name → Option TypeIdentity
type_named [] a = None
type_named (e ∷ es) a = if name_eq e.name a then Some e.kind else type_named es a

-- The type of a local declaration. A reference has the type of the global element.
abbrev pub type_of_local : (Name → Option TypeIdentity) → ℕ → Local → Option TypeIdentity
type_of_local types file (Own e) = Some (identity file e.kind)
type_of_local types file (Reference name at) = types name

abbrev pub type_of_found : (Name → Option TypeIdentity) → ℕ → Option Local → Option TypeIdentity
type_of_found types file None = None
type_of_found types file (Some l) = type_of_local types file l

-- The type of the local declaration with this number.
abbrev pub type_at : (Name → Option TypeIdentity) → Document → ℕ → Option TypeIdentity
type_at types d decl = type_of_found types d.file (slice_get d.locals decl)

-- An element particle with its type.
pub record TypedParticle : Type 0 where
  pub name : Name
  pub place : Place
  pub kind : Option TypeIdentity

abbrev pub typed_particle : Name → Place → Option TypeIdentity → TypedParticle
typed_particle a p k = record { name = a; place = p; kind = k }

-- The particle, if it is an element.
abbrev pub of_label : (ℕ → Option TypeIdentity) → ParticleLabel → List TypedParticle
of_label types l = elim l.kind [
  | particle.Element decl name ↦ typed_particle name (place l.file l.at) (types decl) ∷ []
  | particle.Sequence ↦ []
  | particle.Choice ↦ []
  | particle.All ↦ []
]

abbrev pub of_part : (ℕ → Option TypeIdentity) → What → List TypedParticle
of_part types (part.Particle l) = of_label types l
of_part types (part.MixedGroup l) = of_label types l
of_part types other = []

-- The element particles of the content of a complex type.
abbrev pub typed_particles : (ℕ → Option TypeIdentity) → ComplexDefinition → List TypedParticle
typed_particles types c = flat_map (λ p. of_part types p.what) (in_content c.place.file c.body.at c.body.content)

-- One of the same name precedes it and has another type.
abbrev pub IsOther : List TypedParticle → TypedParticle → Type 0
IsOther ps p =
    (q : TypedParticle) × HasItem ps q × (q.name ≡ p.name) × (is_before q.place p.place ≡ true) × (q.kind ≡ p.kind → ⊥)

abbrev pub IsOtherAt : List TypedParticle → TypedParticle → LinkingFault → Type 0
IsOtherAt ps p f = (f ≡ fault TypesDiffer p.place) × IsOther ps p

abbrev pub HasOther : List TypedParticle → LinkingFault → Type 0
HasOther ps f = OneHas (IsOtherAt ps) ps f

abbrev pub HasOtherOf : (ℕ → Option TypeIdentity) → ComplexDefinition → LinkingFault → Type 0
HasOtherOf types c f = HasOther (typed_particles types c) f

abbrev pub DiffersIn : (Name → Option TypeIdentity) → Document → LinkingFault → Type 0
DiffersIn types d f = OneHas (HasOtherOf (type_at types d)) (of_document d) f

abbrev pub Differs : List Document → LinkingFault → Type 0
Differs docs f = OneHas (DiffersIn (type_named (typed_elements docs))) docs f
