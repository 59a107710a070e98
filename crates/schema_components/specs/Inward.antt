-- Each part of a schema document is after the part that contains it.
use Rattle.std.specs.Prelude.{ℕ, Bool, true, false, ◌&&◌, nat_eq, nat_lt, List, [], ◌∷◌, Option, Some, None, slice_get}
use Rattle.base_trees.specs.Rose.{Rose, node, Roses}
use Rattle.base_trees.specs.Rose as rose
use Rattle.content_models.specs.declared.particles.ParticleKind.TheVariants as particle
use Rattle.content_models.specs.declared.particles.ParticleLabel.{ParticleLabel}
use Rattle.schema_components.specs.declared.declarations.RawContent.{RawContent}
use Rattle.schema_components.specs.declared.declarations.RawContent.TheVariants as content
use Rattle.schema_components.specs.Places.{local_place}
use Rattle.schema_components.specs.Raw.{Base, Named, Inner, Bases, none, more, How, Restrict, ListOf, UnionOf, Simple, Use, Complex, Kind, NamedKind, SimpleKind, ComplexKind, Element, Local, Reference, Own, Attribute, TypeDefinition, SimpleType, ComplexType}

-- ---- simple types: the definition after this place, and its `restriction`, `list` or `union` after that

abbrev pub is_behind : ℕ → ℕ → ℕ → Bool
is_behind place at body_at = nat_lt place at && nat_lt at body_at

abbrev mutual
  pub base_inward : ℕ → Base → Bool
  base_inward place (Named reference) = true
  base_inward place (Inner at body_at how) = is_behind place at body_at && how_inward body_at how

  pub how_inward : ℕ → How → Bool
  how_inward place (Restrict base facets) = base_inward place base
  how_inward place (ListOf item) = base_inward place item
  how_inward place (UnionOf members) = bases_inward place members

  pub bases_inward : ℕ → Bases → Bool
  bases_inward place none = true
  bases_inward place (more b bs) = base_inward place b && bases_inward place bs

abbrev pub simple_inward : ℕ → Simple → Bool
simple_inward place s = is_behind place s.at s.body_at && how_inward s.body_at s.how

-- ---- attribute uses

abbrev pub type_inward : ℕ → Option Base → Bool
type_inward place None = true
type_inward place (Some base) = base_inward place base

abbrev pub use_inward : ℕ → Use → Bool
use_inward place u = nat_lt place u.at && type_inward u.at u.kind

abbrev pub uses_inward : ℕ → List Use → Bool
uses_inward place [] = true
uses_inward place (u ∷ us) = use_inward place u && uses_inward place us

-- ---- content models

abbrev pub has_place : ℕ → Option Local → Bool
has_place at None = false
has_place at (Some local) = nat_eq (local_place local) at

-- An element of a content model has the place of its declaration.
abbrev pub label_declared : List Local → ParticleLabel → Bool
label_declared locals label =
    elim label.kind [ particle.Element decl name ↦ has_place label.at (slice_get locals decl) | particle.Sequence ↦ true | particle.Choice ↦ true | particle.All ↦ true ]

abbrev pub label_inward : List Local → ℕ → ParticleLabel → Bool
label_inward locals place label = nat_lt place label.at && label_declared locals label

abbrev mutual
  pub model_inward : List Local → ℕ → Rose ParticleLabel → Bool
  model_inward locals place (node label kids) = label_inward locals place label && each_inward locals label.at kids

  pub each_inward : List Local → ℕ → Roses ParticleLabel → Bool
  each_inward locals place rose.none = true
  each_inward locals place (rose.more t ts) = model_inward locals place t && each_inward locals place ts

abbrev pub content_inward : List Local → ℕ → RawContent → Bool
content_inward locals place content.Empty = true
content_inward locals place (content.Simple base at) = nat_lt place at
content_inward locals place (content.ElementOnly model) = model_inward locals place model
content_inward locals place (content.Mixed model) = model_inward locals place model

-- ---- components

abbrev pub body_inward : List Local → Complex → Bool
body_inward locals c = content_inward locals c.at c.content && uses_inward c.at c.uses

abbrev pub kind_inward : List Local → ℕ → Kind → Bool
kind_inward locals place (NamedKind reference) = true
kind_inward locals place (SimpleKind body) = simple_inward place body
kind_inward locals place (ComplexKind body) = nat_lt place body.at && body_inward locals body

abbrev pub local_inward : List Local → Local → Bool
local_inward locals (Reference name at) = true
local_inward locals (Own element) = kind_inward locals element.at element.kind

abbrev pub definition_inward : List Local → TypeDefinition → Bool
definition_inward locals (SimpleType name body) = nat_lt body.at body.body_at && how_inward body.body_at body.how
definition_inward locals (ComplexType name body) = body_inward locals body

abbrev pub elements_inward : List Local → List Element → Bool
elements_inward locals [] = true
elements_inward locals (e ∷ es) = kind_inward locals e.at e.kind && elements_inward locals es

abbrev pub attributes_inward : List Attribute → Bool
attributes_inward [] = true
attributes_inward (a ∷ others) = base_inward a.at a.kind && attributes_inward others

abbrev pub types_inward : List Local → List TypeDefinition → Bool
types_inward locals [] = true
types_inward locals (t ∷ ts) = definition_inward locals t && types_inward locals ts

-- The local declarations of the second list are inward, with the numbers of the first.
abbrev pub locals_inward : List Local → List Local → Bool
locals_inward locals [] = true
locals_inward locals (l ∷ ls) = local_inward locals l && locals_inward locals ls

abbrev pub all_inward : List Element → List Attribute → List TypeDefinition → List Local → Bool
all_inward elements attributes types locals =
    elements_inward locals elements && (attributes_inward attributes && (types_inward locals types && locals_inward locals locals))
