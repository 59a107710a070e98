-- Bounds and depths of content models, and the order of places.
use Rattle.std.specs.Prelude.{ℕ, Bool, true, ◌&&◌, nat_le, nat_lt, List, [], ◌∷◌, Option, Some, None}
use Rattle.base_trees.specs.Rose.{Rose, node, Roses, height}
use Rattle.base_trees.specs.Rose as rose
use Rattle.content_models.specs.declared.particles.ParticleLabel.{ParticleLabel}
use Rattle.schema_components.specs.declared.declarations.RawContent.{RawContent}
use Rattle.schema_components.specs.declared.declarations.RawContent.TheVariants as content
use Rattle.schema_components.specs.Raw.{Kind, NamedKind, SimpleKind, ComplexKind, Element, Local, Reference, Own, TypeDefinition, SimpleType, ComplexType}

-- The bounds allow an occurrence (XML Schema Part 1, section 3.9.6): `minOccurs` is at most `maxOccurs`, which isn't 0.
abbrev pub allow_one : ℕ → Option ℕ → Bool
allow_one least None = true
allow_one least (Some most) = nat_le least most && nat_le 1 most

abbrev mutual
  pub all_allow_one : Rose ParticleLabel → Bool
  all_allow_one (node label kids) = allow_one label.min label.max && each_allows_one kids

  pub each_allows_one : Roses ParticleLabel → Bool
  each_allows_one rose.none = true
  each_allows_one (rose.more t ts) = all_allow_one t && each_allows_one ts

-- The bounds allow an occurrence, and there are at most 16 levels of groups, with the elements below them.
abbrev pub fits : Rose ParticleLabel → Bool
fits model = nat_le (height model) 17 && all_allow_one model

abbrev pub content_fits : RawContent → Bool
content_fits content.Empty = true
content_fits (content.Simple base at) = true
content_fits (content.ElementOnly model) = fits model
content_fits (content.Mixed model) = fits model

abbrev pub kind_fits : Kind → Bool
kind_fits (NamedKind reference) = true
kind_fits (SimpleKind body) = true
kind_fits (ComplexKind body) = content_fits body.content

abbrev pub local_fits : Local → Bool
local_fits (Reference name at) = true
local_fits (Own element) = kind_fits element.kind

abbrev pub type_fits : TypeDefinition → Bool
type_fits (SimpleType name body) = true
type_fits (ComplexType name body) = content_fits body.content

abbrev pub elements_fit : List Element → Bool
elements_fit [] = true
elements_fit (e ∷ es) = kind_fits e.kind && elements_fit es

abbrev pub types_fit : List TypeDefinition → Bool
types_fit [] = true
types_fit (t ∷ ts) = type_fits t && types_fit ts

abbrev pub locals_fit : List Local → Bool
locals_fit [] = true
locals_fit (l ∷ ls) = local_fits l && locals_fit ls

-- Each content model of a document fits.
abbrev pub all_fit : List Element → List TypeDefinition → List Local → Bool
all_fit elements types locals = elements_fit elements && (types_fit types && locals_fit locals)

-- ---- places

abbrev pub follow : ℕ → List ℕ → Bool
follow place [] = true
follow place (p ∷ ps) = nat_lt place p && follow p ps

-- Each place is greater than the one before.
abbrev pub ascend : List ℕ → Bool
ascend [] = true
ascend (p ∷ ps) = follow p ps
