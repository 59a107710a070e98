-- The widths of the code's numbers and sizes: integers have 128 bits, and sizes 32.
use Rattle.std.specs.Prelude.{◌<◌, ◌^◌, All, Option, Some, None}
use Rattle.base_trees.specs.Rose.{Rose, node, Roses}
use Rattle.base_trees.specs.Rose as rose
use Rattle.simple_types.specs.Seen.{space_of}
use Rattle.simple_types.specs.Space.{Space, Spaces, none, more, Booleans, Wholes, Numbers, Words, Characters, ListOf, UnionOf}
use Rattle.content_models.specs.declared.particles.ParticleLabel.{ParticleLabel}
use Rattle.schema_components.specs.declared.components.SimpleDef.{SimpleDef}
use Rattle.schema_components.specs.declared.components.ComplexDef.{ComplexDef}
use Rattle.schema_components.specs.Components.{Set, model_of}
use Rattle.asn_types.specs.Bounds.{IsBound, AreWhole, IsSize}

-- ---- simple types

abbrev mutual
  pub IsWide : Space → Type 0
  IsWide Booleans = Unit {0}
  IsWide (Wholes least greatest) = IsBound least × IsBound greatest
  IsWide (Numbers numbers) = AreWhole numbers
  IsWide (Words how words) = Unit {0}
  IsWide (Characters how least most class) = (least < 2 ^ 32) × IsSize most
  IsWide (ListOf item least most) = IsWide item × (least < 2 ^ 32) × IsSize most
  IsWide (UnionOf members) = AreWide members

  pub AreWide : Spaces → Type 0
  AreWide none = Unit {0}
  AreWide (more s ss) = IsWide s × AreWide ss

-- ---- content models

abbrev pub IsWideLabel : ParticleLabel → Type 0
IsWideLabel label = (label.min < 2 ^ 32) × IsSize label.max

abbrev mutual
  pub IsWideModel : Rose ParticleLabel → Type 0
  IsWideModel (node label kids) = IsWideLabel label × AreWideModels kids

  pub AreWideModels : Roses ParticleLabel → Type 0
  AreWideModels rose.none = Unit {0}
  AreWideModels (rose.more t ts) = IsWideModel t × AreWideModels ts

abbrev pub IfWideModel : Option (Rose ParticleLabel) → Type 0
IfWideModel None = Unit {0}
IfWideModel (Some model) = IsWideModel model

-- ---- sets

pub record HasWidths (s : Set) : Type 0 where
  pub simples : All (λ (t : SimpleDef). IsWide (space_of t.space)) s.simples
  pub complexes : All (λ (c : ComplexDef). IfWideModel (model_of c.content)) s.complexes
