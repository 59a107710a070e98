-- The content of an element by its values.
use Rattle.std.specs.Prelude.{ℕ, Bool, List}
use Rattle.base_trees.specs.Rose.{Rose, node, roses_of}
use Rattle.simple_types.specs.declared.labels.ValueLabel.{ValueLabel}
use Rattle.simple_types.specs.declared.labels.ValueLabel.TheVariants as value
use Rattle.content_models.specs.declared.particles.ParticleLabel.{ParticleLabel}
use Rattle.value_contents.specs.Made.{Child}

-- what stands in an element beside the texts of mixed content
pub data Beside : Type 0 where
  nil : Beside
  nothing : Beside
  text : Rose ValueLabel → Beside
  children : Rose ParticleLabel → List Child → Beside
  -- the child elements of an all, in the order of its particles, with a flag for each particle
  ordered : Rose ParticleLabel → List Bool → List Child → Beside

-- with those texts, and with the numbers of an all's particles in the order of the child elements
pub record Held : Type 0 where
  pub texts : List (Rose ValueLabel)
  pub order : List ℕ
  pub rest : Beside

-- the texts as one value
abbrev pub texts_of : Held → Rose ValueLabel
texts_of held = node value.SequenceOf (roses_of held.texts)
