-- The levels of content models.
use Rattle.std.proofs.Common.{◌≤◌, arith}
use Rattle.base_trees.specs.Rose.{Rose}
use Rattle.content_models.specs.declared.particles.ParticleLabel.{ParticleLabel}
use Rattle.content_models.specs.Seen.{seen}
use Rattle.content_match.specs.Taking.{levels}
use Rattle.content_match.proofs.Compiled.{levels_le}
use Rattle.schema_components.specs.Components.{Set}
use Rattle.schema_components.specs.Linked.{IsModel}

pub model_levels : (s : Set) (m : Rose ParticleLabel) → IsModel s m → levels (seen m) ≤ 17
model_levels s m h = let low = levels_le m in let high = h.shallow in omega (arith, low, high)
