-- The parts for particles without child elements.
use Rattle.std.specs.Prelude.{ℕ, suc, Bool, not, cond, List, [], ◌∷◌}
use Rattle.base_trees.specs.Rose.{Rose, node, label_of, kids_of, roses_of}
use Rattle.base_trees.specs.Rose as rose
use Rattle.base_flat_trees.specs.Zips.{Zip}
use Rattle.simple_types.specs.declared.labels.ValueLabel.{ValueLabel}
use Rattle.simple_types.specs.declared.labels.ValueLabel.TheVariants as value
use Rattle.content_models.specs.declared.particles.ParticleLabel.{ParticleLabel}
use Rattle.content_models.specs.Seen.{term_seen, all_seen}
use Rattle.content_models.specs.Particle.{Particle, occurs, Term, element, sequence, choice, all, Particles, none, more}
use Rattle.content_models.specs.Clear.{empties}
use Rattle.value_builder.specs.Built.{with_parts}
use Rattle.value_contents.specs.Bounds.{is_once, is_optional}

-- The term of a particle.
abbrev pub term_of : Rose ParticleLabel → Term
term_of t = term_seen (label_of t).kind (all_seen (roses_of (kids_of t)))

abbrev pub may_be_left_out : Particle → Bool
may_be_left_out (occurs t least most) = is_optional least most

-- A flag for each particle.
abbrev pub empty_flags : Particles → List Bool
empty_flags none = []
empty_flags (more p ps) = not (may_be_left_out p) ∷ empty_flags ps

-- The number of the first alternative that may be without child elements.
abbrev pub empty_place : Particles → ℕ
empty_place none = 0
empty_place (more p ps) = cond (empties p) 0 (suc (empty_place ps))

abbrev mutual
  -- The value of a particle without child elements.
  pub empty_value : Particle → Rose ValueLabel
  empty_value (occurs t least most) = cond (is_once least most) (empty_term t) (node value.SequenceOf rose.none)

  pub empty_term : Term → Rose ValueLabel
  empty_term (element d a) = node value.SequenceOf rose.none
  empty_term (sequence ps) = node (value.Sequence (empty_flags ps)) (roses_of (empty_values ps))
  empty_term (choice ps) = node (value.Choice (empty_place ps)) (rose.more (empty_chosen ps) rose.none)
  empty_term (all ps) = node value.SequenceOf rose.none

  -- The values of those particles that can't be absent.
  pub empty_values : Particles → List (Rose ValueLabel)
  empty_values none = []
  empty_values (more p ps) = cond (may_be_left_out p) (empty_values ps) (empty_value p ∷ empty_values ps)

  pub empty_chosen : Particles → Rose ValueLabel
  empty_chosen none = node value.SequenceOf rose.none
  empty_chosen (more p ps) = cond (empties p) (empty_value p) (empty_chosen ps)

-- The innermost open SEQUENCE has the parts for these particles more.
abbrev pub emptied : Particles → Zip ValueLabel → Zip ValueLabel
emptied ps z = with_parts (empty_flags ps) (empty_values ps) z
