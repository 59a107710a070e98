-- What is appended between one leaf and the next.
use Rattle.std.specs.Prelude.{ℕ, zero, suc, ◌==◌, Bool, true, false, cond, []}
use Rattle.base_flat_trees.specs.Zips.{Zip, opened, closed}
use Rattle.simple_types.specs.declared.labels.ValueLabel.{ValueLabel}
use Rattle.simple_types.specs.declared.labels.ValueLabel.TheVariants as value
use Rattle.content_models.specs.Particle.{Particle, occurs, Term, element, sequence, choice, all, Particles, none, more}
use Rattle.content_models.specs.Spots.{Spot, at, Inner, here, inside, among}
use Rattle.value_builder.specs.Built.{flagged}
use Rattle.value_contents.specs.Bounds.{is_single, is_parted}
use Rattle.value_contents.specs.Private.Empty.{emptied}

-- The occurrence of a particle that a spot is in. `inner_in` is the spot in that occurrence.
abbrev pub turn_in : Spot → ℕ
turn_in (at i s) = i

abbrev pub inner_in : Spot → Inner
inner_in (at i s) = s

-- A SEQUENCE OF is opened or closed, if a particle isn't single.
abbrev pub items_opened : Bool → Zip ValueLabel → Zip ValueLabel
items_opened single z = cond single z (opened value.SequenceOf z)

abbrev pub items_closed : Bool → Zip ValueLabel → Zip ValueLabel
items_closed single z = cond single z (closed z)

abbrev mutual
  -- The path into a particle is opened.
  pub entered : Bool → Particle → Spot → Zip ValueLabel → Zip ValueLabel
  entered in_choice (occurs t least most) (at i s) z = entered_term t s (items_opened (is_single in_choice least most) z)

  pub entered_term : Term → Inner → Zip ValueLabel → Zip ValueLabel
  entered_term (element d a) s z = z
  entered_term (sequence ps) s z = entered_order ps s (opened (value.Sequence []) z)
  entered_term (choice ps) here z = z
  entered_term (choice ps) (inside j s) z = entered_one ps j s (opened (value.Choice j) z)
  entered_term (choice ps) (among j ms) z = z
  entered_term (all ps) s z = z

  pub entered_order : Particles → Inner → Zip ValueLabel → Zip ValueLabel
  entered_order none s z = z
  entered_order (more p ps) here z = z
  entered_order (more p ps) (among j ms) z = z
  entered_order (more p ps) (inside zero s) z = entered false p s (flagged true z)
  entered_order (more p ps) (inside (suc j) s) z = entered_order ps (inside j s) (emptied (more p none) z)

  pub entered_one : Particles → ℕ → Spot → Zip ValueLabel → Zip ValueLabel
  entered_one none j s z = z
  entered_one (more p ps) zero s z = entered true p s z
  entered_one (more p ps) (suc j) s z = entered_one ps j s z

abbrev mutual
  -- What is open of a particle is closed after the leaf.
  pub ended : Bool → Particle → Spot → Zip ValueLabel → Zip ValueLabel
  ended in_choice (occurs t least most) (at i s) z = items_closed (is_single in_choice least most) (ended_term t s z)

  pub ended_term : Term → Inner → Zip ValueLabel → Zip ValueLabel
  ended_term (element d a) s z = z
  ended_term (sequence ps) s z = closed (ended_order ps s z)
  ended_term (choice ps) here z = z
  ended_term (choice ps) (inside j s) z = closed (ended_one ps j s z)
  ended_term (choice ps) (among j ms) z = z
  ended_term (all ps) s z = z

  pub ended_order : Particles → Inner → Zip ValueLabel → Zip ValueLabel
  ended_order none s z = z
  ended_order (more p ps) here z = z
  ended_order (more p ps) (among j ms) z = z
  ended_order (more p ps) (inside zero s) z = emptied ps (ended false p s z)
  ended_order (more p ps) (inside (suc j) s) z = ended_order ps (inside j s) z

  pub ended_one : Particles → ℕ → Spot → Zip ValueLabel → Zip ValueLabel
  ended_one none j s z = z
  ended_one (more p ps) zero s z = ended true p s z
  ended_one (more p ps) (suc j) s z = ended_one ps j s z

abbrev mutual
  -- The move from one leaf of a particle to the next.
  pub moved : Particle → Spot → Spot → Zip ValueLabel → Zip ValueLabel
  moved (occurs t least most) (at i s) (at j u) z = cond (i == j) (moved_term t s u z) (entered_term t u (ended_term t s z))

  pub moved_term : Term → Inner → Inner → Zip ValueLabel → Zip ValueLabel
  moved_term (element d a) s u z = z
  moved_term (sequence ps) s u z = moved_order ps s u z
  moved_term (choice ps) here u z = z
  moved_term (choice ps) (inside j s) here z = z
  moved_term (choice ps) (inside j s) (among k ms) z = z
  moved_term (choice ps) (among j ms) u z = z
  moved_term (all ps) s u z = z
  moved_term (choice ps) (inside j s) (inside k u) z = moved_one ps j s u z

  pub moved_order : Particles → Inner → Inner → Zip ValueLabel → Zip ValueLabel
  moved_order none s u z = z
  moved_order (more p ps) here u z = z
  moved_order (more p ps) (inside j s) here z = z
  moved_order (more p ps) (inside j s) (among k ms) z = z
  moved_order (more p ps) (among j ms) u z = z
  moved_order (more p ps) (inside zero s) (inside zero u) z = moved p s u z
  moved_order (more p ps) (inside zero s) (inside (suc k) u) z = entered_order ps (inside k u) (ended false p s z)
  moved_order (more p ps) (inside (suc j) s) (inside zero u) z = z
  moved_order (more p ps) (inside (suc j) s) (inside (suc k) u) z = moved_order ps (inside j s) (inside k u) z

  pub moved_one : Particles → ℕ → Spot → Spot → Zip ValueLabel → Zip ValueLabel
  moved_one none j s u z = z
  moved_one (more p ps) zero s u z = moved p s u z
  moved_one (more p ps) (suc j) s u z = moved_one ps j s u z

-- ---- a content model

abbrev pub order_entered : Term → Inner → Zip ValueLabel → Zip ValueLabel
order_entered (sequence ps) s z = entered_order ps s z
order_entered _ s z = z

abbrev pub top_entered : Particle → Spot → Zip ValueLabel → Zip ValueLabel
top_entered (occurs t least most) s z =
    cond (is_parted t least most) (order_entered t (inner_in s) z) (entered false (occurs t least most) s (flagged true z))

abbrev pub order_moved : Term → Inner → Inner → Zip ValueLabel → Zip ValueLabel
order_moved (sequence ps) s u z = moved_order ps s u z
order_moved _ s u z = z

abbrev pub top_moved : Particle → Spot → Spot → Zip ValueLabel → Zip ValueLabel
top_moved (occurs t least most) s u z =
    cond (is_parted t least most) (order_moved t (inner_in s) (inner_in u) z) (moved (occurs t least most) s u z)

abbrev pub order_ended : Term → Inner → Zip ValueLabel → Zip ValueLabel
order_ended (sequence ps) s z = ended_order ps s z
order_ended _ s z = z

abbrev pub top_ended : Particle → Spot → Zip ValueLabel → Zip ValueLabel
top_ended (occurs t least most) s z =
    cond (is_parted t least most) (order_ended t (inner_in s) z) (ended false (occurs t least most) s z)

abbrev pub order_emptied : Term → Zip ValueLabel → Zip ValueLabel
order_emptied (sequence ps) z = emptied ps z
order_emptied (all ps) z = emptied ps z
order_emptied _ z = z

abbrev pub top_emptied : Particle → Zip ValueLabel → Zip ValueLabel
top_emptied (occurs t least most) z =
    cond (is_parted t least most) (order_emptied t z) (emptied (more (occurs t least most) none) z)
