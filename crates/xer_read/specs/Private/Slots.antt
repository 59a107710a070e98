-- The child elements of an all: a slot for each of its particles, and the numbers of the particles in the order in which their
-- elements came.
use Rattle.std.specs.Prelude.{◌≡◌, ℕ, zero, suc, ◌+◌, ◌-◌, ◌^◌, ◌≤◌, ◌<◌, min, Bool, true, false, List, [], ◌∷◌, map, Option, Some, None}
use Rattle.base_trees.specs.Rose.{Rose, node, roses_of}
use Rattle.base_trees.specs.Rose as rose
use Rattle.base_flat_trees.specs.Zips.{added}
use Rattle.simple_types.specs.declared.labels.ValueLabel.{ValueLabel}
use Rattle.simple_types.specs.declared.labels.ValueLabel.TheVariants as value
use Rattle.content_models.specs.Particle.{Particle, occurs, all, Particles, none, more}
use Rattle.value_builder.specs.Built.{Built, nothing_of, Stands}
use Rattle.value_contents.specs.Made.{Child}
use Rattle.xer_read.specs.declared.gathering.Gathered.{Gathered}

-- ---- slots

-- no child element came yet
abbrev pub none_for : {A : Type 0} → Particles → List (Option A)
none_for none = []
none_for (more p ps) = None ∷ none_for ps

abbrev pub no_slots : {A : Type 0} → Particle → List (Option A)
no_slots (occurs (all ps) least most) = none_for ps
no_slots _ = []

-- one came for the particle with this number
abbrev pub filled_at : {A : Type 0} → List (Option A) → ℕ → A → List (Option A)
filled_at [] i x = []
filled_at (o ∷ os) zero x = Some x ∷ os
filled_at (o ∷ os) (suc i) x = o ∷ filled_at os i x

-- which stand, and those that stand
abbrev pub flags_of : {A : Type 0} → List (Option A) → List Bool
flags_of [] = []
flags_of (None ∷ os) = false ∷ flags_of os
flags_of (Some x ∷ os) = true ∷ flags_of os

abbrev pub all_of : {A : Type 0} → List (Option A) → List A
all_of [] = []
all_of (None ∷ os) = all_of os
all_of (Some x ∷ os) = x ∷ all_of os

-- the values of child elements
abbrev pub values_of : List (Option Child) → List (Rose ValueLabel)
values_of [] = []
values_of (None ∷ os) = values_of os
values_of (Some g ∷ os) = g.value ∷ values_of os

-- ---- as the code has them

-- each value stands in a builder of its own, which counts its nodes
abbrev pub AreSlots : List (Option Built) → List (Option Child) → Type 0
AreSlots [] [] = Unit {0}
AreSlots (None ∷ bs) (None ∷ os) = AreSlots bs os
AreSlots (Some b ∷ bs) (Some g ∷ os) = (1 ≤ b.most) × Stands b (added g.value (nothing_of 0).kept) × AreSlots bs os
AreSlots _ _ = ⊥

-- and keeps them
abbrev pub AllFit : List (Option Built) → Type 0
AllFit [] = Unit {0}
AllFit (None ∷ bs) = AllFit bs
AllFit (Some b ∷ bs) = (b.nodes ≤ b.most) × AllFit bs

-- how many nodes were counted
abbrev pub nodes_in : List (Option Built) → ℕ
nodes_in [] = 0
nodes_in (None ∷ bs) = nodes_in bs
nodes_in (Some b ∷ bs) = b.nodes + nodes_in bs

-- Where any node may be kept, these child elements came in the order of these numbers. Their values are kept as long as they and
-- the nodes outside are no more than may be kept.
pub record Keeps (g : Gathered) (numbers : List ℕ) (children : List (Option Child)) : Type 0 where
  pub small : g.most < 2 ^ 32
  pub slots_are : 1 ≤ g.most → AreSlots g.slots.items children
  pub nodes_are : 1 ≤ g.most → g.nodes ≡ min (nodes_in g.slots.items) (2 ^ 64 - 1)
  pub fit : 1 ≤ g.most → g.outside + g.nodes ≤ g.most → AllFit g.slots.items
  pub numbers_are : 1 ≤ g.most → g.numbers.items ≡ numbers

-- ---- the parts for them

-- those of the element's own SEQUENCE, or of one part of it where the element may be nil
abbrev pub part_flags : Bool → List (Option Child) → List Bool
part_flags false children = flags_of children
part_flags true children = true ∷ []

abbrev pub part_values : Bool → List (Option Child) → List (Rose ValueLabel)
part_values false children = values_of children
part_values true children = node (value.Sequence (flags_of children)) (roses_of (values_of children)) ∷ []

-- the numbers as a SEQUENCE OF ENUMERATED
abbrev pub number_value : ℕ → Rose ValueLabel
number_value n = node (value.Enum n) rose.none

abbrev pub order_value : List ℕ → Rose ValueLabel
order_value numbers = node value.SequenceOf (roses_of (map number_value numbers))
