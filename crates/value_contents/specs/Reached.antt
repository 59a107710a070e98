-- What is appended of a content model's value when the path to a leaf is open. The child elements before the leaf are in their
-- parts. Each group on the path is open, with empty parts for its empty particles before the leaf. The child element at the leaf
-- comes next. In an all no path is open: its child elements come in any order, and each has a value of its own.
use Rattle.std.specs.Prelude.{◌≡◌, ℕ, zero, suc, Bool, true, false, List, [], ◌∷◌, ◌++◌, length, Option, Some, None}
use Rattle.base_trees.specs.Rose.{Rose}
use Rattle.base_flat_trees.specs.Zips.{Zip, opened, added, added_all}
use Rattle.simple_types.specs.declared.labels.ValueLabel.{ValueLabel}
use Rattle.simple_types.specs.declared.labels.ValueLabel.TheVariants as value
use Rattle.simple_types.specs.Lexical.{is_at_most}
use Rattle.content_models.specs.Particle.{Particle, occurs, Term, element, sequence, choice, all, Particles, none, more}
use Rattle.content_models.specs.Clear.{Rule1}
use Rattle.content_models.specs.Occurring.{MayOccur}
use Rattle.content_models.specs.Spots.{Spot, at, Inner, here, inside, among}
use Rattle.value_builder.specs.Built.{flagged, with_parts}
use Rattle.value_contents.specs.Bounds.{is_single, is_parted}
use Rattle.value_contents.specs.Made.{Child, Each, TermMade, PartsMade}

-- The occurrences of a SEQUENCE OF before this one are made from the child elements a.
pub record Before (B : Rose ValueLabel → List Child → Type 0) (most : Option ℕ) (i : ℕ) (vs : List (Rose ValueLabel)) (a : List Child) : Type 0 where
  pub count : length vs ≡ i
  pub within : is_at_most (suc i) most ≡ true
  pub each : Each B vs a

abbrev mutual
  -- The path in a particle, after what was appended so far. gs are the child elements in it before the leaf. The leaf is one of the
  -- declaration d.
  pub Reached : Bool → Particle → Spot → List Child → ℕ → Zip ValueLabel → Zip ValueLabel → Type 0
  Reached in_choice (occurs t least most) (at i s) gs d before now =
      elim (is_single in_choice least most) as (λ _. Type 0) [
        | true ↦ (i ≡ 0) × TermReached t s gs d before now
        | false ↦ (vs : List (Rose ValueLabel)) × (a : List Child) × (b : List Child) × (gs ≡ a ++ b) × Before (TermMade t) most i vs a
            × TermReached t s b d (added_all vs (opened value.SequenceOf before)) now
      ]

  -- The path in one occurrence.
  pub TermReached : Term → Inner → List Child → ℕ → Zip ValueLabel → Zip ValueLabel → Type 0
  TermReached (element e a) here gs d before now = (gs ≡ []) × (e ≡ d) × (now ≡ before)
  TermReached (element e a) (inside j s) gs d before now = ⊥
  TermReached (element e a) (among j ms) gs d before now = ⊥
  TermReached (sequence ps) s gs d before now = OrderReached ps s gs d (opened (value.Sequence []) before) now
  TermReached (choice ps) here gs d before now = ⊥
  TermReached (choice ps) (inside j s) gs d before now = OneReached ps j s gs d (opened (value.Choice j) before) now
  TermReached (choice ps) (among j ms) gs d before now = ⊥
  TermReached (all ps) s gs d before now = ⊥

  -- The path in the particles of a sequence, whose parts are those of the innermost open SEQUENCE.
  pub OrderReached : Particles → Inner → List Child → ℕ → Zip ValueLabel → Zip ValueLabel → Type 0
  OrderReached none s gs d before now = ⊥
  OrderReached (more p ps) here gs d before now = ⊥
  OrderReached (more p ps) (among j ms) gs d before now = ⊥
  OrderReached (more p ps) (inside zero s) gs d before now = Reached false p s gs d (flagged true before) now
  OrderReached (more p ps) (inside (suc j) s) gs d before now =
      (flags : List Bool) × (vs : List (Rose ValueLabel)) × (a : List Child) × (b : List Child) × (gs ≡ a ++ b) × PartsMade (more p none) flags vs a
      × OrderReached ps (inside j s) b d (with_parts flags vs before) now

  -- The path in the alternative with this number.
  pub OneReached : Particles → ℕ → Spot → List Child → ℕ → Zip ValueLabel → Zip ValueLabel → Type 0
  OneReached none j s gs d before now = ⊥
  OneReached (more p ps) zero s gs d before now = Reached true p s gs d before now
  OneReached (more p ps) (suc j) s gs d before now = OneReached ps j s gs d before now

abbrev pub PartedReached : Term → Spot → List Child → ℕ → Zip ValueLabel → Zip ValueLabel → Type 0
PartedReached (sequence ps) (at i s) gs d before now = (i ≡ 0) × OrderReached ps s gs d before now
PartedReached _ s gs d before now = ⊥

-- The path in a content model, whose parts are those of the innermost open SEQUENCE.
abbrev pub TopReached : Particle → Spot → List Child → ℕ → Zip ValueLabel → Zip ValueLabel → Type 0
TopReached (occurs t least most) s gs d before now =
    elim (is_parted t least most) as (λ _. Type 0) [
      | true ↦ PartedReached t s gs d before now
      | false ↦ OrderReached (more (occurs t least most) none) (inside 0 s) gs d before now
    ]

-- These child elements were appended: none yet, or the last of them at the leaf of the spot.
abbrev pub Put : Particle → Option Spot → List Child → Zip ValueLabel → Zip ValueLabel → Type 0
Put p None gs before now = (gs ≡ []) × (now ≡ before)
Put p (Some s) gs before now =
    (front : List Child) × (last : Child) × (way : Zip ValueLabel) × (gs ≡ front ++ last ∷ []) × TopReached p s front last.decl before way × (now ≡ added last.value way)

-- ---- what is required of a content model

-- The bounds of each particle are 1 and 1, or no occurrence of it is empty. None is an all.
abbrev mutual
  pub KeepsRule1 : Particle → Type 0
  KeepsRule1 (occurs t least most) = Rule1 t least most × TermKeepsRule1 t

  pub TermKeepsRule1 : Term → Type 0
  TermKeepsRule1 (element d a) = Unit {0}
  TermKeepsRule1 (sequence ps) = AllKeepRule1 ps
  TermKeepsRule1 (choice ps) = AllKeepRule1 ps
  TermKeepsRule1 (all ps) = ⊥

  pub AllKeepRule1 : Particles → Type 0
  AllKeepRule1 none = Unit {0}
  AllKeepRule1 (more p ps) = KeepsRule1 p × AllKeepRule1 ps

abbrev pub IsFillable : Particle → Type 0
IsFillable p = MayOccur p × KeepsRule1 p
