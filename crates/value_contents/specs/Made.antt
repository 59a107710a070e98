-- How a value of a content model is made from the values of child elements. It has a part for each particle, which has the child
-- elements of that particle in their order. The child elements of an all are in the order of its particles, not in that of the
-- document.
use Rattle.std.specs.Prelude.{◌≡◌, ℕ, zero, suc, Bool, true, false, nat_le, List, [], ◌∷◌, ◌++◌, length, Option}
use Rattle.base_trees.specs.Rose.{Rose, node, roses_of}
use Rattle.base_trees.specs.Rose as rose
use Rattle.simple_types.specs.declared.labels.ValueLabel.{ValueLabel}
use Rattle.simple_types.specs.declared.labels.ValueLabel.TheVariants as value
use Rattle.simple_types.specs.Lexical.{is_at_most}
use Rattle.content_models.specs.Particle.{Particle, occurs, Term, element, sequence, choice, all, Particles, none, more}
use Rattle.value_contents.specs.Bounds.{is_optional, is_single, is_parted}

-- A child element, by its declaration and its value.
pub record Child : Type 0 where
  pub decl : ℕ
  pub value : Rose ValueLabel

-- Each value in turn is made from the next child elements.
abbrev pub Each : (Rose ValueLabel → List Child → Type 0) → List (Rose ValueLabel) → List Child → Type 0
Each B [] gs = gs ≡ []
Each B (v ∷ vs) gs = (a : List Child) × (b : List Child) × (gs ≡ a ++ b) × B v a × Each B vs b

-- The value is a SEQUENCE OF a number of occurrences within the bounds.
abbrev pub Several : (Rose ValueLabel → List Child → Type 0) → ℕ → Option ℕ → Rose ValueLabel → List Child → Type 0
Several B least most v gs =
    (vs : List (Rose ValueLabel)) × (v ≡ node value.SequenceOf (roses_of vs))
    × (nat_le least (length vs) ≡ true) × (is_at_most (length vs) most ≡ true) × Each B vs gs

-- The value of a present particle: that of its one occurrence, or of several.
abbrev pub Standing : (Rose ValueLabel → List Child → Type 0) → Bool → ℕ → Option ℕ → Rose ValueLabel → List Child → Type 0
Standing B in_choice least most v gs =
    elim (is_single in_choice least most) as (λ _. Type 0) [ true ↦ B v gs | false ↦ Several B least most v gs ]

-- The child elements are one of this declaration, with this value.
abbrev pub IsOne : ℕ → Rose ValueLabel → List Child → Type 0
IsOne d v gs = (g : Child) × (gs ≡ g ∷ []) × (g.decl ≡ d) × (g.value ≡ v)

abbrev mutual
  -- The value of one occurrence. An all has none, because it appears only at the top.
  pub TermMade : Term → Rose ValueLabel → List Child → Type 0
  TermMade (element d a) v gs = IsOne d v gs
  TermMade (sequence ps) v gs =
      (flags : List Bool) × (vs : List (Rose ValueLabel)) × (v ≡ node (value.Sequence flags) (roses_of vs)) × PartsMade ps flags vs gs
  TermMade (choice ps) v gs = (i : ℕ) × (w : Rose ValueLabel) × (v ≡ node (value.Choice i) (rose.more w rose.none)) × ChosenMade ps i w gs
  TermMade (all ps) v gs = ⊥

  -- The parts for particles: a flag for each, and the values of those that are present.
  pub PartsMade : Particles → List Bool → List (Rose ValueLabel) → List Child → Type 0
  PartsMade none [] [] gs = gs ≡ []
  PartsMade (more (occurs t least most) ps) (true ∷ flags) (v ∷ vs) gs =
      (a : List Child) × (b : List Child) × (gs ≡ a ++ b) × Standing (TermMade t) false least most v a × PartsMade ps flags vs b
  PartsMade (more (occurs t least most) ps) (false ∷ flags) vs gs = (is_optional least most ≡ true) × PartsMade ps flags vs gs
  PartsMade _ _ _ _ = ⊥

  -- The alternative with this number.
  pub ChosenMade : Particles → ℕ → Rose ValueLabel → List Child → Type 0
  ChosenMade none i v gs = ⊥
  ChosenMade (more (occurs t least most) ps) zero v gs = Standing (TermMade t) true least most v gs
  ChosenMade (more (occurs t least most) ps) (suc i) v gs = ChosenMade ps i v gs

abbrev pub PartedMade : Term → List Bool → List (Rose ValueLabel) → List Child → Type 0
PartedMade (sequence ps) flags vs gs = PartsMade ps flags vs gs
PartedMade (all ps) flags vs gs = PartsMade ps flags vs gs
PartedMade _ flags vs gs = ⊥

-- The parts for a top particle.
abbrev pub TopMade : Particle → List Bool → List (Rose ValueLabel) → List Child → Type 0
TopMade (occurs t least most) flags vs gs =
    elim (is_parted t least most) as (λ _. Type 0) [ true ↦ PartedMade t flags vs gs | false ↦ PartsMade (more (occurs t least most) none) flags vs gs ]
