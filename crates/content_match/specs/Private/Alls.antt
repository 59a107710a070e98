-- The invariants of the plan and of a matcher of an all.
use Rattle.std.specs.Prelude.{◌≡◌, ℕ, suc, ◌^◌, ◌<◌, List, [], ◌∷◌, length, Option, Some, None, MatchOption, Bool, true, false, not}
use Rattle.base_trees.specs.Rose.{Rose, roses_of, label_of, depth_all}
use Rattle.base_texts.specs.declared.texts.Name.{Name}
use Rattle.content_models.specs.Particle.{Particle, occurs, all, Particles, none, more}
use Rattle.content_models.specs.Clear.{empties}
use Rattle.content_models.specs.Spots.{picked, pick, missing, unmarked}
use Rattle.content_match.specs.Private.Plans.{count_of, pick_one, is_needed, TellsOne, ArePlans, particles_of}
use Rattle.content_match.specs.Private.Standing.{spot_among, IsLeafAt, SamePlace}
use Rattle.content_match.specs.declared.places.Leaf.{Leaf}
use Rattle.content_match.specs.declared.places.Position.{Position}
use Rattle.content_match.specs.declared.plans.AllPlan.{AllPlan}
use Rattle.content_match.specs.declared.plans.PlanLabel.{PlanLabel}

-- the content model that is an all of these
abbrev pub whole : Particles → Particle
whole ps = occurs (all ps) 1 (Some 1)

-- the children of an all
abbrev pub kids_in : AllPlan → Particles
kids_in a = particles_of (roses_of a.kids.items)

abbrev pub levels_in : AllPlan → ℕ
levels_in a = suc (depth_all (roses_of a.kids.items))

-- for each child, whether it may not be empty
abbrev pub needed : List (Rose PlanLabel) → List Bool
needed [] = []
needed (t ∷ ts) = is_needed (label_of t) ∷ needed ts

-- the number of flags that are set
abbrev pub wanted_in : List Bool → ℕ
wanted_in [] = 0
wanted_in (true ∷ bs) = suc (wanted_in bs)
wanted_in (false ∷ bs) = wanted_in bs

-- for each child a mark, which is not set
abbrev pub no_marks : List (Rose PlanLabel) → List Bool
no_marks [] = []
no_marks (t ∷ ts) = false ∷ no_marks ts

-- The plans are those of the children, the table gives the child of a name, and the number is that of the children that may not
-- be empty.
pub record IsAllPlan (a : AllPlan) : Type 0 where
  pub tells : TellsOne a.group (kids_in a)
  pub are_plans : ArePlans 1 (kids_in a) (roses_of a.kids.items)
  pub count : a.required ≡ wanted_in (needed a.kids.items)
  pub few : length a.kids.items < 2 ^ 32

abbrev pub AreRequired : Particles → List Bool → Type 0
AreRequired none [] = Unit {0}
AreRequired none (b ∷ bs) = ⊥
AreRequired (more p ps) [] = ⊥
AreRequired (more p ps) (b ∷ bs) = (b ≡ not (empties p)) × AreRequired ps bs

-- There is a mark for each child, and `left` is the number of children without a mark that may not be empty.
pub record IsMarked (ps : Particles) (required marks : List Bool) (left : ℕ) : Type 0 where
  pub required_are : AreRequired ps required
  pub marks_fit : length marks ≡ count_of ps
  pub left_is : left ≡ missing ps marks

-- Before the first leaf no child has a mark.
abbrev pub AreMarks : Particles → List ℕ → List Bool → Type 0
AreMarks ps [] ms = ms ≡ unmarked ps
AreMarks ps (k ∷ ks) ms = Unit {0}

-- If the result is `None`, a name that begins the child can't come next, and the position is unchanged. Otherwise the child
-- matches, and the result is its leaf.
abbrev pub KidTaken : AllPlan → ℕ → Position → Position → Option Leaf → Type 0
KidTaken a k old new result =
    MatchOption result
    (((b : Name) → pick_one (kids_in a) b ≡ Some k → pick (kids_in a) old.marks.items b ≡ None) × SamePlace old new)
    (λ leaf. ((b : Name) → pick_one (kids_in a) b ≡ Some k → pick (kids_in a) old.marks.items b ≡ Some (picked k new.marks.items))
    × (new.kids.items ≡ k ∷ []) × (new.turns.items ≡ record { particle = 0; turn = 0 } ∷ record { particle = leaf.particle; turn = 0 } ∷ [])
    × IsLeafAt (whole (kids_in a)) (spot_among new.kids.items new.marks.items) new.turns.items leaf)
