-- The plan of a content model and the position of a matcher, for an all or another particle.
use Rattle.std.specs.Prelude.{◌≡◌, ℕ, ◌≤◌, List, [], Option, None, MatchOption, Bool, true, false}
use Rattle.std.specs.Vec.{vec_capacity}
use Rattle.base_trees.specs.Rose.{height}
use Rattle.base_texts.specs.declared.texts.Name.{Name}
use Rattle.content_models.specs.Particle.{Particle, occurs, Term, element, sequence, choice, all}
use Rattle.content_models.specs.Spots.{Spot}
use Rattle.content_models.specs.SpotLaws.{step_from}
use Rattle.content_match.specs.Private.Alls.{whole, kids_in, levels_in, needed, no_marks, IsAllPlan, IsMarked, AreMarks}
use Rattle.content_match.specs.Private.Plans.{IsPlan, particle_of}
use Rattle.content_match.specs.Private.Standing.{OnWay, spot_in, IsLeafAt, SamePlace}
use Rattle.content_match.specs.declared.places.Leaf.{Leaf}
use Rattle.content_match.specs.declared.places.Position.{Position}
use Rattle.content_match.specs.declared.plans.TopPlan.{TopPlan}
use Rattle.content_match.specs.declared.plans.TopPlan.TheVariants.{Tree as TreePlan, All as WholePlan}

abbrev pub is_all_term : Term → Bool
is_all_term (element d a) = false
is_all_term (sequence ps) = false
is_all_term (choice ps) = false
is_all_term (all ps) = true

abbrev pub is_all : Particle → Bool
is_all (occurs t least most) = is_all_term t

-- the particle of a plan
abbrev pub particle_of_top : TopPlan → Particle
particle_of_top (TreePlan t) = particle_of t
particle_of_top (WholePlan a) = whole (kids_in a)

abbrev pub height_of : TopPlan → ℕ
height_of (TreePlan t) = height t
height_of (WholePlan a) = levels_in a

abbrev pub IsTop : TopPlan → Type 0
IsTop (TreePlan t) = IsPlan 0 (particle_of t) t
IsTop (WholePlan a) = IsAllPlan a

-- The marks at the start, and the number of children that may not be empty.
abbrev pub marks_of : TopPlan → List Bool
marks_of (TreePlan t) = []
marks_of (WholePlan a) = no_marks a.kids.items

abbrev pub required_of : TopPlan → ℕ
required_of (TreePlan t) = 0
required_of (WholePlan a) = a.required

-- there is room for the turns and the children of all levels
abbrev pub HasRoom : TopPlan → Position → Type 0
HasRoom top position = (height_of top ≤ vec_capacity position.turns) × (height_of top ≤ vec_capacity position.kids)

-- The turns and the children are the path to a leaf, and the marks are those of an all.
abbrev pub StandsAt : TopPlan → Position → Type 0
StandsAt (TreePlan t) position = OnWay position.turns.items position.kids.items t
StandsAt (WholePlan a) position =
    IsMarked (kids_in a) (needed a.kids.items) position.marks.items position.wanted × AreMarks (kids_in a) position.kids.items position.marks.items

abbrev pub spot_at : TopPlan → Position → Option Spot
spot_at top position = spot_in (particle_of_top top) position.turns.items position.kids.items position.marks.items

-- If the result is `None`, the name leads to no leaf, and the position is unchanged. Otherwise the name leads to the resulting
-- leaf.
abbrev pub Gone : TopPlan → Position → Position → Name → Option Leaf → Type 0
Gone top old new a result =
    MatchOption result
    ((step_from (particle_of_top top) (spot_at top old) a ≡ None) × SamePlace old new)
    (λ leaf. (step_from (particle_of_top top) (spot_at top old) a ≡ spot_at top new) × IsLeafAt (particle_of_top top) (spot_at top new) new.turns.items leaf)
