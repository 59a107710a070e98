-- The law of the steps that a matcher makes in a content model.
use Rattle.std.specs.Prelude.{◌≡◌, ◌↔◌, List, [], ◌∷◌, ◌++◌, Option, Some, None, Bool, true}
use Rattle.base_texts.specs.declared.texts.Name.{Name}
use Rattle.content_models.specs.Particle.{Particle}
use Rattle.content_models.specs.Language.{Leaf, names, Lang, Viable}
use Rattle.content_models.specs.Clear.{Clear, empties}
use Rattle.content_models.specs.Occurring.{MayOccur}
use Rattle.content_models.specs.Spots.{Spot, enter, next, finishes, leaf_of, After}

-- the spot that a name leads to, from before the first leaf or from a spot
abbrev pub step_from : Particle → Option Spot → Name → Option Spot
step_from p None a = enter p a
step_from p (Some s) a = next p s a

-- whether nothing more is needed
abbrev pub may_end : Particle → Option Spot → Bool
may_end p None = empties p
may_end p (Some s) = finishes p s

-- The list of leaves may come after this spot, or from the start.
abbrev pub Onward : Particle → Option Spot → List Leaf → Type 0
Onward p None w = Lang p 0 [] w
Onward p (Some s) w = After p 0 [] s w

-- The last of the leaves is the one at the spot. At the start there are no leaves.
abbrev pub EndsAt : Particle → Option Spot → List Leaf → Type 0
EndsAt p None us = us ≡ []
EndsAt p (Some s) us = (earlier : List Leaf) × (last : Leaf) × (us ≡ earlier ++ last ∷ []) × (leaf_of p 0 [] s ≡ Some last)

-- The leaves lead to the spot: exactly the lists that may come after it complete them to a list of the particle, and there is
-- such a list.
pub record Leads (p : Particle) (o : Option Spot) (us : List Leaf) : Type 0 where
  pub ends : EndsAt p o us
  pub forth : (w : List Leaf) → Onward p o w → Lang p 0 [] (us ++ w)
  pub back : (w : List Leaf) → Lang p 0 [] (us ++ w) → Onward p o w
  pub rest : List Leaf
  pub some : Onward p o rest

-- every list of the particle that begins with the names of the leaves begins with the leaves
abbrev pub AreTheFirst : Particle → List Leaf → Type 0
AreTheFirst p us = (w : List Leaf) (r : List Name) → Lang p 0 [] w → names w ≡ names us ++ r → (rest : List Leaf) × (w ≡ us ++ rest)

-- Some list of the particle has exactly these names.
abbrev pub IsNamed : Particle → List Name → Type 0
IsNamed p xs = (w : List Leaf) × Lang p 0 [] w × (names w ≡ xs)

-- For a clear content model that may occur: the empty list of leaves leads to the start. From a spot to which some leaves lead, a
-- name leads one leaf further if and only if some list begins with the names of the leaves and this name. Nothing more is needed
-- if and only if the names of the leaves are those of a complete list.
pub record Matches (p : Particle) : Type 0 where
  pub start : Leads p None []
  pub first : (o : Option Spot) (us : List Leaf) → Leads p o us → Viable p (names us) × AreTheFirst p us
  pub goes : (o : Option Spot) (us : List Leaf) → Leads p o us → (a : Name) (z : Spot) → step_from p o a ≡ Some z
      → (l : Leaf) × (l.name ≡ a) × Leads p (Some z) (us ++ l ∷ [])
  pub stops : (o : Option Spot) (us : List Leaf) → Leads p o us → (a : Name) → step_from p o a ≡ None → Viable p (names us ++ a ∷ []) → ⊥
  pub ends : (o : Option Spot) (us : List Leaf) → Leads p o us → (may_end p o ≡ true) ↔ Lang p 0 [] us
  pub finds : (o : Option Spot) (us : List Leaf) → Leads p o us → IsNamed p (names us) → Lang p 0 [] us

abbrev pub LawOfMatching : Type 0
LawOfMatching = (p : Particle) → Clear p [] → MayOccur p → Matches p
