-- Spots in a content model, and the steps between them.
use Rattle.std.specs.Prelude.{◌≡◌, ℕ, zero, suc, ◌+◌, List, [], ◌∷◌, ◌++◌, Option, Some, None, Bool, true, false, ◌&&◌, cond, nat_lt}
use Rattle.std.specs.List.{list_any}
use Rattle.base_texts.specs.declared.texts.Name.{Name}
use Rattle.base_texts.specs.Names.{name_eq}
use Rattle.content_models.specs.Particle.{Particle, occurs, Term, element, sequence, choice, all, Particles, none, more}
use Rattle.content_models.specs.Language.{Turn, Leaf, leaf_at, turn_of, size_of, joined, Times, Within, Lang, Body, InOrder}
use Rattle.content_models.specs.Clear.{is_zero, first, empties, all_empty}

-- A leaf, by the turn of each particle and the number of each child. In an all each child that was matched has a mark.
mutual
  pub data Spot : Type 0 where
    at : ℕ → Inner → Spot

  pub data Inner : Type 0 where
    here : Inner
    inside : ℕ → Spot → Inner
    among : ℕ → List Bool → Inner

abbrev pub over : {A B : Type 0} → (A → B) → Option A → Option B
over f None = None
over f (Some x) = Some (f x)

abbrev pub or_else : {A : Type 0} → Option A → Option A → Option A
or_else None o = o
or_else (Some x) o = Some x

abbrev pub first_kid : Spot → Inner
first_kid s = inside 0 s

abbrev pub next_kid : Inner → Inner
next_kid here = here
next_kid (inside j s) = inside (suc j) s
next_kid (among j ms) = among j ms

-- One more occurrence is allowed (`may_repeat`), and no more is needed (`may_stop`).
abbrev pub may_repeat : Option ℕ → ℕ → Bool
may_repeat None i = true
may_repeat (Some most) i = nat_lt (suc i) most

abbrev pub may_stop : ℕ → ℕ → Bool
may_stop least i = nat_lt least (suc (suc i))

-- A mark for each child, which is not set.
abbrev pub unmarked : Particles → List Bool
unmarked none = []
unmarked (more p ps) = false ∷ unmarked ps

-- whether the name is a first name of the particle
abbrev pub is_named : Particle → Name → Bool
is_named p a = list_any (name_eq a) (first p)

-- A child of an all, and the marks with that of the child set.
pub record Picked : Type 0 where
  pub kid : ℕ
  pub marks : List Bool

abbrev pub picked : ℕ → List Bool → Picked
picked kid marks = record { kid = kid; marks = marks }

abbrev pub picked_later : Bool → Picked → Picked
picked_later m r = picked (suc r.kid) (m ∷ r.marks)

-- The child of the name, if it has no mark.
abbrev pub pick : Particles → List Bool → Name → Option Picked
pick none ms a = None
pick (more p ps) [] a = None
pick (more p ps) (true ∷ ms) a = cond (is_named p a) None (over (picked_later true) (pick ps ms a))
pick (more p ps) (false ∷ ms) a = cond (is_named p a) (Some (picked 0 (true ∷ ms))) (over (picked_later false) (pick ps ms a))

abbrev pub among_picked : Picked → Inner
among_picked r = among r.kid r.marks

-- The number of children without a mark that may not be empty.
abbrev pub missing : Particles → List Bool → ℕ
missing none ms = 0
missing (more p ps) [] = 1
missing (more p ps) (true ∷ ms) = missing ps ms
missing (more p ps) (false ∷ ms) = cond (empties p) (missing ps ms) (suc (missing ps ms))

-- The first leaf, if its name is a.
abbrev mutual
  pub enter : Particle → Name → Option Spot
  enter (occurs t least most) a = over (at 0) (enter_term t a)

  pub enter_term : Term → Name → Option Inner
  enter_term (element d b) a = cond (name_eq a b) (Some here) None
  enter_term (sequence ps) a = enter_order ps a
  enter_term (choice ps) a = enter_one ps a
  enter_term (all ps) a = over among_picked (pick ps (unmarked ps) a)

  pub enter_order : Particles → Name → Option Inner
  enter_order none a = None
  enter_order (more p ps) a = or_else (over first_kid (enter p a)) (cond (empties p) (over next_kid (enter_order ps a)) None)

  pub enter_one : Particles → Name → Option Inner
  enter_one none a = None
  enter_one (more p ps) a = or_else (over first_kid (enter p a)) (over next_kid (enter_one ps a))

abbrev pub finishes_all : Particles → Inner → Bool
finishes_all ps here = false
finishes_all ps (inside j s) = false
finishes_all ps (among j ms) = is_zero (missing ps ms)

-- whether nothing more is needed after the leaf
abbrev mutual
  pub finishes : Particle → Spot → Bool
  finishes (occurs t least most) (at i s) = finishes_term t s && may_stop least i

  pub finishes_term : Term → Inner → Bool
  finishes_term (element d a) here = true
  finishes_term (element d a) (inside j s) = false
  finishes_term (element d a) (among j ms) = false
  finishes_term (sequence ps) s = finishes_order ps s
  finishes_term (choice ps) s = finishes_one ps s
  finishes_term (all ps) s = finishes_all ps s

  pub finishes_order : Particles → Inner → Bool
  finishes_order none s = false
  finishes_order (more p ps) here = false
  finishes_order (more p ps) (inside zero s) = finishes p s && all_empty ps
  finishes_order (more p ps) (inside (suc j) s) = finishes_order ps (inside j s)
  finishes_order (more p ps) (among j ms) = false

  pub finishes_one : Particles → Inner → Bool
  finishes_one none s = false
  finishes_one (more p ps) here = false
  finishes_one (more p ps) (inside zero s) = finishes p s
  finishes_one (more p ps) (inside (suc j) s) = finishes_one ps (inside j s)
  finishes_one (more p ps) (among j ms) = false

abbrev pub next_all : Particles → Inner → Name → Option Inner
next_all ps here a = None
next_all ps (inside j s) a = None
next_all ps (among j ms) a = over among_picked (pick ps ms a)

-- The leaf after this one, if its name is a.
abbrev mutual
  pub next : Particle → Spot → Name → Option Spot
  next (occurs t least most) (at i s) a =
      or_else (over (at i) (next_term t s a)) (cond (finishes_term t s && may_repeat most i) (over (at (suc i)) (enter_term t a)) None)

  pub next_term : Term → Inner → Name → Option Inner
  next_term (element d b) s a = None
  next_term (sequence ps) s a = next_order ps s a
  next_term (choice ps) s a = next_one ps s a
  next_term (all ps) s a = next_all ps s a

  pub next_order : Particles → Inner → Name → Option Inner
  next_order none s a = None
  next_order (more p ps) here a = None
  next_order (more p ps) (inside zero s) a =
      or_else (over first_kid (next p s a)) (cond (finishes p s) (over next_kid (enter_order ps a)) None)
  next_order (more p ps) (inside (suc j) s) a = over next_kid (next_order ps (inside j s) a)
  next_order (more p ps) (among j ms) a = None

  pub next_one : Particles → Inner → Name → Option Inner
  next_one none s a = None
  next_one (more p ps) here a = None
  next_one (more p ps) (inside zero s) a = over first_kid (next p s a)
  next_one (more p ps) (inside (suc j) s) a = over next_kid (next_one ps (inside j s) a)
  next_one (more p ps) (among j ms) a = None

-- the leaf of a child of an all
abbrev pub leaf_of_kid : Particle → ℕ → List Turn → Option Leaf
leaf_of_kid (occurs (element d a) least most) n path = Some (leaf_at n d a (path ++ turn_of n 0 ∷ []))
leaf_of_kid (occurs (sequence ps) least most) n path = None
leaf_of_kid (occurs (choice ps) least most) n path = None
leaf_of_kid (occurs (all ps) least most) n path = None

abbrev pub leaf_picked : Particles → ℕ → List Turn → ℕ → Option Leaf
leaf_picked none n path j = None
leaf_picked (more p ps) n path zero = leaf_of_kid p n path
leaf_picked (more p ps) n path (suc j) = leaf_picked ps (n + size_of p) path j

abbrev pub leaf_among : Particles → ℕ → List Turn → Inner → Option Leaf
leaf_among ps n path here = None
leaf_among ps n path (inside j s) = None
leaf_among ps n path (among j ms) = leaf_picked ps n path j

-- the leaf at a spot
abbrev mutual
  pub leaf_of : Particle → ℕ → List Turn → Spot → Option Leaf
  leaf_of (occurs t least most) n path (at i s) = leaf_of_term t n (path ++ turn_of n i ∷ []) s

  pub leaf_of_term : Term → ℕ → List Turn → Inner → Option Leaf
  leaf_of_term (element d a) n path here = Some (leaf_at n d a path)
  leaf_of_term (element d a) n path (inside j s) = None
  leaf_of_term (element d a) n path (among j ms) = None
  leaf_of_term (sequence ps) n path s = leaf_in ps (suc n) path s
  leaf_of_term (choice ps) n path s = leaf_in ps (suc n) path s
  leaf_of_term (all ps) n path s = leaf_among ps (suc n) path s

  pub leaf_in : Particles → ℕ → List Turn → Inner → Option Leaf
  leaf_in none n path s = None
  leaf_in (more p ps) n path here = None
  leaf_in (more p ps) n path (inside zero s) = leaf_of p n path s
  leaf_in (more p ps) n path (inside (suc j) s) = leaf_in ps (n + size_of p) path (inside j s)
  leaf_in (more p ps) n path (among j ms) = None

-- one list of each child that has no mark, in any order
abbrev pub Left : Particles → List Bool → ℕ → List Turn → List (List Leaf) → Type 0
Left none ms n path xs = xs ≡ []
Left (more p ps) [] n path xs = ⊥
Left (more p ps) (true ∷ ms) n path xs = Left ps ms (n + size_of p) path xs
Left (more p ps) (false ∷ ms) n path xs =
    (ys : List (List Leaf)) × (x : List Leaf) × (zs : List (List Leaf)) × (xs ≡ ys ++ x ∷ zs)
    × Lang p n path x × Left ps ms (n + size_of p) path (ys ++ zs)

abbrev pub AfterAll : Particles → ℕ → List Turn → Inner → List Leaf → Type 0
AfterAll ps n path here w = ⊥
AfterAll ps n path (inside j s) w = ⊥
AfterAll ps n path (among j ms) w = (xs : List (List Leaf)) × (w ≡ joined xs) × Left ps ms n path xs

-- The lists of leaves that may come after the leaf at a spot.
abbrev mutual
  pub After : Particle → ℕ → List Turn → Spot → List Leaf → Type 0
  After (occurs t least most) n path (at i s) w =
      (x : List Leaf) × (y : List Leaf) × (k : ℕ) × (w ≡ x ++ y) × AfterTerm t n (path ++ turn_of n i ∷ []) s x
      × Within least most (suc i + k) × Times (λ i. Body t n (path ++ turn_of n i ∷ [])) k (suc i) y

  pub AfterTerm : Term → ℕ → List Turn → Inner → List Leaf → Type 0
  AfterTerm (element d a) n path here w = w ≡ []
  AfterTerm (element d a) n path (inside j s) w = ⊥
  AfterTerm (element d a) n path (among j ms) w = ⊥
  AfterTerm (sequence ps) n path s w = AfterOrder ps (suc n) path s w
  AfterTerm (choice ps) n path s w = AfterOne ps (suc n) path s w
  AfterTerm (all ps) n path s w = AfterAll ps (suc n) path s w

  pub AfterOrder : Particles → ℕ → List Turn → Inner → List Leaf → Type 0
  AfterOrder none n path s w = ⊥
  AfterOrder (more p ps) n path here w = ⊥
  AfterOrder (more p ps) n path (inside zero s) w =
      (x : List Leaf) × (y : List Leaf) × (w ≡ x ++ y) × After p n path s x × InOrder ps (n + size_of p) path y
  AfterOrder (more p ps) n path (inside (suc j) s) w = AfterOrder ps (n + size_of p) path (inside j s) w
  AfterOrder (more p ps) n path (among j ms) w = ⊥

  pub AfterOne : Particles → ℕ → List Turn → Inner → List Leaf → Type 0
  AfterOne none n path s w = ⊥
  AfterOne (more p ps) n path here w = ⊥
  AfterOne (more p ps) n path (inside zero s) w = After p n path s w
  AfterOne (more p ps) n path (inside (suc j) s) w = AfterOne ps (n + size_of p) path (inside j s) w
  AfterOne (more p ps) n path (among j ms) w = ⊥
