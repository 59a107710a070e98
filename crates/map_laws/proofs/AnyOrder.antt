-- The lists of an all: each list of its particles in their order is one, and so is each permutation of one.
use Rattle.std.proofs.Common.{◌≡◌, ℕ, zero, suc, ◌+◌, ◌≤◌, Bool, true, false, Option, Some, List, [], ◌∷◌, ◌++◌, map, inl, inr, refl, sym, ap, subst, ◌∙◌, arith}
use Rattle.std.specs.List.Sorted.{IsPermutation}
use Rattle.std.proofs.lemmas.List.{append-nil}
use Rattle.std.proofs.lemmas.List.Sorted.{IsPermutation-refl, IsPermutation-sym, IsPermutation-trans, IsPermutation-cons, IsPermutation-middle, IsPermutation-append_right, IsPermutation-map}
use Rattle.base_texts.specs.declared.texts.Name.{Name}
use Rattle.content_models.specs.Language.{Turn, Leaf, turn_of, leaf_at, size_of, joined, Times, Within, Lang, Body, InOrder, AnyOrder}
use Rattle.content_models.specs.Particle as model
use Rattle.content_models.specs.Particle.{Particle, occurs, Term, Particles}
use Rattle.content_models.specs.Clear.{IsNameIn, and_then, first, first_in_order, first_of_any, empties, all_empty, IsSingle, AreSingle, AllApart, IsNoAllTerm, IsNoAll, Clear, ClearInOrder}
use Rattle.content_models.specs.Seen.{seen}
use Rattle.content_models.proofs.Permuting.{any_order_is}
use Rattle.content_models.specs.declared.particles.ParticleLabel.{ParticleLabel}
use Rattle.base_trees.specs.Rose.{Rose}
use Rattle.schema_components.specs.declared.components.Content.{Content}
use Rattle.schema_components.specs.declared.components.Content.TheVariants as content_
use Rattle.schema_components.specs.Components.{Set, model_of}
use Rattle.schema_components.specs.Linked.{IsContent}
use Rattle.map_assignments.specs.Planning.{is_all, is_ordered}
use Rattle.map_laws.specs.Standing.{is_parted}

-- ---- one list of each, in their order

pub some_order : (ps : Particles) (n : ℕ) (path : List Turn) (w : List Leaf) → InOrder ps n path w → (xs : List (List Leaf)) × (w ≡ joined xs) × AnyOrder ps n path xs
some_order model.none n path w h = ([], h, refl)
some_order (model.more p ps) n path w (x, y, e, hp, hs) =
    let rest = some_order ps (n + size_of p) path y hs in
    (x ∷ rest.0, e ∙ ap (λ z. x ++ z) rest.1, ([], x, rest.0, refl, hp, rest.2))

-- ---- lists of one leaf at most

abbrev pub IsShort : List Leaf → Type 0
IsShort [] = Unit {0}
IsShort (x ∷ []) = Unit {0}
IsShort (x ∷ y ∷ xs) = ⊥

abbrev AreShort : List (List Leaf) → Type 0
AreShort [] = Unit {0}
AreShort (x ∷ xs) = IsShort x × AreShort xs

pub single_short : (p : Particle) (n : ℕ) (path : List Turn) (x : List Leaf) → IsSingle p → Lang p n path x → IsShort x
single_short (occurs (model.sequence ps) least most) n path x s h = absurd s.0
single_short (occurs (model.choice ps) least most) n path x s h = absurd s.0
single_short (occurs (model.all ps) least most) n path x s h = absurd s.0
single_short (occurs (model.element d a) least most) n path x s (k, bounds, times) = by k (subst (λ o. Within least o k) s.1 bounds) times
  where
    by : (k : ℕ) → (least ≤ k) × (k ≤ 1) → Times (λ i. Body (model.element d a) n (path ++ turn_of n i ∷ [])) k 0 x → IsShort x
    by zero bounds times = subst IsShort (sym times) tt
    by (suc zero) bounds (z, y, e, one, none) = subst IsShort (sym (e ∙ ap (λ u. u ++ y) one ∙ ap (λ u. leaf_at n d a (path ++ turn_of n 0 ∷ []) ∷ u) none)) tt
    by (suc (suc k)) bounds times = absurd (omega (arith, bounds.1))

short_among : (ys : List (List Leaf)) (x : List Leaf) (zs : List (List Leaf)) → IsShort x → AreShort (ys ++ zs) → AreShort (ys ++ x ∷ zs)
short_among [] x zs s h = (s, h)
short_among (y ∷ ys) x zs s h = (h.0, short_among ys x zs s h.1)

any_short : (ps : Particles) (n : ℕ) (path : List Turn) (xs : List (List Leaf)) → AreSingle ps → AnyOrder ps n path xs → AreShort xs
any_short model.none n path xs s h = subst AreShort (sym h) tt
any_short (model.more p ps) n path xs s (ys, x, zs, e, hp, hs) =
    subst AreShort (sym e) (short_among ys x zs (single_short p n path x s.0 hp) (any_short ps (n + size_of p) path (ys ++ zs) s.1 hs))

-- ---- permutations of leaves

abbrev alone : Leaf → List Leaf
alone x = x ∷ []

abbrev nones : List (List Leaf) → List (List Leaf)
nones [] = []
nones ([] ∷ xs) = [] ∷ nones xs
nones ((x ∷ ys) ∷ xs) = nones xs

short_permutes : (xs : List (List Leaf)) → AreShort xs → IsPermutation xs (nones xs ++ map alone (joined xs))
short_permutes [] h = IsPermutation-refl []
short_permutes ([] ∷ xs) h = IsPermutation-cons [] xs (nones xs ++ map alone (joined xs)) (short_permutes xs h.1)
short_permutes ((x ∷ []) ∷ xs) h =
    let one = alone x in
    let rest = nones xs ++ map alone (joined xs) in
    IsPermutation-trans (one ∷ xs) (one ∷ rest) (nones xs ++ one ∷ map alone (joined xs)) (IsPermutation-cons one xs rest (short_permutes xs h.1))
    (IsPermutation-sym (nones xs ++ one ∷ map alone (joined xs)) (one ∷ rest) (IsPermutation-middle (nones xs) one (map alone (joined xs))))
short_permutes ((x ∷ y ∷ ys) ∷ xs) h = absurd h.0

joined_alone : (w : List Leaf) → joined (map alone w) ≡ w
joined_alone [] = refl
joined_alone (x ∷ w) = ap (λ z. x ∷ z) (joined_alone w)

joined_nones : (xs ys : List (List Leaf)) → joined (nones xs ++ ys) ≡ joined ys
joined_nones [] ys = refl
joined_nones ([] ∷ xs) ys = joined_nones xs ys
joined_nones ((x ∷ zs) ∷ xs) ys = joined_nones xs ys

-- these lists are closed under permutations
abbrev pub IsClosed : (List Leaf → Type 0) → Type 0
IsClosed B = (v w : List Leaf) → B v → IsPermutation v w → B w

all_closed : (ps : Particles) → AreSingle ps → (n : ℕ) (path : List Turn) → IsClosed (Body (model.all ps) n path)
all_closed ps s n path v w (xs, e, any) h =
    let ys = nones xs ++ map alone w in
    let short = any_short ps (suc n) path xs s any in
    let same : IsPermutation (map alone (joined xs)) (map alone w) = subst (λ z. IsPermutation (map alone z) (map alone w)) e (IsPermutation-map alone v w h) in
    let moved : IsPermutation xs ys =
    IsPermutation-trans xs (nones xs ++ map alone (joined xs)) ys (short_permutes xs short) (IsPermutation-append_right (nones xs) (map alone (joined xs)) (map alone w) same) in
    let p = (any_order_is ps (suc n) path xs).0 any in
    (ys, sym (joined_nones xs (map alone w) ∙ joined_alone w), (any_order_is ps (suc n) path ys).1 (p.0, p.1, IsPermutation-trans p.0 xs ys p.2 moved))

-- the lists of one occurrence
pub once_is : (B : ℕ → List Leaf → Type 0) (least : ℕ) (most : Option ℕ) (w : List Leaf) → least ≡ 1 → most ≡ Some 1 → (k : ℕ) → Within least most k → Times B k 0 w → B 0 w
once_is B least most w e f k bounds times = by k (subst (λ o. Within least o k) f bounds) times
  where
    by : (k : ℕ) → (least ≤ k) × (k ≤ 1) → Times B k 0 w → B 0 w
    by zero bounds times = absurd (omega (arith, e, bounds.0))
    by (suc zero) bounds (x, y, is, one, none) = subst (B 0) (sym (is ∙ ap (λ z. x ++ z) none ∙ append-nil x)) one
    by (suc (suc k)) bounds times = absurd (omega (arith, bounds.1))

pub is_once : (B : ℕ → List Leaf → Type 0) (least : ℕ) (most : Option ℕ) (w : List Leaf) → least ≡ 1 → most ≡ Some 1 → B 0 w → (k : ℕ) × Within least most k × Times B k 0 w
is_once B least most w e f one =
    (1, subst (λ n. Within n most 1) (sym e) (subst (λ o. Within 1 o 1) (sym f) (omega arith, omega arith)), (w, [], sym (append-nil w), one, refl))

pub top_closed : (p : Particle) → Clear p [] → is_all p ≡ true → (n : ℕ) (path : List Turn) → IsClosed (Lang p n path)
top_closed (occurs (model.element d a) least most) clear e n path v w h moved = absurd cc
top_closed (occurs (model.sequence ps) least most) clear e n path v w h moved = absurd cc
top_closed (occurs (model.choice ps) least most) clear e n path v w h moved = absurd cc
top_closed (occurs (model.all ps) least most) clear e n path v w h moved =
    let rule = clear.3 in
    let B = λ (i : ℕ). Body (model.all ps) n (path ++ turn_of n i ∷ []) in
    is_once B least most w rule.1 rule.2
    (all_closed ps rule.4 n (path ++ turn_of n 0 ∷ []) v w (once_is B least most v rule.1 rule.2 h.0 h.1 h.2) moved)

-- of a content in any order
pub content_closed : (s : Set) (c : Content) → IsContent s c → (particle : Rose ParticleLabel) → model_of c ≡ Some particle → is_ordered c ≡ true → IsClosed (Lang (seen particle) 0 [])
content_closed s content_.Empty ok particle is e = absurd cc
content_closed s (content_.Simple n) ok particle is e = absurd cc
content_closed s (content_.ElementOnly p) ok particle is e =
    let same : p ≡ particle = cc in
    subst (λ q. IsClosed (Lang (seen q) 0 [])) same (top_closed (seen p) ok.clear e 0 [])
content_closed s (content_.Mixed p) ok particle is e =
    let same : p ≡ particle = cc in
    subst (λ q. IsClosed (Lang (seen q) 0 [])) same (top_closed (seen p) ok.clear e 0 [])

-- ---- leaves in the order of parts

-- for an all, one list of each particle in their order
abbrev pub AsParts : Particle → ℕ → List Turn → List Leaf → Type 0
AsParts (occurs (model.element d a) least most) n path w = Lang (occurs (model.element d a) least most) n path w
AsParts (occurs (model.sequence ps) least most) n path w = Lang (occurs (model.sequence ps) least most) n path w
AsParts (occurs (model.choice ps) least most) n path w = Lang (occurs (model.choice ps) least most) n path w
AsParts (occurs (model.all ps) least most) n path w = InOrder ps (suc n) (path ++ turn_of n 0 ∷ []) w

pub as_lists : (t : Term) (least : ℕ) (most : Option ℕ) (n : ℕ) (path : List Turn) (w : List Leaf) → IsNoAllTerm t → AsParts (occurs t least most) n path w → Lang (occurs t least most) n path w
as_lists (model.element d a) least most n path w plain h = h
as_lists (model.sequence ps) least most n path w plain h = h
as_lists (model.choice ps) least most n path w plain h = h
as_lists (model.all ps) least most n path w plain h = absurd plain

pub as_parts : (p : Particle) (n : ℕ) (path : List Turn) (w : List Leaf) → IsNoAll p → Lang p n path w → AsParts p n path w
as_parts (occurs (model.element d a) least most) n path w plain h = h
as_parts (occurs (model.sequence ps) least most) n path w plain h = h
as_parts (occurs (model.choice ps) least most) n path w plain h = h
as_parts (occurs (model.all ps) least most) n path w plain h = absurd plain

-- ---- rules

pub no_all : (t : Term) (least : ℕ) (most : Option ℕ) → is_parted t least most ≡ false → IsNoAllTerm t
no_all (model.element d a) least most e = tt
no_all (model.sequence ps) least most e = tt
no_all (model.choice ps) least most e = tt
no_all (model.all ps) least most e = absurd cc

either-in : (f : List Name) (b : Bool) (g all : List Name) (x : Name) → (IsNameIn x g → IsNameIn x all) → IsNameIn x (and_then f b g) → IsNameIn x (f ++ all)
either-in [] true g all x more k = more k
either-in [] false g all x more k = absurd k
either-in (a ∷ f) b g all x more (inl e) = inl e
either-in (a ∷ f) b g all x more (inr k) = inr (either-in f b g all x more k)

in_any : (ps : Particles) (x : Name) → IsNameIn x (first_in_order ps) → IsNameIn x (first_of_any ps)
in_any model.none x h = h
in_any (model.more p ps) x h = either-in (first p) (empties p) (first_in_order ps) (first_of_any ps) x (λ k. in_any ps x k) h

before_nothing : (f : List Name) (b : Bool) (x : Name) → IsNameIn x (and_then f b []) → IsNameIn x f
before_nothing [] true x k = k
before_nothing [] false x k = k
before_nothing (a ∷ f) b x (inl e) = inl e
before_nothing (a ∷ f) b x (inr k) = inr (before_nothing f b x k)

-- The particles of an all are clear in their order, too.
pub singles_clear : (ps : Particles) → AreSingle ps → AllApart ps → ClearInOrder ps []
singles_clear model.none s a = tt
singles_clear (model.more (occurs (model.element d name) least most) ps) s a = (
  (inr refl, inr (λ x h k. a.0 x h (in_any ps x (before_nothing (first_in_order ps) (all_empty ps) x k))), tt, tt, tt),
  singles_clear ps s.1 a.1,
  tt,
)
singles_clear (model.more (occurs (model.sequence qs) least most) ps) s a = absurd s.0.0
singles_clear (model.more (occurs (model.choice qs) least most) ps) s a = absurd s.0.0
singles_clear (model.more (occurs (model.all qs) least most) ps) s a = absurd s.0.0
