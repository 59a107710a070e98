-- What a text tells of bounds, sizes and lists is sound.
use Rattle.std.proofs.Common.{◌≡◌, ℕ, ◌≤◌, ◌^◌, true, Some, None, List, [], ◌∷◌, refl, sym, arith, Ordering, Less, Equal, Greater}
use Rattle.std.specs.Prelude.{ℤ, pos, int_lt, ◌≤ℤ◌, nat_lt}
use Rattle.std.specs.List.{AllByRecursion}
use Rattle.std.specs.List.Sorted.{IsStrictlySortedBy}
use Rattle.std.specs.Ordering.{nat_cmp, int_cmp, is_lt}
use Rattle.std.specs.Cmp.{IsTotalOrder}
use Rattle.std.specs.Cmp.Lexicographic.{slice_cmp}
use Rattle.std.proofs.lemmas.Bool.{true≢false, leb-true, ltb-true}
use Rattle.std.proofs.lemmas.Cmp.{int_cmp_total, nat_list_cmp_total}
use Rattle.std.proofs.lemmas.Int.{ints}
use Rattle.simple_types.specs.Sound.{IsCounted, AreBounds, AreSizes}
use Rattle.module_text.specs.Told.{Bounds, Sizes}
use Rattle.module_text.specs.Simple as simple
use Rattle.module_text.proofs.PrintedBounds.{and-first, and-second}

pub counted : (n : ℕ) → simple.is_counted n ≡ true → IsCounted n
counted n e =
    (ltb-true 0 n (and-first (nat_lt 0 n) (nat_lt n (2 ^ 32)) e), ltb-true n (2 ^ 32) (and-second (nat_lt 0 n) (nat_lt n (2 ^ 32)) e))

pub bounds : (b : Bounds) → simple.are_bounds b ≡ true → AreBounds b.0 b.1
bounds (None, greatest) e = tt
bounds (Some least, None) e = tt
bounds (Some least, Some greatest) e = grind (arith, ints)

pub sizes : (s : Sizes) → simple.are_sizes s ≡ true → AreSizes s.0 s.1
sizes (least, None) e = tt
sizes (least, Some most) e = leb-true least most e

pub below-le : (y z : ℤ) → int_lt y z ≡ true → y ≤ℤ z
below-le y z e = grind (arith, ints)

pub below-self : (z : ℤ) → z ≤ℤ z
below-self z = grind (arith, ints)

pub below-sizes : (a b : ℕ) → int_lt (pos a) (pos b) ≡ true → a ≤ b
below-sizes a b e = grind (arith, ints)

-- ---- what ascends from one to the next ascends

-- each behind this one
abbrev pub Chains : {K : Type 0} → (K → K → Ordering) → K → List K → Type 0
Chains c x [] = Unit {0}
Chains c x (y ∷ ys) = (c x y ≡ Less) × Chains c y ys

over_all : {K : Type 0} (c : K → K → Ordering) (o : IsTotalOrder c) (x y : K) (zs : List K) → c x y ≡ Less
    → AllByRecursion (λ z. c y z ≡ Less) zs → AllByRecursion (λ z. c x z ≡ Less) zs
over_all c o x y [] lt h = tt
over_all c o x y (z ∷ zs) lt h = (o.trans x y z lt h.0, over_all c o x y zs lt h.1)

pub chained : {K : Type 0} (c : K → K → Ordering) (o : IsTotalOrder c) (x : K) (ys : List K) → Chains c x ys
    → AllByRecursion (λ y. c x y ≡ Less) ys × IsStrictlySortedBy c ys
unfolding IsStrictlySortedBy
chained c o x [] h = (tt, tt)
chained c o x (y ∷ ys) h =
    let rest = chained c o y ys h.1 in
    ((h.0, over_all c o x y ys h.0 rest.0), rest)

numbers_chain : (z : ℤ) (zs : List ℤ) → simple.ascend_behind (Some z) zs ≡ true → Chains int_cmp z zs
numbers_chain z [] e = tt
numbers_chain z (y ∷ ys) e =
    let lt : int_lt z y ≡ true = and-first (int_lt z y) (simple.ascend_behind (Some y) ys) e in
    (rw lt refl, numbers_chain y ys (and-second (int_lt z y) (simple.ascend_behind (Some y) ys) e))

pub numbers_ascend : (zs : List ℤ) → simple.ascend zs ≡ true → IsStrictlySortedBy int_cmp zs
unfolding IsStrictlySortedBy
numbers_ascend [] e = tt
numbers_ascend (z ∷ zs) e = chained int_cmp int_cmp_total z zs (numbers_chain z zs e)

less_is : (o : Ordering) → is_lt o ≡ true → o ≡ Less
less_is Less e = refl
less_is Equal e = absurd (true≢false (sym e))
less_is Greater e = absurd (true≢false (sym e))

words_chain : (w : List ℕ) (ws : List (List ℕ)) → simple.texts_behind (Some w) ws ≡ true → Chains (slice_cmp nat_cmp) w ws
words_chain w [] e = tt
words_chain w (v ∷ vs) e = (
  less_is (slice_cmp nat_cmp w v) (and-first (simple.text_lt w v) (simple.texts_behind (Some v) vs) e),
  words_chain v vs (and-second (simple.text_lt w v) (simple.texts_behind (Some v) vs) e),
)

pub words_ascend : (ws : List (List ℕ)) → simple.texts_ascend ws ≡ true → IsStrictlySortedBy (slice_cmp nat_cmp) ws
unfolding IsStrictlySortedBy
words_ascend [] e = tt
words_ascend (w ∷ ws) e = chained (slice_cmp nat_cmp) nat_list_cmp_total w ws (words_chain w ws e)
