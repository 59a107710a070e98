-- Numbers that are just those of set flags: the test that takes each flag says so.
use Rattle.std.proofs.Common.{◌≡◌, ℕ, zero, suc, Bool, true, false, not, ◌&&◌, ◌⊎◌, inl, inr, Some, List, [], ◌∷◌, Contains, refl, sym, ◌∙◌, ap, subst, arith}
use Rattle.std.specs.Prelude.{◌↔◌, ◌==◌, slice_get}
use Rattle.std.specs.List.{list_any, AllByRecursion, IsDistinct}
use Rattle.std.proofs.lemmas.Bool.Decides.{eqb_tells}
use Rattle.asn_values.specs.Orders.{is_set, cleared, are_just_set}
use Rattle.asn_values.specs.Values.{AreJustSet}

-- ---- flags

pub set-at : (flags : List Bool) (i : ℕ) → is_set flags i ≡ true → slice_get flags i ≡ Some true
set-at [] i h = absurd cc
set-at (flag ∷ flags) zero h = ap Some h
set-at (flag ∷ flags) (suc i) h = set-at flags i h

at-set : (flags : List Bool) (i : ℕ) → slice_get flags i ≡ Some true → is_set flags i ≡ true
at-set [] i h = absurd cc
at-set (flag ∷ flags) zero h = cc
at-set (flag ∷ flags) (suc i) h = at-set flags i h

left-set : (flags : List Bool) (n i : ℕ) → slice_get (cleared flags n) i ≡ Some true → (slice_get flags i ≡ Some true) × (n ≡ i → ⊥)
left-set [] n i h = absurd cc
left-set (flag ∷ flags) zero zero h = absurd cc
left-set (flag ∷ flags) zero (suc i) h = (h, λ e. omega (arith, e))
left-set (flag ∷ flags) (suc n) zero h = (h, λ e. omega (arith, e))
left-set (flag ∷ flags) (suc n) (suc i) h = let inner = left-set flags n i h in (inner.0, λ e. inner.1 (omega (arith, e)))

set-left : (flags : List Bool) (n i : ℕ) → slice_get flags i ≡ Some true → (n ≡ i → ⊥) → slice_get (cleared flags n) i ≡ Some true
set-left [] n i h other = absurd cc
set-left (flag ∷ flags) zero zero h other = absurd (other refl)
set-left (flag ∷ flags) zero (suc i) h other = h
set-left (flag ∷ flags) (suc n) zero h other = h
set-left (flag ∷ flags) (suc n) (suc i) h other = set-left flags n i h (λ e. other (ap suc e))

any-of : (flags : List Bool) (i : ℕ) → slice_get flags i ≡ Some true → list_any (λ flag. flag) flags ≡ true
any-of [] i h = absurd cc
any-of (true ∷ flags) i h = refl
any-of (false ∷ flags) zero h = absurd cc
any-of (false ∷ flags) (suc i) h = any-of flags i h

some-of : (flags : List Bool) → list_any (λ flag. flag) flags ≡ true → (i : ℕ) × (slice_get flags i ≡ Some true)
some-of [] h = absurd cc
some-of (true ∷ flags) h = (0, refl)
some-of (false ∷ flags) h = let found = some-of flags h in (suc found.0, found.1)

-- ---- numbers

first-in : (n : ℕ) (numbers : List ℕ) → Contains (n ∷ numbers) n
first-in n numbers = (0, omega arith, refl)

later-in : (n : ℕ) (numbers : List ℕ) (i : ℕ) → Contains numbers i → Contains (n ∷ numbers) i
later-in n numbers i h = let below = h.1 in (suc h.0, omega (arith, below), h.2)

one-in : (n : ℕ) (numbers : List ℕ) (i : ℕ) → Contains (n ∷ numbers) i → (n ≡ i) ⊎ Contains numbers i
one-in n numbers i (zero, below, is) = inl is
one-in n numbers i (suc k, below, is) = inr (k, omega (arith, below), is)

none-in : (i : ℕ) → Contains [] i → ⊥
none-in i h = let below = h.1 in omega (arith, below)

other-number : (n i : ℕ) → (n ≡ i → ⊥) → (n == i) ≡ false
other-number n i other = elim (eqb_tells n i) [ inl same ↦ absurd (other same.1) | inr differ ↦ differ.0 ]

not-other : (n i : ℕ) → (n == i) ≡ false → n ≡ i → ⊥
not-other n i differ same = elim (eqb_tells n i) [ inl is ↦ let e = is.0 in absurd (cc) | inr is ↦ is.1 same ]

others : (n : ℕ) (numbers : List ℕ) → ((i : ℕ) → Contains numbers i → n ≡ i → ⊥) → AllByRecursion (λ i. (n == i) ≡ false) numbers
others n [] h = tt
others n (m ∷ numbers) h = (other-number n m (h m (first-in m numbers)), others n numbers (λ i inside. h i (later-in m numbers i inside)))

differ-in : (n : ℕ) (numbers : List ℕ) (i : ℕ) → AllByRecursion (λ m. (n == m) ≡ false) numbers → Contains numbers i → n ≡ i → ⊥
differ-in n [] i all inside = absurd (none-in i inside)
differ-in n (m ∷ numbers) i all inside = elim (one-in m numbers i inside) [
  | inl same ↦ λ e. not-other n m all.0 (e ∙ sym same)
  | inr later ↦ differ-in n numbers i all.1 later
]

-- ---- both

both : (a b : Bool) → (a && b) ≡ true → (a ≡ true) × (b ≡ true)
both true b h = (refl, h)
both false b h = absurd cc

join : (a b : Bool) → a ≡ true → b ≡ true → (a && b) ≡ true
join true b h k = k
join false b h k = absurd cc

unless-any : (b : Bool) → not b ≡ true → b ≡ true → ⊥
unless-any true h e = cc
unless-any false h e = cc

not-any : (b : Bool) → (b ≡ true → ⊥) → not b ≡ true
not-any true h = absurd (h refl)
not-any false h = refl

set-or-differs : (n i : ℕ) → (n ≡ i) ⊎ (n ≡ i → ⊥)
set-or-differs n i = elim (eqb_tells n i) [ inl is ↦ inl is.1 | inr is ↦ inr is.1 ]

to-just : (flags : List Bool) (numbers : List ℕ) → are_just_set flags numbers ≡ true → AreJustSet numbers flags
unfolding IsDistinct
to-just flags [] h = (
  tt,
  λ i. (
    (λ inside. absurd (none-in i inside)),
    (λ set. absurd (unless-any (list_any (λ flag. flag) flags) h (any-of flags i set))),
  ),
)
to-just flags (n ∷ numbers) h =
    let parts = both (is_set flags n) (are_just_set (cleared flags n) numbers) h in
    let inner = to-just (cleared flags n) numbers parts.1 in
    let set = set-at flags n parts.0 in (
      (others n numbers (λ i inside. (left-set flags n i ((inner.1 i).0 inside)).1), inner.0),
      λ i. (
        (λ inside. elim (one-in n numbers i inside) [
          | inl same ↦ subst (λ k. slice_get flags k ≡ Some true) same set
          | inr later ↦ (left-set flags n i ((inner.1 i).0 later)).0
        ]),
        (λ is. elim (set-or-differs n i) [
          | inl same ↦ subst (Contains (n ∷ numbers)) same (first-in n numbers)
          | inr differs ↦ later-in n numbers i ((inner.1 i).1 (set-left flags n i is differs))
        ]),
      ),
    )

from-just : (flags : List Bool) (numbers : List ℕ) → AreJustSet numbers flags → are_just_set flags numbers ≡ true
unfolding IsDistinct
from-just flags [] h = not-any (list_any (λ flag. flag) flags) (λ any. let found = some-of flags any in none-in found.0 ((h.1 found.0).1 found.1))
from-just flags (n ∷ numbers) h =
    join (is_set flags n) (are_just_set (cleared flags n) numbers) (at-set flags n ((h.1 n).0 (first-in n numbers)))
    (from-just (cleared flags n) numbers (
      h.0.1,
      λ i. (
        (λ inside. set-left flags n i ((h.1 i).0 (later-in n numbers i inside)) (differ-in n numbers i h.0.0 inside)),
        (λ set. let left = left-set flags n i set in elim (one-in n numbers i ((h.1 i).1 left.0)) [ inl same ↦ absurd (left.1 same) | inr later ↦ later ]),
      ),
    ))

-- The numbers are just those of the flags that are set where each takes a flag, and none is left.
pub just_set : (flags : List Bool) (numbers : List ℕ) → (are_just_set flags numbers ≡ true) ↔ AreJustSet numbers flags
just_set flags numbers = (to-just flags numbers, from-just flags numbers)
