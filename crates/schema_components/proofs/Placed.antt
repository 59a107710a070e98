-- What it means that each part has a place of its own among ascending ones.
use Rattle.std.proofs.Common.{◌≡◌, ℕ, ◌+◌, ◌≤◌, ◌<◌, Bool, true, false, cond, List, [], ◌∷◌, length, inl, inr, refl, ap, arith}
use Rattle.std.specs.Prelude.{nat_eq, nat_lt}
use Rattle.std.specs.List.{count_by}
use Rattle.std.proofs.lemmas.Bool.{ltb-true}
use Rattle.std.proofs.lemmas.Bool.Decides.{eqb_tells}
use Rattle.std.proofs.lemmas.List.Sums.{sum_by-cons}
use Rattle.schema_components.specs.Bounds.{follow, ascend}
use Rattle.schema_components.specs.Places.{StandAmong}
use Rattle.schema_components.proofs.Truths.{both}

all_count : (xs : List ℕ) → count_by (λ x. true) xs ≡ length xs
all_count [] = refl
all_count (x ∷ xs) = let e : count_by (λ y. true) (x ∷ xs) ≡ 1 + count_by (λ y. true) xs = sum_by-cons (λ y. 1) x xs in let ih = all_count xs in omega (arith, e, ih)

-- there are no more parts than places
pub no_more_places : (places counted : List ℕ) → StandAmong places counted → length places ≤ length counted
no_more_places places counted stand =
    let a = stand (λ x. true) in
    let b = all_count places in
    let c = all_count counted in
    omega (arith, a, b, c)

abbrev as_number : Bool → ℕ
as_number b = cond b 1 0

apart : (a b : ℕ) → a < b → nat_eq a b ≡ false
apart a b below = elim (eqb_tells a b) [ inl same ↦ absurd (let e = same.1 in omega (arith, e, below)) | inr other ↦ other.0 ]

-- a number that isn't above a place doesn't follow it
not_behind : (n place : ℕ) (ps : List ℕ) → n ≤ place → follow place ps ≡ true → count_by (nat_eq n) ps ≡ 0
not_behind n place [] below is = refl
not_behind n place (p ∷ ps) below is =
    let two = both (nat_lt place p) (follow p ps) is in
    let above = ltb-true place p two.0 in
    let rest = not_behind n p ps (omega arith) two.1 in
    let step : count_by (nat_eq n) (p ∷ ps) ≡ as_number (nat_eq n p) + count_by (nat_eq n) ps = sum_by-cons (λ y. as_number (nat_eq n y)) p ps in
    let none : as_number (nat_eq n p) ≡ 0 = ap as_number (apart n p (omega arith)) in
    omega (arith, step, rest, none)

with_first : (n p : ℕ) (ps : List ℕ) → follow p ps ≡ true → count_by (nat_eq n) ps ≤ 1 → count_by (nat_eq n) (p ∷ ps) ≤ 1
with_first n p ps is rest =
    let step : count_by (nat_eq n) (p ∷ ps) ≡ as_number (nat_eq n p) + count_by (nat_eq n) ps = sum_by-cons (λ y. as_number (nat_eq n y)) p ps in
    elim (eqb_tells n p) [
      | inl same ↦
          let one : as_number (nat_eq n p) ≡ 1 = ap as_number same.0 in
          let none = let e = same.1 in not_behind n p ps (omega (arith, e)) is in
          omega (arith, step, one, none)
      | inr other ↦ let none : as_number (nat_eq n p) ≡ 0 = ap as_number other.0 in omega (arith, step, rest, none)
    ]

followed : (n p : ℕ) (ps : List ℕ) → follow p ps ≡ true → count_by (nat_eq n) ps ≤ 1
followed n place [] is = omega arith
followed n place (p ∷ ps) is =
    let two = both (nat_lt place p) (follow p ps) is in with_first n p ps two.1 (followed n p ps two.1)

at_most_once : (n : ℕ) (ps : List ℕ) → ascend ps ≡ true → count_by (nat_eq n) ps ≤ 1
at_most_once n [] is = omega arith
at_most_once n (p ∷ ps) is = with_first n p ps is (followed n p ps is)

-- no two parts have one place
pub one_place_once : (places counted : List ℕ) → ascend counted ≡ true → StandAmong places counted → (n : ℕ) → count_by (nat_eq n) places ≤ 1
one_place_once places counted ascending stand n =
    let a = stand (nat_eq n) in
    let b = at_most_once n counted ascending in
    omega (arith, a, b)
