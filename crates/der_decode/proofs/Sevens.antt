-- The octets of identifiers, from the last to the first, and what begins with them.
use Rattle.std.proofs.Common.{◌≡◌, ℕ, zero, suc, ◌+◌, ◌-◌, ◌*◌, ◌/◌, ◌%◌, ◌^◌, ◌<◌, ◌≤◌, Bool, eqb, ltb, ◌&&◌, List, [], ◌∷◌, length, take, drop, refl, sym, ap, ◌∙◌, arith, inl, inr}
use Rattle.std.specs.Cmp.Lexicographic.{pointwise}
use Rattle.std.proofs.lemmas.Bool.{cases_lt, lt-ltb, le-ltb, eq-eqb, ne_eqb}
use Rattle.std.proofs.lemmas.List.{drop-set}
use Rattle.std.proofs.lemmas.Nat.{pow-add}
use Rattle.std.proofs.Math.ListN.{set}
use Rattle.base_codecs.proofs.Sequences.{cond_true, cond_false}
use Rattle.der_fields.specs.Octets.{high_sevens, sevens, form_bit, context_identifier, begins}
use Rattle.der_fields.proofs.FieldsNumbers.{pick_true, pick_false}

-- as many turns as the number are enough
enough : (m k n : ℕ) (tail : List ℕ) → n ≤ m → n ≤ k → high_sevens m n tail ≡ high_sevens k n tail
unfolding high_sevens
enough zero zero n tail le ge = refl
enough zero (suc k) n tail le ge = sym (pick_true (eqb n 0) tail (high_sevens k (n / 128) ((128 + n % 128) ∷ tail)) (eq-eqb n 0 (omega (arith, le))))
enough (suc m) zero n tail le ge = pick_true (eqb n 0) tail (high_sevens m (n / 128) ((128 + n % 128) ∷ tail)) (eq-eqb n 0 (omega (arith, ge)))
enough (suc m) (suc k) n tail le ge = elim (cases_lt 0 n) [
  | inl some ↦ pick_false (eqb n 0) tail (high_sevens m (n / 128) ((128 + n % 128) ∷ tail)) (ne_eqb n 0 (omega (arith, some)))
      ∙ enough m k (n / 128) ((128 + n % 128) ∷ tail) (omega (arith, le, some)) (omega (arith, ge, some))
      ∙ sym (pick_false (eqb n 0) tail (high_sevens k (n / 128) ((128 + n % 128) ∷ tail)) (ne_eqb n 0 (omega (arith, some))))
  | inr none ↦ pick_true (eqb n 0) tail (high_sevens m (n / 128) ((128 + n % 128) ∷ tail)) (eq-eqb n 0 (omega arith)) ∙ sym (pick_true (eqb n 0) tail (high_sevens k (n / 128) ((128 + n % 128) ∷ tail)) (eq-eqb n 0 (omega arith)))
]

-- the octets of 7 bits before a tail
abbrev pub before : ℕ → List ℕ → List ℕ
before n tail = high_sevens n n tail

pub sevens_are : (n : ℕ) → before (n / 128) (n % 128 ∷ []) ≡ sevens n
sevens_are n = enough (n / 128) n (n / 128) (n % 128 ∷ []) (omega arith) (omega arith)

pub none_before : (tail : List ℕ) → before 0 tail ≡ tail
unfolding high_sevens
none_before tail = refl

pub one_before : (n : ℕ) (tail : List ℕ) → 0 < n → before (n / 128) ((128 + n % 128) ∷ tail) ≡ before n tail
unfolding high_sevens
one_before zero tail some = absurd (omega (arith, some))
one_before (suc n) tail some =
    enough (suc n / 128) n (suc n / 128) ((128 + suc n % 128) ∷ tail) (omega arith) (omega arith)
    ∙ sym (pick_false (eqb (suc n) 0) tail (high_sevens n (suc n / 128) ((128 + suc n % 128) ∷ tail)) (ne_eqb (suc n) 0 (omega arith)))

-- whole identifiers
pub small_identifier : (c : Bool) (i : ℕ) → i < 31 → context_identifier c i ≡ (128 + form_bit c + i) ∷ []
small_identifier c i lt = cond_true (ltb i 31) ((128 + form_bit c + i) ∷ []) ((159 + form_bit c) ∷ sevens i) (lt-ltb i 31 lt)

pub large_identifier : (c : Bool) (i : ℕ) → 31 ≤ i → context_identifier c i ≡ (159 + form_bit c) ∷ sevens i
large_identifier c i ge = cond_false (ltb i 31) ((128 + form_bit c + i) ∷ []) ((159 + form_bit c) ∷ sevens i) (le-ltb i 31 ge)

-- WRITING them into so many octets, from the last to the first
power_more : (k : ℕ) → 2 ^ (k + 7) ≡ 128 * 2 ^ k
power_more k = let e : 2 ^ k * 2 ^ 7 ≡ 128 * 2 ^ k = omega arith in pow-add 2 k 7 ∙ e

-- how many octets a number takes at most
pub two_left : (n i : ℕ) → 1 ≤ i → 0 < n → n * 128 < 2 ^ (7 * i) → 2 ≤ i
two_left n zero some left few = absurd (omega (arith, some))
two_left n (suc zero) some left few = absurd (omega (arith, left, few))
two_left n (suc (suc i)) some left few = omega arith

pub fewer : (n i : ℕ) → 1 ≤ i → n * 128 < 2 ^ (7 * i) → (n / 128) * 128 < 2 ^ (7 * (i - 1))
fewer n i some few =
    let e : 7 * i ≡ 7 * (i - 1) + 7 = omega (arith, some) in
    omega (arith, few, ap (λ m. 2 ^ m) e, power_more (7 * (i - 1)))

put_before : (xs : List ℕ) (i v : ℕ) → 1 ≤ i → i ≤ length xs → drop (i - 1) (set xs (i - 1) v) ≡ v ∷ drop i xs
put_before xs i v some le =
    let e : i - 1 + 1 ≡ i = omega (arith, some) in
    drop-set xs (i - 1) v (omega (arith, some, le)) ∙ ap (λ j. v ∷ drop j xs) e

pub seven_put : (xs : List ℕ) (n i number : ℕ) → 0 < n → 1 ≤ i → i ≤ length xs → before n (drop i xs) ≡ sevens number
    → before (n / 128) (drop (i - 1) (set xs (i - 1) (128 + n % 128))) ≡ sevens number
seven_put xs n i number left some le is = ap (before (n / 128)) (put_before xs i (128 + n % 128) some le) ∙ one_before n (drop i xs) left ∙ is

pub first_put : (c : Bool) (xs : List ℕ) (n i number bit : ℕ) → 31 ≤ number → n ≤ 0 → bit ≡ form_bit c → 1 ≤ i → i ≤ length xs → before n (drop i xs) ≡ sevens number
    → drop (i - 1) (set xs (i - 1) (159 + bit)) ≡ context_identifier c number
first_put c xs n i number bit large left same some le is =
    let nothing : n ≡ 0 = omega (arith, left) in
    put_before xs i (159 + bit) some le
    ∙ ap (λ m. (159 + m) ∷ drop i xs) same
    ∙ ap (λ ys. (159 + form_bit c) ∷ ys) (sym (none_before (drop i xs)) ∙ ap (λ m. before m (drop i xs)) (sym nothing) ∙ is)
    ∙ sym (large_identifier c number large)

-- WHAT BEGINS with them
pub begins_same : (xs ys : List ℕ) → pointwise eqb xs (take (length xs) ys) ≡ begins xs ys
begins_same [] ys = refl
begins_same (x ∷ xs) [] = refl
begins_same (x ∷ xs) (y ∷ ys) = ap (λ b. eqb x y && b) (begins_same xs ys)
