-- Bits that are skipped.
use Rattle.std.proofs.Common.{◌≡◌, ℕ, zero, suc, ◌*◌, ◌/◌, ◌%◌, ◌<◌, ◌^◌, ◌⊎◌, Bool, true, false, eqb, [], ◌∷◌, refl, ap, arith, inl, inr}
use Rattle.std.proofs.lemmas.List.Elements.{Contains-append_left, Contains-append_right, Contains-append_cases}
use Rattle.std.specs.List.{Contains}
use Rattle.std.specs.Prelude.{slice_index_or}
use Rattle.base_codecs.specs.Bits.{bits}

lonely : (b : Bool) → Contains (b ∷ []) true → b ≡ true
lonely true h = refl
lonely false h = one h.0 h.1 h.2
  where
    one : (k : ℕ) → k < 1 → slice_index_or (false ∷ []) k true ≡ true → false ≡ true
    one zero l e = e
    one (suc k) l e = absurd (omega arith)

below_two : (r : ℕ) → r < 2 → (r ≡ 0) ⊎ (r ≡ 1)
below_two zero h = inl refl
below_two (suc zero) h = inr refl
below_two (suc (suc r)) h = absurd (omega arith)

parity : (x : ℕ) → (x % 2 ≡ 0) ⊎ (x % 2 ≡ 1)
parity x = let h : x % 2 < 2 = omega arith in below_two (x % 2) h

-- a number that isn't 0 has a bit that is 1
pub has_one : (n x : ℕ) → x < 2 ^ n → 0 < x → Contains (bits n x) true
unfolding bits
has_one zero x h some = absurd (omega arith)
has_one (suc n) x h some = elim (parity x) [
  | inl even ↦ (let p : 2 ^ suc n ≡ 2 * 2 ^ n = omega arith in Contains-append_left (bits n (x / 2)) (eqb (x % 2) 1 ∷ []) true (has_one n (x / 2) (omega (arith, p)) (omega arith)))
  | inr odd ↦ Contains-append_right (bits n (x / 2)) (eqb (x % 2) 1 ∷ []) true (0, omega arith, ap (λ r. eqb r 1) odd)
]

-- and 0 has none
pub no_one : (n : ℕ) → Contains (bits n 0) true → ⊥
unfolding bits
no_one zero h = absurd (omega (arith, h.1))
no_one (suc n) h = elim (Contains-append_cases (bits n 0) (false ∷ []) true h) [ inl left ↦ no_one n left | inr right ↦ (let e = lonely false right in cc) ]
