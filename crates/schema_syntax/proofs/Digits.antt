-- Numbers in digits, and how they are compared.
use Rattle.std.proofs.Common.{◌≡◌, ℕ, Bool, true, false, cond, ◌+◌, ◌-◌, ◌*◌, ◌<◌, ◌≤◌, List, [], ◌∷◌, length, get_or, refl, arith, Some, None}
use Rattle.std.specs.Prelude.{if◌then◌else◌, nat_lt}
use Rattle.std.proofs.lemmas.Bool.Decides.{nat_tests}
use Rattle.base_texts.specs.Digits.{number_from}

-- more digits make no number less
pub le-number_from : (n : ℕ) (bs : List ℕ) → n ≤ number_from n bs
le-number_from n [] = omega arith
le-number_from n (b ∷ bs) = omega (arith, le-number_from (10 * n + (b - 48)) bs)

-- a number over the greatest stays over it
pub over : (n : ℕ) (bs : List ℕ) → 1 ≤ length bs → 4294967295 < 10 * n + (get_or bs 0 0 - 48) → 4294967295 < number_from n bs
over n [] some h = absurd (omega arith)
over n (b ∷ bs) some h = omega (arith, le-number_from (10 * n + (b - 48)) bs)

-- so it is no small number
pub too_large : (n : ℕ) → 4294967295 < n → None ≡ (if nat_lt n 4294967296 then Some n else None)
too_large n h = chosen (nat_lt n 4294967296) refl
  where
    chosen : (b : Bool) → b ≡ nat_lt n 4294967296 → None ≡ cond b (Some n) None
    chosen true is = absurd (grind (arith, nat_tests))
    chosen false is = refl
