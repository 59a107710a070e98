-- Items taken from a list, one by one.
use Rattle.std.proofs.Common.{◌≡◌, ℕ, suc, ◌+◌, ◌-◌, ◌≤◌, ◌<◌, List, [], ◌∷◌, length, take, drop, refl, ap, ◌∙◌, arith}

module _ {A : Type 0} where
  take_zero : (xs : List A) → take 0 xs ≡ []
  take_zero [] = refl
  take_zero (x ∷ xs) = refl

  drop_zero : (xs : List A) → drop 0 xs ≡ xs
  drop_zero [] = refl
  drop_zero (x ∷ xs) = refl

  -- the first of those that are due
  module _ (xs later : List A) (x : A) (n i : ℕ) (first : xs ≡ x ∷ later) (less : i < n) where
    one : n - i ≡ suc (n - (i + 1))
    one = omega (arith, less)

    pub take_first : take (n - i) xs ≡ x ∷ take (n - (i + 1)) later
    take_first = ap (λ (k : ℕ). take k xs) one ∙ ap (take (suc (n - (i + 1)))) first

    pub drop_first : drop (n - i) xs ≡ drop (n - (i + 1)) later
    drop_first = ap (λ (k : ℕ). drop k xs) one ∙ ap (drop (suc (n - (i + 1)))) first

  -- none is due
  module _ (xs : List A) (n i : ℕ) (past : n ≤ i) where
    zero_is : n - i ≡ 0
    zero_is = omega (arith, past)

    pub take_none : take (n - i) xs ≡ []
    take_none = ap (λ (k : ℕ). take k xs) zero_is ∙ take_zero xs

    pub drop_none : drop (n - i) xs ≡ xs
    drop_none = ap (λ (k : ℕ). drop k xs) zero_is ∙ drop_zero xs

  -- all are due
  pub take_all : (xs : List A) → take (length xs) xs ≡ xs
  take_all [] = refl
  take_all (x ∷ xs) = ap (λ ys. x ∷ ys) (take_all xs)
