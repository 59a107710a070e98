-- What holds of each element of a list, and what all weigh, where the list is taken apart and joined.
use Rattle.std.proofs.Common.{◌≡◌, ℕ, zero, suc, ◌+◌, List, [], ◌∷◌, ◌++◌, take, drop, refl, ap, ◌∙◌, arith}
use Rattle.base_codecs.specs.Sequences.{AllFit, all_weight}

module _ {A : Type 0} (V : A → Type 0) where
  pub all_append : (xs ys : List A) → AllFit V xs → AllFit V ys → AllFit V (xs ++ ys)
  all_append [] ys h k = k
  all_append (x ∷ xs) ys h k = (h.0, all_append xs ys h.1 k)

  pub all_front : (xs ys : List A) → AllFit V (xs ++ ys) → AllFit V xs
  all_front [] ys h = tt
  all_front (x ∷ xs) ys h = (h.0, all_front xs ys h.1)

  pub all_take : (n : ℕ) (xs : List A) → AllFit V xs → AllFit V (take n xs)
  all_take zero xs h = tt
  all_take (suc n) [] h = tt
  all_take (suc n) (x ∷ xs) h = (h.0, all_take n xs h.1)

  pub all_drop : (n : ℕ) (xs : List A) → AllFit V xs → AllFit V (drop n xs)
  all_drop zero xs h = h
  all_drop (suc n) [] h = tt
  all_drop (suc n) (x ∷ xs) h = all_drop n xs h.1

module _ {A : Type 0} (w : A → ℕ) where
  pub weight_append : (xs ys : List A) → all_weight w (xs ++ ys) ≡ all_weight w xs + all_weight w ys
  weight_append [] ys = omega arith
  weight_append (x ∷ xs) ys = ap (λ n. w x + n) (weight_append xs ys) ∙ omega arith

pub weighs_nothing : {A : Type 0} (xs : List A) → all_weight (λ x. 0) xs ≡ 0
weighs_nothing [] = refl
weighs_nothing (x ∷ xs) = omega (arith, weighs_nothing xs)
