-- Lists that strictly ascend and have the same elements are one list.
use Rattle.std.proofs.Common.{◌≡◌, ℕ, zero, suc, ◌<◌, arith, ◌⊎◌, inl, inr, List, [], ◌∷◌, length, get_or, refl, sym, ap, ◌∙◌, subst}
use Rattle.std.specs.List.{Contains, AllByRecursion}
use Rattle.std.specs.List.Sorted.{IsStrictlySortedBy}
use Rattle.std.specs.Cmp.{IsTotalOrder}
use Rattle.std.specs.Ordering.{is_lt, ordering_reverse}
use Rattle.std.specs.declared.cmp.Ordering.{Ordering}
use Rattle.std.specs.declared.cmp.Ordering.TheVariants.{Less, Greater}
use Rattle.std.proofs.lemmas.Bool.{true≢false}

module _ {K : Type 0} where
  or_later_at : (x z : K) (xs : List K) (k : ℕ) → k < length (x ∷ xs) → get_or (x ∷ xs) k z ≡ z → (x ≡ z) ⊎ Contains xs z
  or_later_at x z xs zero lt is = inl is
  or_later_at x z xs (suc k) lt is = inr (k, omega (arith, lt), is)

  pub or_later : (x z : K) (xs : List K) → Contains (x ∷ xs) z → (x ≡ z) ⊎ Contains xs z
  or_later x z xs h = or_later_at x z xs h.0 h.1 h.2

  pub later : (x z : K) (xs : List K) → Contains xs z → Contains (x ∷ xs) z
  later x z xs h = let lt = h.1 in (suc h.0, omega (arith, lt), h.2)

  pub here : (x : K) (xs : List K) → Contains (x ∷ xs) x
  here x xs = (0, omega arith, refl)

  pub nowhere : (z : K) → Contains [] z → ⊥
  nowhere z h = let lt = h.1 in omega (arith, lt)

less≢greater : Less ≡ Greater → ⊥
less≢greater e = true≢false (ap is_lt e)

module _ {K : Type 0} (R : K → K → Ordering) (o : IsTotalOrder R) where
  below_at : (x z : K) (xs : List K) (k : ℕ) → AllByRecursion (λ y. R x y ≡ Less) xs → k < length xs → get_or xs k z ≡ z → R x z ≡ Less
  below_at x z [] k all lt is = absurd (omega (arith, lt))
  below_at x z (y ∷ xs) zero all lt is = subst (λ w. R x w ≡ Less) is all.0
  below_at x z (y ∷ xs) (suc k) all lt is = below_at x z xs k all.1 (omega (arith, lt)) is

  below : (x z : K) (xs : List K) → AllByRecursion (λ y. R x y ≡ Less) xs → Contains xs z → R x z ≡ Less
  below x z xs all h = below_at x z xs h.0 all h.1 h.2

  not_both : (x y : K) → R x y ≡ Less → R y x ≡ Less → ⊥
  not_both x y e f = less≢greater (sym e ∙ o.antisymm x y ∙ ap ordering_reverse f)

  rest_within : (x y : K) (xs ys : List K) → x ≡ y → AllByRecursion (λ z. R x z ≡ Less) xs → ((z : K) → Contains (x ∷ xs) z → Contains (y ∷ ys) z)
      → (z : K) → Contains xs z → Contains ys z
  rest_within x y xs ys same all within z h = elim (or_later y z ys (within z (later x z xs h))) [
    | inl e ↦
        let less : R x x ≡ Less = subst (λ w. R x w ≡ Less) (sym (same ∙ e)) (below x z xs all h) in
        absurd (not_both x x less less)
    | inr k ↦ k
  ]

  pub one_ascending : (xs ys : List K) → IsStrictlySortedBy R xs → IsStrictlySortedBy R ys → ((z : K) → Contains xs z → Contains ys z)
      → ((z : K) → Contains ys z → Contains xs z) → xs ≡ ys
  unfolding IsStrictlySortedBy
  one_ascending [] [] sx sy f g = refl
  one_ascending [] (y ∷ ys) sx sy f g = absurd (nowhere y (g y (here y ys)))
  one_ascending (x ∷ xs) [] sx sy f g = absurd (nowhere x (f x (here x xs)))
  one_ascending (x ∷ xs) (y ∷ ys) sx sy f g =
      let same : x ≡ y = elim (or_later y x ys (f x (here x xs))) [
        | inl e ↦ sym e
        | inr in_ys ↦ elim (or_later x y xs (g y (here y ys))) [
          | inl e ↦ e
          | inr in_xs ↦ absurd (not_both y x (below y x ys sy.0 in_ys) (below x y xs sx.0 in_xs))
        ]
      ] in
      let rest : xs ≡ ys = one_ascending xs ys sx.1 sy.1 (rest_within x y xs ys same sx.0 f) (rest_within y x ys xs (sym same) sy.0 g) in
      ap (λ k. k ∷ xs) same ∙ ap (λ ks. y ∷ ks) rest
