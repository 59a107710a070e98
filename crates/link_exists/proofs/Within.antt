-- A list that strictly ascends is no longer than one that has its elements.
use Rattle.std.proofs.Common.{◌≡◌, suc, ◌≤◌, arith, ◌⊎◌, inl, inr, List, [], ◌∷◌, length, refl, sym, ap, ◌∙◌, subst}
use Rattle.std.specs.List.{Contains, AllByRecursion}
use Rattle.std.specs.List.Sorted.{IsStrictlySortedBy}
use Rattle.std.specs.Cmp.{IsTotalOrder}
use Rattle.std.specs.Ordering.{is_lt, ordering_reverse}
use Rattle.std.specs.declared.cmp.Ordering.{Ordering}
use Rattle.std.specs.declared.cmp.Ordering.TheVariants.{Less, Greater}
use Rattle.std.proofs.lemmas.Bool.{true≢false}
use Rattle.link_simple.proofs.Ascending.{or_later, later, here, nowhere}

-- a list without one of its elements
module _ {K : Type 0} where
  abbrev Without : K → List K → Type 0
  Without x items = (rest : List K) × (length items ≡ suc (length rest)) × ((z : K) → Contains items z → (x ≡ z) ⊎ Contains rest z)

  without : (x : K) (items : List K) → Contains items x → Without x items
  without x [] h = absurd (nowhere x h)
  without x (y ∷ ys) h = elim (or_later y x ys h) [
    | inl e ↦ (ys, refl, λ z k. elim (or_later y z ys k) [ inl f ↦ inl (sym e ∙ f) | inr i ↦ inr i ])
    | inr i ↦
        let r : Without x ys = without x ys i in (
          y ∷ r.0,
          ap suc r.1,
          λ z k. elim (or_later y z ys k) [
            | inl f ↦ inr (subst (Contains (y ∷ r.0)) f (here y r.0))
            | inr j ↦ elim (r.2 z j) [ inl g ↦ inl g | inr l ↦ inr (later y z r.0 l) ]
          ],
        )
  ]

less≢greater : Less ≡ Greater → ⊥
less≢greater e = true≢false (ap is_lt e)

module _ {K : Type 0} (R : K → K → Ordering) (o : IsTotalOrder R) where
  below : (x z : K) (xs : List K) → AllByRecursion (λ y. R x y ≡ Less) xs → Contains xs z → R x z ≡ Less
  below x z [] all h = absurd (nowhere z h)
  below x z (y ∷ ys) all h = elim (or_later y z ys h) [
    | inl e ↦ subst (λ w. R x w ≡ Less) e all.0
    | inr i ↦ below x z ys all.1 i
  ]

  apart : (x : K) → R x x ≡ Less → ⊥
  apart x e = less≢greater (sym e ∙ o.antisymm x x ∙ ap ordering_reverse e)

  pub no_longer : (made items : List K) → IsStrictlySortedBy R made → ((z : K) → Contains made z → Contains items z) → length made ≤ length items
  unfolding IsStrictlySortedBy
  no_longer [] items sorted within = omega arith
  no_longer (x ∷ xs) items sorted within =
      let r : Without x items = without x items (within x (here x xs)) in
      let inside : (z : K) → Contains xs z → Contains r.0 z = λ z h. elim (r.2 z (within z (later x z xs h))) [
        | inl e ↦ absurd (apart x (subst (λ w. R x w ≡ Less) (sym e) (below x z xs sorted.0 h)))
        | inr i ↦ i
      ] in
      let rest = no_longer xs r.0 sorted.1 inside in
      let count = r.1 in
      omega (arith, rest, count)
