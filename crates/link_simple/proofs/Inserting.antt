-- Each list has one that strictly ascends and has the same elements.
use Rattle.std.proofs.Common.{◌≡◌, ◌⊎◌, inl, inr, List, [], ◌∷◌, refl, sym, ap, ◌∙◌, subst}
use Rattle.std.specs.List.{Contains, AllByRecursion}
use Rattle.std.specs.List.Sorted.{IsStrictlySortedBy}
use Rattle.std.specs.Cmp.{IsTotalOrder}
use Rattle.std.specs.Ordering.{ordering_reverse}
use Rattle.std.specs.declared.cmp.Ordering.{Ordering}
use Rattle.std.specs.declared.cmp.Ordering.TheVariants.{Less, Equal, Greater}
use Rattle.simple_facets.specs.Restricting.{IsAscendingOf}
use Rattle.link_simple.proofs.Ascending.{or_later, later, here, nowhere}

by_ordering : {P : Type 0} (o : Ordering) → (o ≡ Less → P) → (o ≡ Equal → P) → (o ≡ Greater → P) → P
by_ordering Less f g h = f refl
by_ordering Equal f g h = g refl
by_ordering Greater f g h = h refl

module _ {K : Type 0} (R : K → K → Ordering) (o : IsTotalOrder R) (tells : (x y : K) → R x y ≡ Equal → x ≡ y) where
  abbrev IsBelow : K → List K → Type 0
  IsBelow x xs = AllByRecursion (λ y. R x y ≡ Less) xs

  -- one more element, at its place
  record Inserted (x : K) (xs : List K) : Type 0 where
    made : List K
    ascends : IsStrictlySortedBy R made
    above : (w : K) → R w x ≡ Less → IsBelow w xs → IsBelow w made
    has : (z : K) → Contains made z → (x ≡ z) ⊎ Contains xs z
    new : Contains made x
    old : (z : K) → Contains xs z → Contains made z

  still_below : (w x : K) (xs : List K) → R w x ≡ Less → IsBelow x xs → IsBelow w xs
  still_below w x [] less all = tt
  still_below w x (y ∷ xs) less all = (o.trans w x y less all.0, still_below w x xs less all.1)

  insert : (x : K) (xs : List K) → IsStrictlySortedBy R xs → Inserted x xs
  unfolding IsStrictlySortedBy
  insert x [] sorted = record {
    made = x ∷ [];
    ascends = (tt, tt);
    above = λ w less all. (less, tt);
    has = λ z h. or_later x z [] h;
    new = here x [];
    old = λ z h. absurd (nowhere z h);
  }
  insert x (y ∷ xs) sorted = by_ordering (R x y)
      (λ less. record {
        made = x ∷ y ∷ xs;
        ascends = ((less, still_below x y xs less sorted.0), sorted);
        above = λ w lt all. (lt, all);
        has = λ z h. or_later x z (y ∷ xs) h;
        new = here x (y ∷ xs);
        old = λ z h. later x z (y ∷ xs) h;
      })
      (λ same. record {
        made = y ∷ xs;
        ascends = sorted;
        above = λ w lt all. all;
        has = λ z h. inr h;
        new = subst (Contains (y ∷ xs)) (sym (tells x y same)) (here y xs);
        old = λ z h. h;
      })
      (λ greater.
      let rest = insert x xs sorted.1 in
      let below : R y x ≡ Less = o.antisymm y x ∙ ap ordering_reverse greater in
      record {
        made = y ∷ rest.made;
        ascends = (rest.above y below sorted.0, rest.ascends);
        above = λ w lt all. (all.0, rest.above w lt all.1);
        has = λ z h. elim (or_later y z rest.made h) [
          | inl e ↦ inr (subst (Contains (y ∷ xs)) e (here y xs))
          | inr k ↦ elim (rest.has z k) [ inl e ↦ inl e | inr i ↦ inr (later y z xs i) ]
        ];
        new = later y x rest.made rest.new;
        old = λ z h. elim (or_later y z xs h) [
          | inl e ↦ subst (Contains (y ∷ rest.made)) e (here y rest.made)
          | inr k ↦ later y z rest.made (rest.old z k)
        ];
      })

  pub some_ascending : (xs : List K) → (made : List K) × IsAscendingOf R xs made
  unfolding IsStrictlySortedBy
  some_ascending [] = ([], (tt, λ z. (λ h. h, λ h. h)))
  some_ascending (x ∷ xs) =
      let rest = some_ascending xs in
      let more = insert x rest.0 rest.1.0 in (
        more.made,
        (
          more.ascends,
          λ z. (
            λ h. elim (more.has z h) [ inl e ↦ subst (Contains (x ∷ xs)) e (here x xs) | inr k ↦ later x z xs ((rest.1.1 z).0 k) ],
            λ h. elim (or_later x z xs h) [ inl e ↦ subst (Contains more.made) e more.new | inr k ↦ more.old z ((rest.1.1 z).1 k) ],
          ),
        ),
      )
