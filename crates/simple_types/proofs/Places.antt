-- Where a binary search finds an element.
use Rattle.std.proofs.Common.{◌≡◌, ℕ, zero, suc, ◌+◌, ◌<◌, ◌≤◌, Bool, false, List, [], ◌∷◌, refl, sym, ap, ◌∙◌, arith, Some, None, length, get_or, ◌⊎◌, inl, inr}
use Rattle.std.specs.Prelude.{position, bytes_eq}
use Rattle.std.specs.Cmp.Lexicographic.{slice_cmp}
use Rattle.std.proofs.lemmas.Iterator.Adapters.{position_from-zero}
use Rattle.std.proofs.lemmas.Cmp.{nat_list_cmp_total}
use Rattle.std.proofs.lemmas.Map.Text.{is_eq-slice_cmp}
use Rattle.std.specs.List.{position_from, AllByRecursion, HoldsAt}
use Rattle.std.specs.List.Sorted.{IsStrictlySortedBy, IsNonDecreasingBy, IsPartitionPoint}
use Rattle.std.specs.Ordering.{nat_cmp, is_eq, ordering_index, ordering_reverse}
use Rattle.std.specs.Cmp.{IsTotalOrder}
use Rattle.std.specs.declared.cmp.Ordering.{Ordering}
use Rattle.std.specs.declared.cmp.Ordering.TheVariants.{Less, Equal, Greater}

all_at : {X : Type 0} (P : X → Type 0) (xs : List X) (j : ℕ) (d : X) → AllByRecursion P xs → j < length xs → P (get_or xs j d)
all_at P [] j d all below = absurd (omega arith)
all_at P (x ∷ xs) zero d all below = all.0
all_at P (x ∷ xs) (suc j) d all below = all_at P xs j d all.1 (omega arith)

index_most : (r : Ordering) → ordering_index r ≤ 2
index_most Less = omega arith
index_most Equal = omega arith
index_most Greater = omega arith

split : (i j : ℕ) → i ≤ j → (i ≡ j) ⊎ (i < j)
split i j within = grind arith

sides : (j i : ℕ) → (j < i) ⊎ (i ≤ j)
sides j i = grind arith

module _ {K : Type 0} {R : K → K → Ordering} (o : IsTotalOrder R) where
  pair_less : (xs : List K) (i j : ℕ) (d : K) → IsStrictlySortedBy R xs → i < j → j < length xs → R (get_or xs i d) (get_or xs j d) ≡ Less
  unfolding IsStrictlySortedBy
  pair_less [] i j d sorted before below = absurd (omega arith)
  pair_less (x ∷ xs) i zero d sorted before below = absurd (omega arith)
  pair_less (x ∷ xs) zero (suc j) d sorted before below = all_at (λ y. R x y ≡ Less) xs j d sorted.0 (omega arith)
  pair_less (x ∷ xs) (suc i) (suc j) d sorted before below = pair_less xs i j d sorted.1 (omega arith) (omega arith)

  -- what is less than an element equal to x is less than x
  less_than : (a b x : K) → R a b ≡ Less → R b x ≡ Equal → R a x ≡ Less
  less_than a b x less same =
      let greater : R b a ≡ Greater = o.antisymm b a ∙ ap ordering_reverse less in
      o.antisymm a x ∙ ap ordering_reverse (sym (o.congr b x a same) ∙ greater)

  module _ (x : K) where
    index_by : (a b : K) (r : Ordering) → R b x ≡ r → R a b ≡ Less → ordering_index (R a x) ≤ ordering_index r
    index_by a b Less is less = let e = ap ordering_index (o.trans a b x less is) in omega (arith, e)
    index_by a b Equal is less = let e = ap ordering_index (less_than a b x less is) in omega (arith, e)
    index_by a b Greater is less = index_most (R a x)

    rising : (xs : List K) → IsStrictlySortedBy R xs → IsNonDecreasingBy (λ y. ordering_index (R y x)) xs
    rising xs sorted i j d within below = elim (split i j within) [
      | inl same ↦ (let e = ap (λ k. ordering_index (R (get_or xs k d) x)) same in omega (arith, e))
      | inr before ↦ index_by (get_or xs i d) (get_or xs j d) (R (get_or xs j d) x) refl (pair_less xs i j d sorted before below)
    ]

    found_from : (xs : List K) (k i : ℕ) → IsStrictlySortedBy R xs → i < length xs → HoldsAt (λ y. R y x ≡ Equal) xs i → position_from (λ y. is_eq (R y x)) k xs ≡ Some (k + i)
    unfolding IsStrictlySortedBy
    found_from [] k i sorted below holds = absurd (omega arith)
    found_from (y ∷ ys) k zero sorted below holds =
        let zero_more : k ≡ k + 0 = omega arith in
        rw (holds y) (ap Some zero_more)
    found_from (y ∷ ys) k (suc i) sorted below holds =
        let less : R y x ≡ Less = less_than y (get_or ys i y) x (all_at (λ z. R y z ≡ Less) ys i y sorted.0 (omega arith)) (holds y) in
        let one_more : (k + 1) + i ≡ k + suc i = omega arith in
        rw less (found_from ys (k + 1) i sorted.1 (omega arith) (λ d. holds d) ∙ ap Some one_more)

    pub found : (xs : List K) (i : ℕ) → IsStrictlySortedBy R xs → i < length xs → HoldsAt (λ y. R y x ≡ Equal) xs i → Some i ≡ position (λ y. is_eq (R y x)) xs
    found xs i sorted below holds = let none_more : i ≡ 0 + i = omega arith in ap Some none_more ∙ sym (found_from xs 0 i sorted below holds) ∙ sym (position_from-zero (λ y. is_eq (R y x)) xs)

    none_from : (xs : List K) (k : ℕ) → ((i : ℕ) (d : K) → i < length xs → is_eq (R (get_or xs i d) x) ≡ false) → position_from (λ y. is_eq (R y x)) k xs ≡ None
    none_from [] k fails = refl
    none_from (y ∷ ys) k fails = rw (fails 0 y (omega arith)) (none_from ys (k + 1) (λ i d below. fails (suc i) d (omega arith)))

    pub missed : (xs : List K) (i : ℕ) → IsStrictlySortedBy R xs
        → (IsNonDecreasingBy (λ y. ordering_index (R y x)) xs → IsPartitionPoint (λ y. R y x ≡ Less) (λ y. R y x ≡ Greater) xs i)
        → None ≡ position (λ y. is_eq (R y x)) xs
    missed xs i sorted parts =
        let cut = parts (rising xs sorted) in
        sym (position_from-zero (λ y. is_eq (R y x)) xs ∙ none_from xs 0 (λ j d below. elim (sides j i) [
          | inl before ↦ ap is_eq (cut.0 j d (omega arith) before)
          | inr behind ↦ ap is_eq (cut.1 j d behind below)
        ]))

-- the place of a text is the one that the equality of texts finds
same_from : (p q : List ℕ → Bool) (xs : List (List ℕ)) (k : ℕ) → ((y : List ℕ) → p y ≡ q y) → position_from p k xs ≡ position_from q k xs
same_from p q [] k same = refl
same_from p q (y ∷ ys) k same = rw (same y, same_from p q ys (k + 1) same) refl

module _ (x : List ℕ) (xs : List (List ℕ)) (i : ℕ) where
  same_place : position (λ y. is_eq (slice_cmp nat_cmp y x)) xs ≡ position (λ y. bytes_eq y x) xs
  same_place =
      position_from-zero (λ y. is_eq (slice_cmp nat_cmp y x)) xs
      ∙ same_from (λ y. is_eq (slice_cmp nat_cmp y x)) (λ y. bytes_eq y x) xs 0 (λ y. is_eq-slice_cmp y x)
      ∙ sym (position_from-zero (λ y. bytes_eq y x) xs)

  pub found_word : IsStrictlySortedBy (slice_cmp nat_cmp) xs → i < length xs → HoldsAt (λ y. slice_cmp nat_cmp y x ≡ Equal) xs i → Some i ≡ position (λ y. bytes_eq y x) xs
  found_word sorted below holds = found nat_list_cmp_total x xs i sorted below holds ∙ same_place

  pub missed_word : IsStrictlySortedBy (slice_cmp nat_cmp) xs
      → (IsNonDecreasingBy (λ y. ordering_index (slice_cmp nat_cmp y x)) xs → IsPartitionPoint (λ y. slice_cmp nat_cmp y x ≡ Less) (λ y. slice_cmp nat_cmp y x ≡ Greater) xs i)
      → None ≡ position (λ y. bytes_eq y x) xs
  missed_word sorted parts = missed nat_list_cmp_total x xs i sorted parts ∙ same_place
