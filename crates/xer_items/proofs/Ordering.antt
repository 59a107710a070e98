-- What stands in an order that numbers tell.
use Rattle.std.proofs.Common.{◌≡◌, ℕ, zero, suc, ◌+◌, ◌-◌, ◌≤◌, Bool, true, false, Option, Some, None, List, [], ◌∷◌, ◌++◌, length, take, drop, refl, ap, arith}
use Rattle.std.specs.List.{AllByRecursion}
use Rattle.std.proofs.lemmas.List.{take-append-drop}
use Rattle.simple_types.specs.Labels.{count_set}
use Rattle.base_trees.specs.Rose.{Rose, roses_of, node_count, count_all}
use Rattle.base_trees.proofs.Roses.{count_all-append}
use Rattle.asn_values.specs.Ordering.{slots, slot_at, emptied, put_some, taken, in_order}
use Rattle.xml_items.specs.Plain.{Plain}
use Rattle.xer_items.specs.Items.{Given, given, nothing, with_order}

-- ---- without USE-ORDER the order of items is as it was

pub unordered : (told : Bool) (flags : List Bool) (numbers : List ℕ) (inner : Given) → told ≡ false → with_order told flags numbers inner ≡ inner
unordered false flags numbers inner e = refl
unordered true flags numbers inner e = absurd (cc)

-- ---- nothing is there that wasn't

module _ {A : Type 0} (P : A → Type 0) where
  abbrev AreAll : List (Option A) → Type 0
  AreAll all = AllByRecursion (λ o. elim o [ None ↦ Unit {0} | Some x ↦ P x ]) all

  slots-all : (flags : List Bool) (xs : List A) → AllByRecursion P xs → AreAll (slots flags xs)
  slots-all [] xs h = tt
  slots-all (true ∷ flags) [] h = tt
  slots-all (true ∷ flags) (x ∷ xs) h = (h.0, slots-all flags xs h.1)
  slots-all (false ∷ flags) xs h = (tt, slots-all flags xs h)

  emptied-all : (all : List (Option A)) (i : ℕ) → AreAll all → AreAll (emptied all i)
  emptied-all [] i h = tt
  emptied-all (slot ∷ others) zero h = (tt, h.1)
  emptied-all (slot ∷ others) (suc i) h = (h.0, emptied-all others i h.1)

  put-all : (all : List (Option A)) (i : ℕ) (xs : List A) → AreAll all → AllByRecursion P xs → AllByRecursion P (put_some (slot_at all i) xs)
  put-all [] i xs h k = k
  put-all (None ∷ others) zero xs h k = k
  put-all (Some x ∷ others) zero xs h k = (h.0, k)
  put-all (slot ∷ others) (suc i) xs h k = put-all others i xs h.1 k

  taken-all : (all : List (Option A)) (numbers : List ℕ) → AreAll all → AllByRecursion P (taken all numbers)
  taken-all all [] h = tt
  taken-all all (i ∷ numbers) h = put-all all i (taken (emptied all i) numbers) h (taken-all (emptied all i) numbers (emptied-all all i h))

  both-all : (xs ys : List A) → AllByRecursion P xs → AllByRecursion P ys → AllByRecursion P (xs ++ ys)
  both-all [] ys h k = k
  both-all (x ∷ xs) ys h k = (h.0, both-all xs ys h.1 k)

  take-all : (n : ℕ) (xs : List A) → AllByRecursion P xs → AllByRecursion P (take n xs)
  take-all zero xs h = tt
  take-all (suc n) [] h = tt
  take-all (suc n) (x ∷ xs) h = (h.0, take-all n xs h.1)

  drop-all : (n : ℕ) (xs : List A) → AllByRecursion P xs → AllByRecursion P (drop n xs)
  drop-all zero xs h = h
  drop-all (suc n) [] h = tt
  drop-all (suc n) (x ∷ xs) h = drop-all n xs h.1

  pub in_order-all : (flags : List Bool) (numbers : List ℕ) (xs : List A) → AllByRecursion P xs → AllByRecursion P (in_order flags numbers xs)
  in_order-all flags numbers xs h =
      let n = length xs - count_set flags in
      both-all (take n xs) (taken (slots flags (drop n xs)) numbers) (take-all n xs h) (taken-all (slots flags (drop n xs)) numbers (slots-all flags (drop n xs) (drop-all n xs h)))

nothing_left : {A : Type 0} (xs : List A) → AllByRecursion (λ (x : A). ⊥) xs → xs ≡ []
nothing_left [] h = refl
nothing_left (x ∷ xs) h = absurd h.0

pub nothing-ordered : (told : Bool) (flags : List Bool) (numbers : List ℕ) → with_order told flags numbers nothing ≡ nothing
nothing-ordered false flags numbers = refl
nothing-ordered true flags numbers =
    ap (λ items. given [] (roses_of items)) (nothing_left (in_order flags numbers []) (in_order-all (λ (item : Rose Plain). ⊥) flags numbers [] tt))

-- ---- nor twice

module _ {L : Type 0} where
  abbrev weight : List (Rose L) → ℕ
  weight ts = count_all (roses_of ts)

  abbrev slot_weight : Option (Rose L) → ℕ
  slot_weight None = 0
  slot_weight (Some t) = node_count t

  abbrev weights : List (Option (Rose L)) → ℕ
  weights [] = 0
  weights (slot ∷ others) = slot_weight slot + weights others

  slots-weight : (flags : List Bool) (ts : List (Rose L)) → weights (slots flags ts) ≤ weight ts
  slots-weight [] ts = omega arith
  slots-weight (true ∷ flags) [] = omega arith
  slots-weight (true ∷ flags) (t ∷ ts) = omega (arith, slots-weight flags ts)
  slots-weight (false ∷ flags) ts = omega (arith, slots-weight flags ts)

  emptied-weight : (all : List (Option (Rose L))) (i : ℕ) → weights (emptied all i) + slot_weight (slot_at all i) ≡ weights all
  emptied-weight [] i = omega arith
  emptied-weight (slot ∷ others) zero = omega arith
  emptied-weight (slot ∷ others) (suc i) = omega (arith, emptied-weight others i)

  put-weight : (o : Option (Rose L)) (ts : List (Rose L)) → weight (put_some o ts) ≡ slot_weight o + weight ts
  put-weight None ts = omega arith
  put-weight (Some t) ts = refl

  taken-weight : (all : List (Option (Rose L))) (numbers : List ℕ) → weight (taken all numbers) ≤ weights all
  taken-weight all [] = omega arith
  taken-weight all (i ∷ numbers) =
      omega (arith, put-weight (slot_at all i) (taken (emptied all i) numbers), taken-weight (emptied all i) numbers, emptied-weight all i)

  pub in_order-weight : (flags : List Bool) (numbers : List ℕ) (ts : List (Rose L)) → count_all (roses_of (in_order flags numbers ts)) ≤ count_all (roses_of ts)
  in_order-weight flags numbers ts =
      let n = length ts - count_set flags in
      let whole = ap weight (take-append-drop n ts) in
      let parts = count_all-append (take n ts) (drop n ts) in
      let ends = count_all-append (take n ts) (taken (slots flags (drop n ts)) numbers) in
      let slotted = slots-weight flags (drop n ts) in
      let back = taken-weight (slots flags (drop n ts)) numbers in
      omega (arith, whole, parts, ends, slotted, back)
