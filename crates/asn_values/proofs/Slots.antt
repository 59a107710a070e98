-- What stands in an order that numbers tell: what is made of each keeps its place, and nothing is lost or told twice.
use Rattle.std.proofs.Common.{◌≡◌, ℕ, zero, suc, ◌+◌, ◌-◌, ◌≤◌, Bool, true, false, ◌&&◌, not, Option, Some, None, List, [], ◌∷◌, ◌++◌, length, take, drop, inl, inr, ◌⊎◌, refl, sym, ◌∙◌, ap, subst, arith, length-drop}
use Rattle.std.specs.Prelude.{map}
use Rattle.std.specs.List.{list_any}
use Rattle.std.specs.List.Sorted.{IsPermutation}
use Rattle.std.specs.Option.{option_map}
use Rattle.std.proofs.lemmas.List.{length-map, take-map, drop-map, map-append, take-append-drop}
use Rattle.std.proofs.lemmas.List.Sorted.{IsPermutation-refl, IsPermutation-trans, IsPermutation-cons, IsPermutation-middle, IsPermutation-append_right}
use Rattle.std.proofs.lemmas.List.Sums.{sum_by-cons}
use Rattle.simple_types.specs.Labels.{flag_count, count_set}
use Rattle.asn_values.specs.Ordering.{slots, slot_at, emptied, put_some, taken, in_order}
use Rattle.asn_values.specs.Orders.{is_set, cleared, are_just_set}
use Rattle.asn_values.specs.Values.{AreJustSet}
use Rattle.asn_values.proofs.JustSet.{just_set}

-- ---- what is made of each keeps its place

module _ {A B : Type 0} (f : A → B) where
  slots-map : (flags : List Bool) (xs : List A) → slots flags (map f xs) ≡ map (option_map f) (slots flags xs)
  slots-map [] xs = refl
  slots-map (true ∷ flags) [] = refl
  slots-map (true ∷ flags) (x ∷ xs) = ap (λ s. Some (f x) ∷ s) (slots-map flags xs)
  slots-map (false ∷ flags) xs = ap (λ s. None ∷ s) (slots-map flags xs)

  slot-map : (all : List (Option A)) (i : ℕ) → slot_at (map (option_map f) all) i ≡ option_map f (slot_at all i)
  slot-map [] i = refl
  slot-map (slot ∷ others) zero = refl
  slot-map (slot ∷ others) (suc i) = slot-map others i

  emptied-map : (all : List (Option A)) (i : ℕ) → emptied (map (option_map f) all) i ≡ map (option_map f) (emptied all i)
  emptied-map [] i = refl
  emptied-map (slot ∷ others) zero = refl
  emptied-map (slot ∷ others) (suc i) = ap (λ s. option_map f slot ∷ s) (emptied-map others i)

  put-map : (o : Option A) (xs : List A) → put_some (option_map f o) (map f xs) ≡ map f (put_some o xs)
  put-map None xs = refl
  put-map (Some x) xs = refl

  taken-map : (all : List (Option A)) (numbers : List ℕ) → taken (map (option_map f) all) numbers ≡ map f (taken all numbers)
  taken-map all [] = refl
  taken-map all (i ∷ numbers) =
      ap (λ o. put_some o (taken (emptied (map (option_map f) all) i) numbers)) (slot-map all i)
      ∙ ap (λ s. put_some (option_map f (slot_at all i)) (taken s numbers)) (emptied-map all i)
      ∙ ap (put_some (option_map f (slot_at all i))) (taken-map (emptied all i) numbers)
      ∙ put-map (slot_at all i) (taken (emptied all i) numbers)

  from-map : (n : ℕ) (flags : List Bool) (numbers : List ℕ) (xs : List A)
      → take n (map f xs) ++ taken (slots flags (drop n (map f xs))) numbers ≡ map f (take n xs ++ taken (slots flags (drop n xs)) numbers)
  from-map n flags numbers xs =
      ap (λ l. l ++ taken (slots flags (drop n (map f xs))) numbers) (take-map f n xs)
      ∙ ap (λ l. map f (take n xs) ++ taken (slots flags l) numbers) (drop-map f n xs)
      ∙ ap (λ s. map f (take n xs) ++ taken s numbers) (slots-map flags (drop n xs))
      ∙ ap (λ l. map f (take n xs) ++ l) (taken-map (slots flags (drop n xs)) numbers)
      ∙ sym (map-append f (take n xs) (taken (slots flags (drop n xs)) numbers))

  pub in_order-map : (flags : List Bool) (numbers : List ℕ) (xs : List A) → in_order flags numbers (map f xs) ≡ map f (in_order flags numbers xs)
  in_order-map flags numbers xs =
      ap (λ n. take (n - count_set flags) (map f xs) ++ taken (slots flags (drop (n - count_set flags) (map f xs))) numbers) (length-map xs f)
      ∙ from-map (length xs - count_set flags) flags numbers xs

-- ---- nothing is lost or told twice

both : (a b : Bool) → (a && b) ≡ true → (a ≡ true) × (b ≡ true)
both true b h = (refl, h)
both false b h = absurd cc

module _ {A : Type 0} where
  -- what the slots have
  abbrev pub found_in : List (Option A) → List A
  found_in [] = []
  found_in (slot ∷ others) = put_some slot (found_in others)

  -- a slot has something where its flag is set; slots at the end may be missing
  abbrev pub Covers : List Bool → List (Option A) → Type 0
  Covers flags [] = Unit {0}
  Covers [] (slot ∷ others) = ⊥
  Covers (true ∷ flags) (None ∷ others) = ⊥
  Covers (true ∷ flags) (Some x ∷ others) = Covers flags others
  Covers (false ∷ flags) (None ∷ others) = Covers flags others
  Covers (false ∷ flags) (Some x ∷ others) = ⊥

  slots-cover : (flags : List Bool) (xs : List A) → Covers flags (slots flags xs)
  slots-cover [] xs = tt
  slots-cover (true ∷ flags) [] = tt
  slots-cover (true ∷ flags) (x ∷ xs) = slots-cover flags xs
  slots-cover (false ∷ flags) xs = slots-cover flags xs

  pub slots-found : (flags : List Bool) (xs : List A) → length xs ≤ count_set flags → found_in (slots flags xs) ≡ xs
  slots-found [] [] few = refl
  slots-found [] (x ∷ xs) few = absurd (omega (arith, few))
  slots-found (true ∷ flags) [] few = refl
  slots-found (true ∷ flags) (x ∷ xs) few = ap (λ ys. x ∷ ys) (slots-found flags xs (omega (arith, few, sum_by-cons flag_count true flags)))
  slots-found (false ∷ flags) xs few = slots-found flags xs (omega (arith, few, sum_by-cons flag_count false flags))

  covers-cleared : (flags : List Bool) (all : List (Option A)) (i : ℕ) → Covers flags all → Covers (cleared flags i) (emptied all i)
  covers-cleared flags [] i h = tt
  covers-cleared [] (slot ∷ others) i h = absurd h
  covers-cleared (true ∷ flags) (None ∷ others) i h = absurd h
  covers-cleared (false ∷ flags) (Some x ∷ others) i h = absurd h
  covers-cleared (true ∷ flags) (Some x ∷ others) zero h = h
  covers-cleared (false ∷ flags) (None ∷ others) zero h = h
  covers-cleared (true ∷ flags) (Some x ∷ others) (suc i) h = covers-cleared flags others i h
  covers-cleared (false ∷ flags) (None ∷ others) (suc i) h = covers-cleared flags others i h

  -- what is taken out of a slot stood somewhere in what the slots have, or the slot is missing
  abbrev TakenOut : List (Option A) → ℕ → Type 0
  TakenOut all i =
      ((slot_at all i ≡ None) × (emptied all i ≡ all))
      ⊎ ((x : A) × (us : List A) × (vs : List A) × (slot_at all i ≡ Some x) × (found_in all ≡ us ++ x ∷ vs) × (found_in (emptied all i) ≡ us ++ vs))

  taken-out : (flags : List Bool) (all : List (Option A)) (i : ℕ) → Covers flags all → is_set flags i ≡ true → TakenOut all i
  taken-out flags [] i h e = inl (refl, refl)
  taken-out [] (slot ∷ others) i h e = absurd h
  taken-out (true ∷ flags) (None ∷ others) i h e = absurd h
  taken-out (false ∷ flags) (Some x ∷ others) i h e = absurd h
  taken-out (true ∷ flags) (Some x ∷ others) zero h e = inr (x, [], found_in others, refl, refl, refl)
  taken-out (false ∷ flags) (None ∷ others) zero h e = absurd cc
  taken-out (true ∷ flags) (Some x ∷ others) (suc i) h e = elim (taken-out flags others i h e) [
    | inl k ↦ inl (k.0, ap (λ s. Some x ∷ s) k.1)
    | inr k ↦ inr (k.0, x ∷ k.1, k.2, k.3, ap (λ ys. x ∷ ys) k.4, ap (λ ys. x ∷ ys) k.5)
  ]
  taken-out (false ∷ flags) (None ∷ others) (suc i) h e = elim (taken-out flags others i h e) [
    | inl k ↦ inl (k.0, ap (λ s. None ∷ s) k.1)
    | inr k ↦ inr (k.0, k.1, k.2, k.3, k.4, k.5)
  ]

  none-set : (flags : List Bool) (all : List (Option A)) → Covers flags all → not (list_any (λ flag. flag) flags) ≡ true → found_in all ≡ []
  none-set flags [] h e = refl
  none-set [] (slot ∷ others) h e = absurd h
  none-set (true ∷ flags) (slot ∷ others) h e = absurd cc
  none-set (false ∷ flags) (Some x ∷ others) h e = absurd h
  none-set (false ∷ flags) (None ∷ others) h e = none-set flags others h e

  pub taken-permutes : (flags : List Bool) (all : List (Option A)) (numbers : List ℕ) → Covers flags all → are_just_set flags numbers ≡ true → IsPermutation (found_in all) (taken all numbers)
  taken-permutes flags all [] h e = subst (λ xs. IsPermutation xs []) (sym (none-set flags all h e)) (IsPermutation-refl [])
  taken-permutes flags all (i ∷ numbers) h e =
      let parts = both (is_set flags i) (are_just_set (cleared flags i) numbers) e in
      let others = emptied all i in
      let rest : IsPermutation (found_in others) (taken others numbers) = taken-permutes (cleared flags i) others numbers (covers-cleared flags all i h) parts.1 in
      elim (taken-out flags all i h parts.0) [
        | inl k ↦
            subst (λ o. IsPermutation (found_in all) (put_some o (taken others numbers))) (sym k.0)
            (subst (λ s. IsPermutation (found_in s) (taken others numbers)) k.1 rest)
        | inr k ↦
            let x = k.0 in
            let around = k.1 ++ k.2 in
            let told = taken others numbers in
            subst (λ o. IsPermutation (found_in all) (put_some o told)) (sym k.3)
            (subst (λ xs. IsPermutation xs (x ∷ told)) (sym k.4)
            (IsPermutation-trans (k.1 ++ x ∷ k.2) (x ∷ around) (x ∷ told) (IsPermutation-middle k.1 x k.2)
            (IsPermutation-cons x around told (subst (λ xs. IsPermutation xs told) k.5 rest))))
      ]

  pub in_order-permutes : (flags : List Bool) (numbers : List ℕ) (xs : List A) → AreJustSet numbers flags → IsPermutation xs (in_order flags numbers xs)
  in_order-permutes flags numbers xs h =
      let front = length xs - count_set flags in
      let last = drop front xs in
      let few : length last ≤ count_set flags = omega (arith, length-drop front xs) in
      let found = slots-found flags last few in
      let moved : IsPermutation last (taken (slots flags last) numbers) =
      subst (λ ys. IsPermutation ys (taken (slots flags last) numbers)) found
      (taken-permutes flags (slots flags last) numbers (slots-cover flags last) ((just_set flags numbers).1 h)) in
      subst (λ ys. IsPermutation ys (in_order flags numbers xs)) (take-append-drop front xs)
      (IsPermutation-append_right (take front xs) last (taken (slots flags last) numbers) moved)

  -- where there is one of them for each flag that is set, none stands before them
  pub in_order-whole : (flags : List Bool) (numbers : List ℕ) (xs : List A) → length xs ≡ count_set flags → in_order flags numbers xs ≡ taken (slots flags xs) numbers
  in_order-whole flags numbers xs many =
      let none : length xs - count_set flags ≡ 0 = omega (arith, many) in
      ap (λ n. take n xs ++ taken (slots flags (drop n xs)) numbers) none
