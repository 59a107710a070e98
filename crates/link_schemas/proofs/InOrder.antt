-- Lists put in order have the same items, each as often.
use Rattle.std.proofs.Common.{◌≡◌, ℕ, ◌+◌, arith, Bool, true, false, inl, inr, List, [], ◌∷◌, length, refl, sym, ◌∙◌}
use Rattle.std.specs.Prelude.{if◌then◌else◌}
use Rattle.std.specs.List.{sum_by}
use Rattle.std.proofs.lemmas.List.Sums.{sum_by-cons}
use Rattle.base_texts.specs.Lists.{HasItem}
use Rattle.link_set.specs.Ordered.{inserted, in_order}
use Rattle.link_schemas.proofs.Items.{count_all}

module _ {A : Type 0} (before : A → A → Bool) where
  sum_inserted : (f : A → ℕ) (x : A) (xs : List A) → sum_by f (inserted before x xs) ≡ f x + sum_by f xs
  sum_inserted f x [] = sum_by-cons f x []
  sum_inserted f x (y ∷ ys) = step (before y x) (sum_inserted f x ys)
    where
      step : (b : Bool) → sum_by f (inserted before x ys) ≡ f x + sum_by f ys
          → sum_by f (if b then y ∷ inserted before x ys else x ∷ y ∷ ys) ≡ f x + sum_by f (y ∷ ys)
      step true rest = let a = sum_by-cons f y (inserted before x ys) in let b = sum_by-cons f y ys in omega (arith, a, b, rest)
      step false rest = sum_by-cons f x (y ∷ ys)

  pub sum_in_order : (f : A → ℕ) (xs : List A) → sum_by f (in_order before xs) ≡ sum_by f xs
  sum_in_order f [] = refl
  sum_in_order f (x ∷ xs) =
      let a = sum_inserted f x (in_order before xs) in
      let b = sum_in_order f xs in
      let c = sum_by-cons f x xs in
      omega (arith, a, b, c)

  pub length_in_order : (xs : List A) → length (in_order before xs) ≡ length xs
  length_in_order xs = sym (count_all (in_order before xs)) ∙ sum_in_order (λ x. 1) xs ∙ count_all xs

  inserted_item : (x : A) (xs : List A) (z : A) → HasItem (inserted before x xs) z → HasItem (x ∷ xs) z
  inserted_item x [] z h = h
  inserted_item x (y ∷ ys) z h = step (before y x) (inserted_item x ys z) h
    where
      step : (b : Bool) → (HasItem (inserted before x ys) z → HasItem (x ∷ ys) z) → HasItem (if b then y ∷ inserted before x ys else x ∷ y ∷ ys) z → HasItem (x ∷ y ∷ ys) z
      step true rest k = elim k [ inl e ↦ inr (inl e) | inr i ↦ elim (rest i) [ inl e ↦ inl e | inr j ↦ inr (inr j) ] ]
      step false rest k = k

  item_inserted : (x : A) (xs : List A) (z : A) → HasItem (x ∷ xs) z → HasItem (inserted before x xs) z
  item_inserted x [] z h = h
  item_inserted x (y ∷ ys) z h = step (before y x) (item_inserted x ys z) h
    where
      step : (b : Bool) → (HasItem (x ∷ ys) z → HasItem (inserted before x ys) z) → HasItem (x ∷ y ∷ ys) z → HasItem (if b then y ∷ inserted before x ys else x ∷ y ∷ ys) z
      step true rest k = elim k [ inl e ↦ inr (rest (inl e)) | inr i ↦ elim i [ inl e ↦ inl e | inr j ↦ inr (rest (inr j)) ] ]
      step false rest k = k

  pub item_of_order : (xs : List A) (z : A) → HasItem (in_order before xs) z → HasItem xs z
  item_of_order [] z h = h
  item_of_order (x ∷ xs) z h = elim (inserted_item x (in_order before xs) z h) [ inl e ↦ inl e | inr i ↦ inr (item_of_order xs z i) ]

  pub item_in_order : (xs : List A) (z : A) → HasItem xs z → HasItem (in_order before xs) z
  item_in_order [] z h = h
  item_in_order (x ∷ xs) z h = item_inserted x (in_order before xs) z (elim h [ inl e ↦ inl e | inr i ↦ inr (item_in_order xs z i) ])
