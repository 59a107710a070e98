-- What stands in lists, how often, and where.
use Rattle.std.proofs.Common.{◌≡◌, ℕ, zero, suc, ◌+◌, ◌≤◌, arith, Bool, true, false, cond, ◌⊎◌, inl, inr, List, [], ◌∷◌, ◌++◌, length, map, All, Some, refl, sym, ap, ap₂, ◌∙◌, subst}
use Rattle.std.specs.Prelude.{slice_get, ◌||◌, ◌&&◌}
use Rattle.std.specs.List.{flat_map, filter, list_any, position_from, count_by, sum_by}
use Rattle.std.proofs.lemmas.Bool.{true≢false, and_parts}
use Rattle.std.proofs.lemmas.Grind.{flat_map-append}
use Rattle.std.proofs.lemmas.List.Elements.{All-nil, All-cons, All-head, All-tail}
use Rattle.std.proofs.lemmas.List.Sums.{sum_by-cons, sum_by-append}
use Rattle.base_texts.specs.Lists.{HasItem}
use Rattle.base_texts.proofs.Lists.{has_left, has_right}

-- ---- by numbers

module _ {A : Type 0} where
  pub item_at : (xs : List A) (k : ℕ) (x : A) → slice_get xs k ≡ Some x → HasItem xs x
  item_at [] k x is = absurd cc
  item_at (y ∷ ys) zero x is = inl (let same : y ≡ x = cc in same)
  item_at (y ∷ ys) (suc k) x is = inr (item_at ys k x is)

  pub number_of_item : (xs : List A) (x : A) → HasItem xs x → (k : ℕ) × (slice_get xs k ≡ Some x)
  number_of_item [] x h = absurd h
  number_of_item (y ∷ ys) x (inl same) = (0, ap (λ (z : A). Some z) same)
  number_of_item (y ∷ ys) x (inr h) = let r = number_of_item ys x h in (suc r.0, r.1)

  pub one_at : (xs : List A) (k : ℕ) (x y : A) → slice_get xs k ≡ Some x → slice_get xs k ≡ Some y → x ≡ y
  one_at xs k x y e f = let both : Some x ≡ Some y = sym e ∙ f in cc

  pub in_either : (xs ys : List A) (x : A) → HasItem (xs ++ ys) x → HasItem xs x ⊎ HasItem ys x
  in_either [] ys x h = inr h
  in_either (y ∷ xs) ys x (inl e) = inl (inl e)
  in_either (y ∷ xs) ys x (inr h) = elim (in_either xs ys x h) [ inl k ↦ inl (inr k) | inr k ↦ inr k ]

  pub each_item : (P : A → Type 0) (xs : List A) → ((x : A) → HasItem xs x → P x) → All P xs
  each_item P [] h = All-nil P
  each_item P (x ∷ xs) h = All-cons P x xs (h x (inl refl)) (each_item P xs (λ y i. h y (inr i)))

  pub item_of_all : (P : A → Type 0) (xs : List A) → All P xs → (x : A) → HasItem xs x → P x
  item_of_all P [] h x i = absurd i
  item_of_all P (y ∷ ys) h x (inl same) = subst P same (All-head P y ys h)
  item_of_all P (y ∷ ys) h x (inr i) = item_of_all P ys (All-tail P y ys h) x i

  pub has_kept : (p : A → Bool) (xs : List A) (x : A) → HasItem xs x → p x ≡ true → HasItem (filter p xs) x
  has_kept p [] x h is = absurd h
  has_kept p (y ∷ ys) x h is = step (p y) refl (λ i. has_kept p ys x i is)
    where
      step : (b : Bool) → p y ≡ b → (HasItem ys x → HasItem (filter p ys) x) → HasItem (cond b (y ∷ filter p ys) (filter p ys)) x
      step true e rest = elim h [ inl same ↦ inl same | inr i ↦ inr (rest i) ]
      step false e rest = elim h [ inl same ↦ absurd (true≢false (sym is ∙ ap p (sym same) ∙ e)) | inr i ↦ rest i ]

  pub one_passes : (p : A → Bool) (xs : List A) → list_any p xs ≡ true → (x : A) × HasItem xs x × (p x ≡ true)
  one_passes p [] is = absurd (true≢false (sym is))
  one_passes p (y ∷ ys) is = step (p y) refl is (λ e. one_passes p ys e)
    where
      step : (b : Bool) → p y ≡ b → (b || list_any p ys) ≡ true → (list_any p ys ≡ true → (x : A) × HasItem ys x × (p x ≡ true))
          → (x : A) × HasItem (y ∷ ys) x × (p x ≡ true)
      step true e h rest = (y, inl refl, e)
      step false e h rest = let r = rest h in (r.0, inr r.1, r.2)

  pub any_passes : (p : A → Bool) (xs : List A) (x : A) → HasItem xs x → p x ≡ true → list_any p xs ≡ true
  any_passes p [] x h is = absurd h
  any_passes p (y ∷ ys) x h is = step (p y) refl (λ i. any_passes p ys x i is)
    where
      step : (b : Bool) → p y ≡ b → (HasItem ys x → list_any p ys ≡ true) → (b || list_any p ys) ≡ true
      step true e rest = refl
      step false e rest = elim h [ inl same ↦ absurd (true≢false (sym is ∙ ap p (sym same) ∙ e)) | inr i ↦ rest i ]

-- ---- in lists that are made of others

module _ {A B : Type 0} (f : A → List B) where
  pub in_flat : (xs : List A) (x : A) (y : B) → HasItem xs x → HasItem (f x) y → HasItem (flat_map f xs) y
  in_flat [] x y h i = absurd h
  in_flat (z ∷ zs) x y (inl same) i = has_left (f z) (flat_map f zs) y (subst (λ w. HasItem (f w) y) (sym same) i)
  in_flat (z ∷ zs) x y (inr h) i = has_right (f z) (flat_map f zs) y (in_flat zs x y h i)

  pub of_flat : (xs : List A) (y : B) → HasItem (flat_map f xs) y → (x : A) × HasItem xs x × HasItem (f x) y
  of_flat [] y h = absurd h
  of_flat (z ∷ zs) y h = elim (in_either (f z) (flat_map f zs) y h) [ inl i ↦ (z, inl refl, i) | inr i ↦ let r = of_flat zs y i in (r.0, inr r.1, r.2) ]

module _ {A B : Type 0} (f : A → B) where
  pub in_mapped : (xs : List A) (x : A) → HasItem xs x → HasItem (map f xs) (f x)
  in_mapped [] x h = absurd h
  in_mapped (z ∷ zs) x (inl same) = inl (ap f same)
  in_mapped (z ∷ zs) x (inr h) = inr (in_mapped zs x h)

  pub of_mapped : (xs : List A) (y : B) → HasItem (map f xs) y → (x : A) × HasItem xs x × (f x ≡ y)
  of_mapped [] y h = absurd h
  of_mapped (z ∷ zs) y (inl same) = (z, inl refl, same)
  of_mapped (z ∷ zs) y (inr h) = let r = of_mapped zs y h in (r.0, inr r.1, r.2)

-- ---- counts

abbrev pub as_number : Bool → ℕ
as_number b = cond b 1 0

module _ {A : Type 0} (p : A → Bool) where
  pub count_more : (x : A) (xs : List A) → count_by p (x ∷ xs) ≡ as_number (p x) + count_by p xs
  count_more x xs = sum_by-cons (λ y. as_number (p y)) x xs

  pub count_joined : (xs ys : List A) → count_by p (xs ++ ys) ≡ count_by p xs + count_by p ys
  count_joined xs ys = sum_by-append (λ y. as_number (p y)) xs ys

  pub some_count : (xs : List A) (x : A) → HasItem xs x → p x ≡ true → 1 ≤ count_by p xs
  some_count [] x h is = absurd h
  some_count (y ∷ ys) x (inl same) is =
      let more = count_more y ys in
      let one : as_number (p y) ≡ 1 = ap as_number (ap p same ∙ is) in
      omega (arith, more, one)
  some_count (y ∷ ys) x (inr h) is =
      let more = count_more y ys in
      let rest = some_count ys x h is in
      omega (arith, more, rest)

  pub no_count : (xs : List A) → ((x : A) → HasItem xs x → p x ≡ false) → count_by p xs ≡ 0
  no_count [] none = refl
  no_count (y ∷ ys) none =
      let more = count_more y ys in
      let zero_here : as_number (p y) ≡ 0 = ap as_number (none y (inl refl)) in
      let rest = no_count ys (λ x h. none x (inr h)) in
      omega (arith, more, zero_here, rest)

  -- where at most one passes, those that pass have one number
  pub one_number : (xs : List A) (i j : ℕ) (x y : A) → count_by p xs ≤ 1 → slice_get xs i ≡ Some x → slice_get xs j ≡ Some y → p x ≡ true → p y ≡ true → i ≡ j
  one_number [] i j x y few a b px py = absurd cc
  one_number (z ∷ zs) zero zero x y few a b px py = refl
  one_number (z ∷ zs) zero (suc j) x y few a b px py =
      let more = count_more z zs in
      let same : z ≡ x = cc in
      let one : as_number (p z) ≡ 1 = ap as_number (ap p same ∙ px) in
      let rest = some_count zs y (item_at zs j y b) py in
      absurd (omega (arith, more, one, rest, few))
  one_number (z ∷ zs) (suc i) zero x y few a b px py =
      let more = count_more z zs in
      let same : z ≡ y = cc in
      let one : as_number (p z) ≡ 1 = ap as_number (ap p same ∙ py) in
      let rest = some_count zs x (item_at zs i x a) px in
      absurd (omega (arith, more, one, rest, few))
  one_number (z ∷ zs) (suc i) (suc j) x y few a b px py =
      let more = count_more z zs in
      ap suc (one_number zs i j x y (omega (arith, more, few)) a b px py)

pub count_all : {A : Type 0} (xs : List A) → count_by (λ x. true) xs ≡ length xs
count_all [] = refl
count_all (x ∷ xs) = let more = count_more (λ y. true) x xs in let rest = count_all xs in omega (arith, more, rest)

pub count_mapped : {A B : Type 0} (p : B → Bool) (f : A → B) (xs : List A) → count_by p (map f xs) ≡ count_by (λ x. p (f x)) xs
count_mapped p f [] = refl
count_mapped p f (x ∷ xs) =
    let a = count_more p (f x) (map f xs) in
    let b = count_more (λ y. p (f y)) x xs in
    let rest = count_mapped p f xs in
    omega (arith, a, b, rest)

pub same_count : {A : Type 0} (p q : A → Bool) (xs : List A) → ((x : A) → HasItem xs x → p x ≡ q x) → count_by p xs ≡ count_by q xs
same_count p q [] same = refl
same_count p q (x ∷ xs) same =
    let a = count_more p x xs in
    let b = count_more q x xs in
    let here : as_number (p x) ≡ as_number (q x) = ap as_number (same x (inl refl)) in
    let rest = same_count p q xs (λ y h. same y (inr h)) in
    omega (arith, a, b, here, rest)

-- ---- sums

pub sum_less : {A : Type 0} (f g : A → ℕ) (xs : List A) → ((x : A) → HasItem xs x → f x ≤ g x) → sum_by f xs ≤ sum_by g xs
sum_less f g [] less = omega arith
sum_less f g (x ∷ xs) less =
    let a = sum_by-cons f x xs in
    let b = sum_by-cons g x xs in
    let here = less x (inl refl) in
    let rest = sum_less f g xs (λ y h. less y (inr h)) in
    omega (arith, a, b, here, rest)

pub sums_joined : {A : Type 0} (f g : A → ℕ) (xs : List A) → sum_by f xs + sum_by g xs ≡ sum_by (λ x. f x + g x) xs
sums_joined f g [] = refl
sums_joined f g (x ∷ xs) =
    let a = sum_by-cons f x xs in
    let b = sum_by-cons g x xs in
    let c = sum_by-cons (λ y. f y + g y) x xs in
    let rest = sums_joined f g xs in
    omega (arith, a, b, c, rest)

pub one_of_sum : {A : Type 0} (f : A → ℕ) (xs : List A) (x : A) → HasItem xs x → f x ≤ sum_by f xs
one_of_sum f [] x h = absurd h
one_of_sum f (y ∷ ys) x (inl same) =
    let a = sum_by-cons f y ys in
    let e : f y ≡ f x = ap f same in
    omega (arith, a, e)
one_of_sum f (y ∷ ys) x (inr h) =
    let a = sum_by-cons f y ys in
    let rest = one_of_sum f ys x h in
    omega (arith, a, rest)

pub count_flat : {A B : Type 0} (p : B → Bool) (f : A → List B) (xs : List A) → count_by p (flat_map f xs) ≡ sum_by (λ x. count_by p (f x)) xs
count_flat p f [] = refl
count_flat p f (x ∷ xs) =
    let a = count_joined p (f x) (flat_map f xs) in
    let b = sum_by-cons (λ y. count_by p (f y)) x xs in
    let rest = count_flat p f xs in
    omega (arith, a, b, rest)

-- a part of a list that is joined
pub count_of_part : {A B : Type 0} (p : B → Bool) (f : A → List B) (xs : List A) (x : A) → HasItem xs x → count_by p (f x) ≤ count_by p (flat_map f xs)
count_of_part p f xs x h =
    let a = count_flat p f xs in
    let b = one_of_sum (λ y. count_by p (f y)) xs x h in
    omega (arith, a, b)

pub flat_flat : {X A B : Type 0} (f : A → List B) (g : X → List A) (h : X → List B) → ((x : X) → flat_map f (g x) ≡ h x) → (xs : List X)
    → flat_map f (flat_map g xs) ≡ flat_map h xs
flat_flat f g h same [] = refl
flat_flat f g h same (x ∷ xs) = flat_map-append f (g x) (flat_map g xs) ∙ ap₂ (λ as_ bs. as_ ++ bs) (same x) (flat_flat f g h same xs)

pub flat_same : {A B : Type 0} (f g : A → List B) → ((x : A) → f x ≡ g x) → (xs : List A) → flat_map f xs ≡ flat_map g xs
flat_same f g same [] = refl
flat_same f g same (x ∷ xs) = ap₂ (λ as_ bs. as_ ++ bs) (same x) (flat_same f g same xs)

pub flat_nothing : {A B : Type 0} (xs : List A) → flat_map (λ (x : A). let none : List B = [] in none) xs ≡ []
flat_nothing [] = refl
flat_nothing (x ∷ xs) = flat_nothing xs

-- ---- tests of all items

pub by_and : {A : Type 0} (F : List A → Bool) (t : A → Bool) → ((x : A) (xs : List A) → F (x ∷ xs) ≡ (t x && F xs)) → (xs : List A) → F xs ≡ true
    → (x : A) → HasItem xs x → t x ≡ true
by_and F t more [] is x h = absurd h
by_and F t more (y ∷ ys) is x (inl same) = let two = and_parts (t y) (F ys) (sym (more y ys) ∙ is) in ap t (sym same) ∙ two.0
by_and F t more (y ∷ ys) is x (inr h) = let two = and_parts (t y) (F ys) (sym (more y ys) ∙ is) in by_and F t more ys two.1 x h

-- ---- the first that passes

pub record IsAt {A : Type 0} (p : A → Bool) (n : ℕ) (xs : List A) (m : ℕ) : Type 0 where
  pub index : ℕ
  pub item : A
  pub number : m ≡ n + index
  pub there : slice_get xs index ≡ Some item
  pub passes : p item ≡ true

module _ {A : Type 0} (p : A → Bool) where
  found_step : (n m : ℕ) (x : A) (xs : List A) (b : Bool) → p x ≡ b → cond b (Some n) (position_from p (n + 1) xs) ≡ Some m
      → (position_from p (n + 1) xs ≡ Some m → IsAt p (n + 1) xs m) → IsAt p n (x ∷ xs) m
  found_step n m x xs true e is rest = record { index = 0; item = x; number = (let same : n ≡ m = cc in omega (arith, same)); there = refl; passes = e }
  found_step n m x xs false e is rest =
      let r = rest is in
      let k = r.number in
      record { index = suc r.index; item = r.item; number = omega (arith, k); there = r.there; passes = r.passes }

  pub found_at : (n : ℕ) (xs : List A) (m : ℕ) → position_from p n xs ≡ Some m → IsAt p n xs m
  found_at n [] m is = absurd cc
  found_at n (x ∷ xs) m is = found_step n m x xs (p x) refl is (found_at (n + 1) xs m)

  some_step : (n : ℕ) (y : A) (ys : List A) (b : Bool) → p y ≡ b → (x : A) → HasItem (y ∷ ys) x → p x ≡ true
      → (HasItem ys x → (m : ℕ) × (position_from p (n + 1) ys ≡ Some m)) → (m : ℕ) × (cond b (Some n) (position_from p (n + 1) ys) ≡ Some m)
  some_step n y ys true e x h is rest = (n, refl)
  some_step n y ys false e x h is rest = elim h [ inl same ↦ absurd (true≢false (sym is ∙ ap p (sym same) ∙ e)) | inr i ↦ rest i ]

  pub some_position : (n : ℕ) (xs : List A) (x : A) → HasItem xs x → p x ≡ true → (m : ℕ) × (position_from p n xs ≡ Some m)
  some_position n [] x h is = absurd h
  some_position n (y ∷ ys) x h is = some_step n y ys (p y) refl x h is (λ i. some_position (n + 1) ys x i is)

pub position_mapped : {A B : Type 0} (p : B → Bool) (f : A → B) (n : ℕ) (xs : List A) → position_from p n (map f xs) ≡ position_from (λ x. p (f x)) n xs
position_mapped p f n [] = refl
position_mapped p f n (x ∷ xs) = ap (cond (p (f x)) (Some n)) (position_mapped p f (n + 1) xs)
