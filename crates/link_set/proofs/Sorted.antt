-- What a stable sort leaves is the list in order.
use Rattle.std.proofs.Common.{◌≡◌, ℕ, suc, ◌<◌, ◌≤◌, arith, Bool, true, false, List, [], ◌∷◌, length, get_or, map, refl, sym, ap, ◌∙◌, subst}
use Rattle.std.specs.Prelude.{cond, if◌then◌else◌, not, ◌&&◌, ◌||◌, nat_eq, nat_lt}
use Rattle.std.specs.Cmp.{IsStrictWeakOrder, IsTotalOrder, on_total, then_total, nat_cmp_total}
use Rattle.std.specs.Ordering.{is_lt, nat_cmp, ordering_then}
use Rattle.std.specs.List.{filter}
use Rattle.std.specs.List.Sorted.{IsSortedBy, IsStableBy, IsSortedByKey, IsStableByKey, ties}
use Rattle.std.proofs.lemmas.List.Sorted.{sorted_far, ranks_by}
use Rattle.std.proofs.lemmas.Bool.{false≢true}
use Rattle.std.proofs.lemmas.Bool.Decides.{nat_tests}
use Rattle.link_names.specs.declared.places.Place.{Place}
use Rattle.link_names.specs.Order.{is_before}
use Rattle.link_set.specs.Ordered.{inserted, in_order}

same_tail : {A : Type 0} (b : Bool) (x : A) (us vs : List A) → cond b (x ∷ us) us ≡ cond b (x ∷ vs) vs → us ≡ vs
same_tail true x us vs e = cc
same_tail false x us vs e = e

module _ {A : Type 0} (lt : A → A → Bool) (o : IsStrictWeakOrder lt) where
  -- none of them stands before x
  abbrev pub NoneBefore : A → List A → Type 0
  NoneBefore x [] = Unit {0}
  NoneBefore x (y ∷ ys) = (lt y x ≡ false) × NoneBefore x ys

  -- none stands before one that it follows
  abbrev pub Rises : List A → Type 0
  Rises [] = Unit {0}
  Rises (x ∷ xs) = NoneBefore x xs × Rises xs

  -- ---- tests

  by_bool : {P : Type 0} (b : Bool) → (b ≡ true → P) → (b ≡ false → P) → P
  by_bool true t f = t refl
  by_bool false t f = f refl

  itself : (x : A) → lt x x ≡ false
  itself x = by_bool (lt x x) (λ e. o.one_way x x e) (λ e. e)

  contrary : {P : Type 0} (b : Bool) → b ≡ true → b ≡ false → P
  contrary b t f = absurd (false≢true (sym f ∙ t))

  -- x stands before y, and z doesn't stand before y
  before_too : (x y z : A) → lt x y ≡ true → lt z y ≡ false → lt x z ≡ true
  before_too x y z first behind = by_bool (lt x z) (λ e. e) (λ e. contrary (lt x y) first (o.chain x z y e behind))

  untied : (x y : A) → lt x y ≡ true → ties lt x y ≡ false
  untied x y e = ap (λ b. not b && not (lt y x)) e

  tied : (x y : A) → lt x y ≡ false → lt y x ≡ false → ties lt x y ≡ true
  tied x y d e = ap (λ b. not b && not (lt y x)) d ∙ ap not e

  tied_first : (b c : Bool) → (not b && not c) ≡ true → b ≡ false
  tied_first true c e = contrary false e refl
  tied_first false c e = refl

  tied_second : (b c : Bool) → (not b && not c) ≡ true → c ≡ false
  tied_second true c e = contrary false e refl
  tied_second false true e = contrary false e refl
  tied_second false false e = refl

  -- ---- two lists that rise and keep the order of ties alike

  none_tied : (x y : A) (ys : List A) → lt x y ≡ true → NoneBefore y ys → filter (ties lt x) ys ≡ []
  none_tied x y [] first behind = refl
  none_tied x y (z ∷ zs) first behind =
      let apart = untied x z (before_too x y z first behind.0) in
      ap (λ b. cond b (z ∷ filter (ties lt x) zs) (filter (ties lt x) zs)) apart ∙ none_tied x y zs first behind.1

  none_tied_at : (x y : A) (ys : List A) → lt x y ≡ true → NoneBefore y ys → filter (ties lt x) (y ∷ ys) ≡ []
  none_tied_at x y ys first behind =
      ap (λ b. cond b (y ∷ filter (ties lt x) ys) (filter (ties lt x) ys)) (untied x y first) ∙ none_tied x y ys first behind

  kept_first : (x y : A) (ys : List A) → ties lt x y ≡ true → filter (ties lt x) (y ∷ ys) ≡ y ∷ filter (ties lt x) ys
  kept_first x y ys e = ap (λ b. cond b (y ∷ filter (ties lt x) ys) (filter (ties lt x) ys)) e

  some_is_none : {P : Type 0} (x : A) (xs ys : List A) → ys ≡ x ∷ xs → ys ≡ [] → P
  some_is_none x xs ys e f = let no : x ∷ xs ≡ [] = sym e ∙ f in absurd cc

  first_is : (x y : A) (xs ys zs : List A) → zs ≡ x ∷ xs → zs ≡ y ∷ ys → x ≡ y
  first_is x y xs ys zs e f = let both : x ∷ xs ≡ y ∷ ys = sym e ∙ f in cc

  same_first : (x y : A) (xs ys : List A) → NoneBefore x xs → NoneBefore y ys
      → ((z : A) → filter (ties lt z) (x ∷ xs) ≡ filter (ties lt z) (y ∷ ys)) → x ≡ y
  same_first x y xs ys r s f =
      by_bool (lt x y)
      (λ e. some_is_none x (filter (ties lt x) xs) (filter (ties lt x) (y ∷ ys)) (sym (f x) ∙ kept_first x x xs (tied x x (itself x) (itself x))) (none_tied_at x y ys e s))
      (λ d. by_bool (lt y x)
      (λ e. some_is_none y (filter (ties lt y) ys) (filter (ties lt y) (x ∷ xs)) (f y ∙ kept_first y y ys (tied y y (itself y) (itself y))) (none_tied_at y x xs e r))
      (λ e. first_is x y (filter (ties lt x) xs) (filter (ties lt x) ys) (filter (ties lt x) (x ∷ xs)) (kept_first x x xs (tied x x (itself x) (itself x))) (f x ∙ kept_first x y ys (tied x y d e))))

  same : (xs ys : List A) → Rises xs → Rises ys → ((z : A) → filter (ties lt z) xs ≡ filter (ties lt z) ys) → xs ≡ ys
  same [] [] r s f = refl
  same [] (y ∷ ys) r s f = some_is_none y (filter (ties lt y) ys) (filter (ties lt y) (y ∷ ys)) (kept_first y y ys (tied y y (itself y) (itself y))) (sym (f y))
  same (x ∷ xs) [] r s f = some_is_none x (filter (ties lt x) xs) (filter (ties lt x) (x ∷ xs)) (kept_first x x xs (tied x x (itself x) (itself x))) (f x)
  same (x ∷ xs) (y ∷ ys) r s f =
      let one = same_first x y xs ys r.0 s.0 f in
      let behind : (z : A) → filter (ties lt z) xs ≡ filter (ties lt z) ys
      = λ z. same_tail (ties lt z x) x (filter (ties lt z) xs) (filter (ties lt z) ys)
      (f z ∙ ap (λ w. cond (ties lt z w) (w ∷ filter (ties lt z) ys) (filter (ties lt z) ys)) (sym one)) in
      ap (λ w. w ∷ xs) one ∙ ap (λ ws. y ∷ ws) (same xs ys r.1 s.1 behind)

  -- ---- a list in order

  swapped : (z a y : A) (us : List A) → lt y a ≡ true
      → cond (ties lt z y) (y ∷ cond (ties lt z a) (a ∷ us) us) (cond (ties lt z a) (a ∷ us) us) ≡ cond (ties lt z a) (a ∷ cond (ties lt z y) (y ∷ us) us) (cond (ties lt z y) (y ∷ us) us)
  swapped z a y us first = by_ties (ties lt z y) (ties lt z a) refl refl
    where
      by_ties : (b c : Bool) → ties lt z y ≡ b → ties lt z a ≡ c
          → cond b (y ∷ cond c (a ∷ us) us) (cond c (a ∷ us) us) ≡ cond c (a ∷ cond b (y ∷ us) us) (cond b (y ∷ us) us)
      by_ties true true d e =
          contrary (lt y a) first (o.chain y z a (tied_second (lt z y) (lt y z) d) (tied_first (lt z a) (lt a z) e))
      by_ties true false d e = refl
      by_ties false true d e = refl
      by_ties false false d e = refl

  filter_inserted : (z a : A) (xs : List A) → filter (ties lt z) (inserted lt a xs) ≡ filter (ties lt z) (a ∷ xs)
  filter_inserted z a [] = refl
  filter_inserted z a (y ∷ ys) = step (filter_inserted z a ys) (lt y a) refl
    where
      step : filter (ties lt z) (inserted lt a ys) ≡ filter (ties lt z) (a ∷ ys) → (b : Bool) → lt y a ≡ b → filter (ties lt z) (if b then y ∷ inserted lt a ys else a ∷ y ∷ ys) ≡ filter (ties lt z) (a ∷ y ∷ ys)
      step behind true e = ap (λ us. cond (ties lt z y) (y ∷ us) us) behind ∙ swapped z a y (filter (ties lt z) ys) e
      step behind false e = refl

  filter_in_order : (z : A) (xs : List A) → filter (ties lt z) (in_order lt xs) ≡ filter (ties lt z) xs
  filter_in_order z [] = refl
  filter_in_order z (x ∷ xs) =
      filter_inserted z x (in_order lt xs) ∙ ap (λ us. cond (ties lt z x) (x ∷ us) us) (filter_in_order z xs)

  still_none : (y a : A) (ys : List A) → lt a y ≡ false → NoneBefore y ys → NoneBefore y (inserted lt a ys)
  still_none y a [] e n = (e, tt)
  still_none y a (z ∷ zs) e n = step (still_none y a zs e n.1) (lt z a)
    where
      step : NoneBefore y (inserted lt a zs) → (b : Bool) → NoneBefore y (if b then z ∷ inserted lt a zs else a ∷ z ∷ zs)
      step behind true = (n.0, behind)
      step behind false = (e, n)

  none_further : (a y : A) (ys : List A) → lt y a ≡ false → NoneBefore y ys → NoneBefore a ys
  none_further a y [] e n = tt
  none_further a y (z ∷ zs) e n = (o.chain z y a n.0 e, none_further a y zs e n.1)

  rises_inserted : (a : A) (xs : List A) → Rises xs → Rises (inserted lt a xs)
  rises_inserted a [] r = (tt, tt)
  rises_inserted a (y ∷ ys) r = step (rises_inserted a ys r.1) (lt y a) refl
    where
      step : Rises (inserted lt a ys) → (b : Bool) → lt y a ≡ b → Rises (if b then y ∷ inserted lt a ys else a ∷ y ∷ ys)
      step behind true e = (still_none y a ys (o.one_way y a e) r.0, behind)
      step behind false e = ((e, none_further a y ys e r.0), r)

  pub rises_in_order : (xs : List A) → Rises (in_order lt xs)
  rises_in_order [] = tt
  rises_in_order (x ∷ xs) = rises_inserted x (in_order lt xs) (rises_in_order xs)

  -- ---- what a sort ensures

  none_from : (x : A) (xs : List A) → ((j : ℕ) (d : A) → j < length xs → lt (get_or xs j d) x ≡ false) → NoneBefore x xs
  none_from x [] h = tt
  none_from x (y ∷ ys) h = (h 0 y (omega arith), none_from x ys (λ j d within. h (suc j) d (omega arith)))

  rises_from : (xs : List A) → ((i j : ℕ) (d : A) → i ≤ j → j < length xs → lt (get_or xs j d) (get_or xs i d) ≡ false) → Rises xs
  rises_from [] h = tt
  rises_from (x ∷ xs) h =
      (none_from x xs (λ j d within. h 0 (suc j) d (omega arith) (omega arith)), rises_from xs (λ i j d le within. h (suc i) (suc j) d (omega arith) (omega arith)))

  pub sorted_once : (xs ys : List A) → IsSortedBy lt ys → IsStableBy lt xs ys → ys ≡ in_order lt xs
  sorted_once xs ys sorted stable =
      same ys (in_order lt xs) (rises_from ys (sorted_far lt o ys sorted)) (rises_in_order xs) (λ z. stable z ∙ sym (filter_in_order z xs))

-- ---- parts of what is sorted

inserted_mapped : {X A : Type 0} (g : X → A) (before : A → A → Bool) (x : X) (xs : List X)
    → map g (inserted (λ a b. before (g a) (g b)) x xs) ≡ inserted before (g x) (map g xs)
inserted_mapped g before x [] = refl
inserted_mapped g before x (y ∷ ys) = step (inserted_mapped g before x ys) (before (g y) (g x))
  where
    step : map g (inserted (λ a b. before (g a) (g b)) x ys) ≡ inserted before (g x) (map g ys) → (b : Bool) → map g (if b then y ∷ inserted (λ a c. before (g a) (g c)) x ys else x ∷ y ∷ ys)
        ≡ (if b then g y ∷ inserted before (g x) (map g ys) else g x ∷ g y ∷ map g ys)
    step behind true = ap (λ us. g y ∷ us) behind
    step behind false = refl

pub in_order_mapped : {X A : Type 0} (g : X → A) (before : A → A → Bool) (xs : List X)
    → map g (in_order (λ a b. before (g a) (g b)) xs) ≡ in_order before (map g xs)
in_order_mapped g before [] = refl
in_order_mapped g before (x ∷ xs) =
    inserted_mapped g before x (in_order (λ a b. before (g a) (g b)) xs) ∙ ap (inserted before (g x)) (in_order_mapped g before xs)

-- ---- by places

place_test : (a b c d : ℕ) → is_lt (ordering_then (nat_cmp a b) (nat_cmp c d)) ≡ (nat_lt a b || (nat_eq a b && nat_lt c d))
place_test a b c d = grind (arith, nat_tests)

place_total : IsTotalOrder (λ (x y : ℕ × ℕ). ordering_then (nat_cmp x.0 y.0) (nat_cmp x.1 y.1))
place_total = then_total (on_total (λ (p : ℕ × ℕ). p.0) nat_cmp_total) (on_total (λ (p : ℕ × ℕ). p.1) nat_cmp_total)

-- what has places is in a weak order by them
pub placed_order : {X : Type 0} (placed : X → Place) → IsStrictWeakOrder (λ a b. is_before (placed a) (placed b))
placed_order {X} placed =
    let key : X → ℕ × ℕ = λ x. ((placed x).file, (placed x).at) in
    let lt : X → X → Bool = λ a b. is_lt (ordering_then (nat_cmp (placed a).file (placed b).file) (nat_cmp (placed a).at (placed b).at)) in
    let told : lt ≡ (λ a b. is_before (placed a) (placed b)) = λ i a b. place_test (placed a).file (placed b).file (placed a).at (placed b).at i in
    subst IsStrictWeakOrder told (ranks_by place_total key)

pub by_places : {X A : Type 0} (g : X → A) (placed : X → Place) (before : A → A → Bool)
    → ((a b : X) → is_before (placed a) (placed b) ≡ before (g a) (g b)) → (xs ys : List X)
    → IsSortedByKey (λ x. ((placed x).file, (placed x).at)) (λ (x y : ℕ × ℕ). ordering_then (nat_cmp x.0 y.0) (nat_cmp x.1 y.1)) ys
    → IsStableByKey (λ x. ((placed x).file, (placed x).at)) (λ (x y : ℕ × ℕ). ordering_then (nat_cmp x.0 y.0) (nat_cmp x.1 y.1)) xs ys
    → map g ys ≡ in_order before (map g xs)
by_places {X} g placed before same xs ys sorted stable =
    let key : X → ℕ × ℕ = λ x. ((placed x).file, (placed x).at) in
    let lt : X → X → Bool = λ a b. is_lt (ordering_then (nat_cmp (placed a).file (placed b).file) (nat_cmp (placed a).at (placed b).at)) in
    let told : lt ≡ (λ a b. before (g a) (g b)) = λ i a b. (place_test (placed a).file (placed b).file (placed a).at (placed b).at ∙ same a b) i in
    ap (map g) (sorted_once lt (ranks_by place_total key) xs ys sorted stable) ∙ ap (λ b. map g (in_order b xs)) told ∙ in_order_mapped g before xs
