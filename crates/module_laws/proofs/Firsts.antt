-- The first place in a list at which a test passes, names that differ, and items by their names.
use Rattle.std.proofs.Common.{◌≡◌, ℕ, zero, suc, ◌<◌, ◌+◌, Bool, true, false, cond, ◌||◌, not, Option, Some, None, List, [], ◌∷◌, ◌++◌, length, map, refl, sym, ap, ◌∙◌, subst, arith, option_map, position}
use Rattle.std.specs.Prelude.{All, nat_lt, bytes_eq, slice_get, slice_index_or, if◌then◌else◌}
use Rattle.std.specs.List.{AllByRecursion, IsDistinct, prefix_len}
use Rattle.std.proofs.lemmas.Bool.{true≢false}
use Rattle.std.proofs.lemmas.Bool.Decides.{nat_tests}
use Rattle.std.proofs.lemmas.List.Folds.{list_any-append}
use Rattle.std.proofs.lemmas.Slice.Eq.{bytes_eq-Decides}
use Rattle.module_text.specs.Faults.{has_text}

-- ---- bytes that are the same

pub same_bytes : (a b : List ℕ) → bytes_eq a b ≡ true → a ≡ b
same_bytes a b e = (bytes_eq-Decides a b).0 e

pub bytes_same : (a b : List ℕ) → a ≡ b → bytes_eq a b ≡ true
bytes_same a b e = (bytes_eq-Decides a b).1 e

pub bytes-self : (a : List ℕ) → bytes_eq a a ≡ true
bytes-self a = bytes_same a a refl

apart_by : (a b : List ℕ) (is : Bool) → bytes_eq a b ≡ is → (a ≡ b → ⊥) → is ≡ false
apart_by a b false e h = refl
apart_by a b true e h = absurd (h (same_bytes a b e))

pub bytes_apart : (a b : List ℕ) → (a ≡ b → ⊥) → bytes_eq a b ≡ false
bytes_apart a b h = let P : Bool → Type 0 = λ is. bytes_eq a b ≡ is in apart_by a b (bytes_eq a b) refl h

pub apart_bytes : (a b : List ℕ) → bytes_eq a b ≡ false → a ≡ b → ⊥
apart_bytes a b e same = true≢false (sym (bytes_same a b same) ∙ e)

pub bytes-turned : (a b : List ℕ) → bytes_eq a b ≡ false → bytes_eq b a ≡ false
bytes-turned a b e = bytes_apart b a (λ same. apart_bytes a b e (sym same))

-- ---- names of which each is new

or-both : (a b : Bool) → (a || b) ≡ false → (a ≡ false) × (b ≡ false)
or-both true b e = absurd (true≢false e)
or-both false b e = (refl, e)

-- each stands neither among these nor before it in the list
abbrev pub AreNew : List (List ℕ) → List (List ℕ) → Type 0
AreNew before [] = Unit {0}
AreNew before (x ∷ xs) = (has_text before x ≡ false) × AreNew (before ++ x ∷ []) xs

apart_from : (before : List (List ℕ)) (x : List ℕ) (xs : List (List ℕ)) → ((y : List ℕ) → has_text before y ≡ false → bytes_eq x y ≡ false) → AreNew before xs
    → AllByRecursion (λ y. bytes_eq x y ≡ false) xs
apart_from before x [] h n = tt
apart_from before x (y ∷ ys) h n =
    (h y n.0, apart_from (before ++ y ∷ []) x ys (λ z e. h z (or-both (has_text before z) _ (sym (list_any-append (bytes_eq z) before (y ∷ [])) ∙ e)).0) n.1)

pub new-distinct : (before xs : List (List ℕ)) → AreNew before xs → IsDistinct bytes_eq xs
unfolding IsDistinct
new-distinct before [] n = tt
new-distinct before (x ∷ xs) n = (
  apart_from (before ++ x ∷ []) x xs
      (λ y e. bytes-turned y x (or-both (bytes_eq y x) false (or-both (has_text before y) _ (sym (list_any-append (bytes_eq y) before (x ∷ [])) ∙ e)).1).0) n.1,
  new-distinct (before ++ x ∷ []) xs n.1,
)

-- ---- the first place

first_lt : (n : ℕ) → nat_lt 0 (suc n) ≡ true
first_lt n = grind (arith, nat_tests)

lt_suc : (q n : ℕ) (b : Bool) → nat_lt q n ≡ b → nat_lt (suc q) (suc n) ≡ b
lt_suc q n true e = grind (arith, nat_tests)
lt_suc q n false e = grind (arith, nat_tests)

one_further : (q : ℕ) (b : Bool) → cond b (Some (suc q)) None ≡ option_map suc (cond b (Some q) None)
one_further q true = refl
one_further q false = refl

pub mapped : {A B : Type 0} (f : A → B) (o : Option A) (y : B) → option_map f o ≡ Some y → (x : A) × (o ≡ Some x) × (f x ≡ y)
mapped f None y e = absurd (cc)
mapped f (Some x) y e = let same : f x ≡ y = cc in (x, refl, same)

module _ {A : Type 0} (p : A → Bool) where
  place_by : (x : A) (xs : List A) (b : Bool) → p x ≡ b → position p (x ∷ xs) ≡ (if b then Some 0 else option_map suc (position p xs))
  place_by x xs true e =
      let q = prefix_len (λ y. not (p y)) xs in
      ap (λ t. cond (nat_lt (cond (not t) (1 + q) 0) (suc (length xs))) (Some (cond (not t) (1 + q) 0)) None) e
      ∙ ap (λ t. cond t (Some 0) None) (first_lt (length xs))
  place_by x xs false e =
      let q = prefix_len (λ y. not (p y)) xs in
      let up : 1 + q ≡ suc q = omega arith in
      ap (λ t. cond (nat_lt (cond (not t) (1 + q) 0) (suc (length xs))) (Some (cond (not t) (1 + q) 0)) None) e
      ∙ ap (λ n. cond (nat_lt n (suc (length xs))) (Some n) None) up
      ∙ ap (λ t. cond t (Some (suc q)) None) (lt_suc q (length xs) (nat_lt q (length xs)) refl)
      ∙ one_further q (nat_lt q (length xs))

  pub place-here : (x : A) (xs : List A) → p x ≡ true → position p (x ∷ xs) ≡ Some 0
  place-here x xs e = place_by x xs true e

  pub place-further : (x : A) (xs : List A) → p x ≡ false → position p (x ∷ xs) ≡ option_map suc (position p xs)
  place-further x xs e = place_by x xs false e

  found_by : (x : A) (xs : List A) (i : ℕ) (b : Bool) → p x ≡ b → position p (x ∷ xs) ≡ Some i
      → ((k : ℕ) → position p xs ≡ Some k → (y : A) × (slice_get xs k ≡ Some y) × (p y ≡ true)) → (y : A) × (slice_get (x ∷ xs) i ≡ Some y) × (p y ≡ true)
  found_by x xs i true is e rest =
      let first = sym (place-here x xs is) ∙ e in
      let same : 0 ≡ i = cc in
      let P : ℕ → Type 0 = λ k. (y : A) × (slice_get (x ∷ xs) k ≡ Some y) × (p y ≡ true) in
      subst P same (x, refl, is)
  found_by x xs i false is e rest =
      let m = mapped suc (position p xs) i (sym (place-further x xs is) ∙ e) in
      let P : ℕ → Type 0 = λ k. (y : A) × (slice_get (x ∷ xs) k ≡ Some y) × (p y ≡ true) in
      subst P m.2 (rest m.0 m.1)

  pub place-found : (xs : List A) (i : ℕ) → position p xs ≡ Some i → (y : A) × (slice_get xs i ≡ Some y) × (p y ≡ true)
  place-found [] i e = absurd (cc)
  place-found (x ∷ xs) i e = found_by x xs i (p x) refl e (λ k f. place-found xs k f)

pub got-within : {A : Type 0} (xs : List A) (i : ℕ) (x : A) → slice_get xs i ≡ Some x → i < length xs
got-within [] i x e = absurd (cc)
got-within (y ∷ ys) zero x e = omega arith
got-within (y ∷ ys) (suc i) x e = let rest = got-within ys i x e in omega (arith, rest)

pub got-mapped : {A B : Type 0} (f : A → B) (xs : List A) (k : ℕ) → slice_get (map f xs) k ≡ option_map f (slice_get xs k)
got-mapped f [] k = refl
got-mapped f (x ∷ xs) zero = refl
got-mapped f (x ∷ xs) (suc k) = got-mapped f xs k

pub got-at : {A : Type 0} (xs : List A) (i : ℕ) → i < length xs → (x : A) × (slice_get xs i ≡ Some x)
got-at [] i lt = absurd (omega (arith, lt))
got-at (x ∷ xs) zero lt = (x, refl)
got-at (x ∷ xs) (suc i) lt = got-at xs i (omega (arith, lt))

-- ---- names that differ

pub apart-at : (x identifier : List ℕ) (ys : List (List ℕ)) (j : ℕ) → AllByRecursion (λ y. bytes_eq x y ≡ false) ys → slice_get ys j ≡ Some identifier → bytes_eq x identifier ≡ false
apart-at x identifier [] j h e = absurd (cc)
apart-at x identifier (y ∷ ys) zero h e =
    let same : y ≡ identifier = cc in
    let P : List ℕ → Type 0 = λ z. bytes_eq x z ≡ false in
    subst P same h.0
apart-at x identifier (y ∷ ys) (suc j) h e = apart-at x identifier ys j h.1 e

-- the one with this name
module _ {A : Type 0} (name : A → List ℕ) where
  pub only-at : (identifier : List ℕ) (xs : List A) (j : ℕ) → IsDistinct bytes_eq (map name xs) → slice_get (map name xs) j ≡ Some identifier
      → position (λ x. bytes_eq (name x) identifier) xs ≡ Some j
  unfolding IsDistinct
  only-at identifier [] j h e = absurd (cc)
  only-at identifier (x ∷ xs) zero h e =
      let same : name x ≡ identifier = cc in
      place-here (λ x. bytes_eq (name x) identifier) x xs (bytes_same (name x) identifier same)
  only-at identifier (x ∷ xs) (suc j) h e =
      place-further (λ x. bytes_eq (name x) identifier) x xs (apart-at (name x) identifier (map name xs) j h.0 e) ∙ ap (λ o. option_map suc o) (only-at identifier xs j h.1 e)

-- ---- what stands at a place

pub index-is : {A : Type 0} (xs : List A) (i : ℕ) (x d : A) → slice_get xs i ≡ Some x → slice_index_or xs i d ≡ x
index-is [] i x d e = absurd (cc)
index-is (y ∷ ys) zero x d e = cc
index-is (y ∷ ys) (suc i) x d e = index-is ys i x d e

pub all-at : {A : Type 0} (P : A → Type 0) (xs : List A) (i : ℕ) (x : A) → All P xs → slice_get xs i ≡ Some x → P x
all-at P xs i x all e = subst P (index-is xs i x x e) (all i x (got-within xs i x e))
