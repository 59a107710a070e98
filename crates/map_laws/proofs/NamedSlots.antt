-- Slots with things that have names, each slot with one name: the things in their order decide the numbers and the slots.
use Rattle.std.proofs.Common.{◌≡◌, ℕ, zero, suc, ◌<◌, Bool, true, false, not, Option, Some, None, List, [], ◌∷◌, length, map, inl, inr, refl, sym, ap, subst, ◌∙◌, arith}
use Rattle.std.specs.Prelude.{slice_get}
use Rattle.std.specs.List.{list_any, AllByRecursion}
use Rattle.std.specs.List.Sorted.{IsPermutation}
use Rattle.std.proofs.lemmas.Bool.{and_parts}
use Rattle.std.proofs.lemmas.Bool.Decides.{eqb_tells}
use Rattle.std.proofs.lemmas.List.Sums.{sum_by-cons}
use Rattle.base_texts.specs.declared.texts.Name.{Name}
use Rattle.simple_types.specs.Labels.{flag_count, count_set}
use Rattle.content_models.specs.Particle as model
use Rattle.content_models.specs.Particle.{occurs, Particles}
use Rattle.content_models.specs.Clear.{IsNameIn, first_of_any, AreSingle, AllApart}
use Rattle.asn_values.specs.Ordering.{slots, slot_at, emptied, put_some, taken}
use Rattle.asn_values.specs.Orders.{is_set, cleared, are_just_set}
use Rattle.asn_values.proofs.Slots.{found_in, Covers, taken-permutes}

-- ---- names that differ

name-at : (names : List Name) (i : ℕ) (a : Name) → slice_get names i ≡ Some a → IsNameIn a names
name-at [] i a e = absurd cc
name-at (b ∷ names) zero a e = inl cc
name-at (b ∷ names) (suc i) a e = inr (name-at names i a e)

pub differ-at : (ps : Particles) → AreSingle ps → AllApart ps → (i j : ℕ) (a : Name) → slice_get (first_of_any ps) i ≡ Some a → slice_get (first_of_any ps) j ≡ Some a → i ≡ j
differ-at model.none s apart i j a e f = absurd cc
differ-at (model.more (occurs (model.sequence qs) least most) ps) s apart i j a e f = absurd s.0.0
differ-at (model.more (occurs (model.choice qs) least most) ps) s apart i j a e f = absurd s.0.0
differ-at (model.more (occurs (model.all qs) least most) ps) s apart i j a e f = absurd s.0.0
differ-at (model.more (occurs (model.element d b) least most) ps) s apart zero zero a e f = refl
differ-at (model.more (occurs (model.element d b) least most) ps) s apart zero (suc j) a e f = absurd (apart.0 a (inl cc) (name-at (first_of_any ps) j a f))
differ-at (model.more (occurs (model.element d b) least most) ps) s apart (suc i) zero a e f = absurd (apart.0 a (inl cc) (name-at (first_of_any ps) i a e))
differ-at (model.more (occurs (model.element d b) least most) ps) s apart (suc i) (suc j) a e f = ap suc (differ-at ps s.1 apart.1 i j a e f)

-- the names whose flags are set
abbrev pub picked : List Bool → List Name → List Name
picked (true ∷ flags) (a ∷ names) = a ∷ picked flags names
picked (false ∷ flags) (a ∷ names) = picked flags names
picked _ _ = []

picked-in : (flags : List Bool) (names : List Name) (a : Name) → IsNameIn a (picked flags names) → IsNameIn a names
picked-in [] names a h = absurd h
picked-in (true ∷ flags) [] a h = absurd h
picked-in (false ∷ flags) [] a h = absurd h
picked-in (true ∷ flags) (b ∷ names) a (inl e) = inl e
picked-in (true ∷ flags) (b ∷ names) a (inr h) = inr (picked-in flags names a h)
picked-in (false ∷ flags) (b ∷ names) a h = inr (picked-in flags names a h)

-- they decide the flags
pub picked-once : (ps : Particles) → AreSingle ps → AllApart ps → (f g : List Bool) → length f ≡ length (first_of_any ps) → length g ≡ length (first_of_any ps)
    → picked f (first_of_any ps) ≡ picked g (first_of_any ps) → f ≡ g
picked-once model.none s apart [] [] k l e = refl
picked-once model.none s apart [] (b ∷ g) k l e = absurd (omega (arith, l))
picked-once model.none s apart (b ∷ f) g k l e = absurd (omega (arith, k))
picked-once (model.more (occurs (model.sequence qs) least most) ps) s apart f g k l e = absurd s.0.0
picked-once (model.more (occurs (model.choice qs) least most) ps) s apart f g k l e = absurd s.0.0
picked-once (model.more (occurs (model.all qs) least most) ps) s apart f g k l e = absurd s.0.0
picked-once (model.more (occurs (model.element d b) least most) ps) s apart [] g k l e = absurd (omega (arith, k))
picked-once (model.more (occurs (model.element d b) least most) ps) s apart (c ∷ f) [] k l e = absurd (omega (arith, l))
picked-once (model.more (occurs (model.element d b) least most) ps) s apart (true ∷ f) (true ∷ g) k l e =
    ap (λ h. true ∷ h) (picked-once ps s.1 apart.1 f g (omega (arith, k)) (omega (arith, l)) cc)
picked-once (model.more (occurs (model.element d b) least most) ps) s apart (false ∷ f) (false ∷ g) k l e =
    ap (λ h. false ∷ h) (picked-once ps s.1 apart.1 f g (omega (arith, k)) (omega (arith, l)) e)
picked-once (model.more (occurs (model.element d b) least most) ps) s apart (true ∷ f) (false ∷ g) k l e =
    absurd (apart.0 b (inl refl) (picked-in g (first_of_any ps) b (subst (IsNameIn b) e (inl refl))))
picked-once (model.more (occurs (model.element d b) least most) ps) s apart (false ∷ f) (true ∷ g) k l e =
    absurd (apart.0 b (inl refl) (picked-in f (first_of_any ps) b (subst (IsNameIn b) (sym e) (inl refl))))

picked-many : (f : List Bool) (names : List Name) → length f ≡ length names → length (picked f names) ≡ count_set f
picked-many [] [] k = refl
picked-many [] (a ∷ names) k = absurd (omega (arith, k))
picked-many (b ∷ f) [] k = absurd (omega (arith, k))
picked-many (true ∷ f) (a ∷ names) k = let rest = picked-many f names (omega (arith, k)) in omega (arith, rest, sum_by-cons flag_count true f)
picked-many (false ∷ f) (a ∷ names) k = let rest = picked-many f names (omega (arith, k)) in omega (arith, rest, sum_by-cons flag_count false f)

-- ---- numbers

set-under : (flags : List Bool) (i : ℕ) → is_set flags i ≡ true → i < length flags
set-under [] i h = absurd cc
set-under (flag ∷ flags) zero h = omega arith
set-under (flag ∷ flags) (suc i) h = let below = set-under flags i h in omega (arith, below)

cleared-long : (flags : List Bool) (i : ℕ) → length (cleared flags i) ≡ length flags
cleared-long [] i = refl
cleared-long (flag ∷ flags) zero = refl
cleared-long (flag ∷ flags) (suc i) = ap suc (cleared-long flags i)

-- each is one of a flag
pub numbers-below : (flags : List Bool) (numbers : List ℕ) → are_just_set flags numbers ≡ true → AllByRecursion (λ i. i < length flags) numbers
numbers-below flags [] h = tt
numbers-below flags (i ∷ numbers) h =
    let parts = and_parts (is_set flags i) (are_just_set (cleared flags i) numbers) h in
    (set-under flags i parts.0, subst (λ n. AllByRecursion (λ j. j < n) numbers) (cleared-long flags i) (numbers-below (cleared flags i) numbers parts.1))

-- ---- slots

module _ {A : Type 0} where
  -- which slots have something
  abbrev pub flags_in : List (Option A) → List Bool
  flags_in [] = []
  flags_in (None ∷ others) = false ∷ flags_in others
  flags_in (Some x ∷ others) = true ∷ flags_in others

  pub flags-many : (all : List (Option A)) → length (flags_in all) ≡ length all
  flags-many [] = refl
  flags-many (None ∷ others) = ap suc (flags-many others)
  flags-many (Some x ∷ others) = ap suc (flags-many others)

  pub found-many : (all : List (Option A)) → length (found_in all) ≡ count_set (flags_in all)
  found-many [] = refl
  found-many (None ∷ others) = let rest = found-many others in omega (arith, rest, sum_by-cons flag_count false (flags_in others))
  found-many (Some x ∷ others) = let rest = found-many others in omega (arith, rest, sum_by-cons flag_count true (flags_in others))

  pub slots-again : (all : List (Option A)) → slots (flags_in all) (found_in all) ≡ all
  slots-again [] = refl
  slots-again (None ∷ others) = ap (λ s. None ∷ s) (slots-again others)
  slots-again (Some x ∷ others) = ap (λ s. Some x ∷ s) (slots-again others)

  pub set-slot : (all : List (Option A)) (i : ℕ) → is_set (flags_in all) i ≡ true → (x : A) × (slot_at all i ≡ Some x)
  set-slot [] i e = absurd cc
  set-slot (None ∷ others) zero e = absurd cc
  set-slot (Some x ∷ others) zero e = (x, refl)
  set-slot (None ∷ others) (suc i) e = set-slot others i e
  set-slot (Some x ∷ others) (suc i) e = set-slot others i e

  pub cleared-flags : (all : List (Option A)) (i : ℕ) → cleared (flags_in all) i ≡ flags_in (emptied all i)
  cleared-flags [] i = refl
  cleared-flags (None ∷ others) zero = refl
  cleared-flags (Some x ∷ others) zero = refl
  cleared-flags (None ∷ others) (suc i) = ap (λ f. false ∷ f) (cleared-flags others i)
  cleared-flags (Some x ∷ others) (suc i) = ap (λ f. true ∷ f) (cleared-flags others i)

  flags-cover : (all : List (Option A)) → Covers (flags_in all) all
  flags-cover [] = tt
  flags-cover (None ∷ others) = flags-cover others
  flags-cover (Some x ∷ others) = flags-cover others

  -- what numbers of them tell is what they have, in another order
  pub slots-permute : (all : List (Option A)) (numbers : List ℕ) → are_just_set (flags_in all) numbers ≡ true → IsPermutation (found_in all) (taken all numbers)
  slots-permute all numbers h = taken-permutes (flags_in all) all numbers (flags-cover all) h

  pub first-slot : (all : List (Option A)) (i : ℕ) (numbers : List ℕ) → are_just_set (flags_in all) (i ∷ numbers) ≡ true → (x : A) × (slot_at all i ≡ Some x)
  first-slot all i numbers h = set-slot all i (and_parts (is_set (flags_in all) i) (are_just_set (cleared (flags_in all) i) numbers) h).0

  none-there : (all : List (Option A)) → not (list_any (λ flag. flag) (flags_in all)) ≡ true → (i : ℕ) → slot_at all i ≡ None
  none-there [] e i = refl
  none-there (Some x ∷ others) e i = absurd cc
  none-there (None ∷ others) e zero = refl
  none-there (None ∷ others) e (suc i) = none-there others e i

  emptied-at : (all : List (Option A)) (k i : ℕ) (x : A) → slot_at (emptied all k) i ≡ Some x → slot_at all i ≡ Some x
  emptied-at [] k i x e = e
  emptied-at (slot ∷ others) zero zero x e = absurd cc
  emptied-at (slot ∷ others) zero (suc i) x e = e
  emptied-at (slot ∷ others) (suc k) zero x e = e
  emptied-at (slot ∷ others) (suc k) (suc i) x e = emptied-at others k i x e

  other-slot : (all : List (Option A)) (k i : ℕ) → (k ≡ i → ⊥) → slot_at (emptied all k) i ≡ slot_at all i
  other-slot [] k i differ = refl
  other-slot (slot ∷ others) zero zero differ = absurd (differ refl)
  other-slot (slot ∷ others) zero (suc i) differ = refl
  other-slot (slot ∷ others) (suc k) zero differ = refl
  other-slot (slot ∷ others) (suc k) (suc i) differ = other-slot others k i (λ e. differ (ap suc e))

  -- slots that have the same, as far as they go
  abbrev pub AreSame : List (Option A) → List (Option A) → Type 0
  AreSame all same = (i : ℕ) → slot_at all i ≡ slot_at same i

  pub same-found : (all same : List (Option A)) → AreSame all same → found_in all ≡ found_in same
  same-found [] [] h = refl
  same-found [] (slot ∷ others) h = same-found [] others (λ i. h (suc i)) ∙ ap (λ o. put_some o (found_in others)) (h 0)
  same-found (slot ∷ others) [] h = ap (λ o. put_some o (found_in others)) (h 0) ∙ same-found others [] (λ i. h (suc i))
  same-found (slot ∷ others) (same ∷ more) h = ap (λ o. put_some o (found_in others)) (h 0) ∙ ap (put_some same) (same-found others more (λ i. h (suc i)))

module _ {A : Type 0} (name : A → Name) where
  -- what stands in a slot has its name
  abbrev pub Named : List Name → List (Option A) → Type 0
  Named names all = (i : ℕ) (x : A) → slot_at all i ≡ Some x → slice_get names i ≡ Some (name x)

  pub slots-decided : (names : List Name) → ((i j : ℕ) (a : Name) → slice_get names i ≡ Some a → slice_get names j ≡ Some a → i ≡ j)
      → (ns ms : List ℕ) (all same : List (Option A)) → Named names all → Named names same → are_just_set (flags_in all) ns ≡ true → are_just_set (flags_in same) ms ≡ true
      → taken all ns ≡ taken same ms → (ns ≡ ms) × AreSame all same
  slots-decided names differ [] [] all same k l p q e = (refl, λ i. none-there all p i ∙ sym (none-there same q i))
  slots-decided names differ [] (j ∷ ms) all same k l p q e =
      let y = set-slot same j (and_parts (is_set (flags_in same) j) (are_just_set (cleared (flags_in same) j) ms) q).0 in
      let f : [] ≡ y.0 ∷ taken (emptied same j) ms = e ∙ ap (λ o. put_some o (taken (emptied same j) ms)) y.1 in
      absurd cc
  slots-decided names differ (i ∷ ns) [] all same k l p q e =
      let x = set-slot all i (and_parts (is_set (flags_in all) i) (are_just_set (cleared (flags_in all) i) ns) p).0 in
      let f : x.0 ∷ taken (emptied all i) ns ≡ [] = sym (ap (λ o. put_some o (taken (emptied all i) ns)) x.1) ∙ e in
      absurd cc
  slots-decided names differ (i ∷ ns) (j ∷ ms) all same k l p q e =
      let left = and_parts (is_set (flags_in all) i) (are_just_set (cleared (flags_in all) i) ns) p in
      let right = and_parts (is_set (flags_in same) j) (are_just_set (cleared (flags_in same) j) ms) q in
      let x = set-slot all i left.0 in
      let y = set-slot same j right.0 in
      let f : x.0 ∷ taken (emptied all i) ns ≡ y.0 ∷ taken (emptied same j) ms =
      sym (ap (λ o. put_some o (taken (emptied all i) ns)) x.1) ∙ e ∙ ap (λ o. put_some o (taken (emptied same j) ms)) y.1 in
      let first : x.0 ≡ y.0 = cc in
      let rest : taken (emptied all i) ns ≡ taken (emptied same j) ms = cc in
      let place : i ≡ j = differ i j (name x.0) (k i x.0 x.1) (l j y.0 y.1 ∙ ap (λ z. Some (name z)) (sym first)) in
      let others = slots-decided names differ ns ms (emptied all i) (emptied same j) (λ m z g. k m z (emptied-at all i m z g)) (λ m z g. l m z (emptied-at same j m z g))
      (ap (λ fs. are_just_set fs ns) (sym (cleared-flags all i)) ∙ left.1) (ap (λ fs. are_just_set fs ms) (sym (cleared-flags same j)) ∙ right.1) rest in (
        ap (λ m. m ∷ ns) place ∙ ap (λ ls. j ∷ ls) others.0,
        λ m. elim (eqb_tells i m) [
          | inl here ↦
              let is : i ≡ m = here.1 in
              ap (slot_at all) (sym is) ∙ x.1 ∙ ap Some first ∙ sym y.1 ∙ ap (slot_at same) (sym place ∙ is)
          | inr away ↦ sym (other-slot all i m away.1) ∙ others.1 m ∙ other-slot same j m (λ g. away.1 (place ∙ g))
        ],
      )

  -- where flags tell which names there are
  pub slots-named : (flags : List Bool) (names : List Name) (xs : List A) → length flags ≡ length names → map name xs ≡ picked flags names → Named names (slots flags xs)
  slots-named [] names xs k e i x f = absurd cc
  slots-named (b ∷ flags) [] xs k e i x f = absurd (omega (arith, k))
  slots-named (true ∷ flags) (a ∷ names) [] k e i x f = absurd cc
  slots-named (true ∷ flags) (a ∷ names) (y ∷ xs) k e zero x f = let first : name y ≡ a = cc in let same : y ≡ x = cc in ap Some (sym first ∙ ap name same)
  slots-named (true ∷ flags) (a ∷ names) (y ∷ xs) k e (suc i) x f = slots-named flags names xs (omega (arith, k)) (cc) i x f
  slots-named (false ∷ flags) (a ∷ names) xs k e zero x f = absurd cc
  slots-named (false ∷ flags) (a ∷ names) xs k e (suc i) x f = slots-named flags names xs (omega (arith, k)) e i x f

  pub slots-flags : (flags : List Bool) (names : List Name) (xs : List A) → length flags ≡ length names → map name xs ≡ picked flags names → flags_in (slots flags xs) ≡ flags
  slots-flags [] names xs k e = refl
  slots-flags (b ∷ flags) [] xs k e = absurd (omega (arith, k))
  slots-flags (true ∷ flags) (a ∷ names) [] k e = absurd cc
  slots-flags (true ∷ flags) (a ∷ names) (y ∷ xs) k e = ap (λ f. true ∷ f) (slots-flags flags names xs (omega (arith, k)) cc)
  slots-flags (false ∷ flags) (a ∷ names) xs k e = ap (λ f. false ∷ f) (slots-flags flags names xs (omega (arith, k)) e)

  pub picked-length : (flags : List Bool) (names : List Name) (xs : List A) → length flags ≡ length names → map name xs ≡ picked flags names → length xs ≡ count_set flags
  picked-length flags names xs k e = sym (map-length xs) ∙ ap length e ∙ picked-many flags names k
    where
      map-length : (ys : List A) → length (map name ys) ≡ length ys
      map-length [] = refl
      map-length (y ∷ ys) = ap suc (map-length ys)
