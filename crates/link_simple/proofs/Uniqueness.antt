-- Where no type is made of itself, one list of spaces fits.
use Rattle.std.proofs.Common.{◌≡◌, ℕ, zero, suc, ◌<◌, ◌≤◌, arith, Bool, true, false, inl, inr, List, [], ◌∷◌, ◌++◌, length, map, set, replicate, refl, sym, ap, ◌∙◌, subst, Option, Some, None}
use Rattle.std.specs.Prelude.{slice_get}
use Rattle.std.proofs.Math.ListN.{length-set}
use Rattle.std.proofs.lemmas.List.{length-map, length-replicate}
use Rattle.std.proofs.lemmas.Bool.{cases_Bool, cases_lt}
use Rattle.simple_types.specs.Space.{Space}
use Rattle.schema_components.specs.Raw.{Document}
use Rattle.link_names.specs.declared.faults.LinkWhy.TheVariants.{CircularType}
use Rattle.link_names.specs.Order.{fault, IsFirstSuch}
use Rattle.link_names.specs.Cycles.{numbers_in, parts_in, edges, IsCircular}
use Rattle.link_names.specs.Graphs.{row, IsEdge, Leads, IsOnCycle}
use Rattle.base_texts.specs.Lists.{HasItem}
use Rattle.link_names.specs.Private.Searching.{mark, unseen}
use Rattle.link_names.specs.SimpleTypes.{SimpleDefinition, simple_types}
use Rattle.link_names.proofs.Walks.{one_step_more, set_parts, set_less, unmarked}
use Rattle.link_simple.specs.Making.{entry_at, IsMaking}
use Rattle.link_simple.proofs.Once.{same_entry}

-- rows of the definitions
pub row_of : {A : Type 0} (f : A → List ℕ) (ds : List A) (n : ℕ) (d : A) → slice_get ds n ≡ Some d → row (map f ds) n ≡ f d
row_of f [] n d is = absurd cc
row_of f (x ∷ ds) zero d is = ap f (inside x d is)
  where
    inside : {A : Type 0} (x d : A) → (let o : Option A = Some x in o) ≡ Some d → x ≡ d
    inside x d e = cc
row_of f (x ∷ ds) (suc n) d is = row_of f ds n d is

pub some_at : {A : Type 0} (ds : List A) (n : ℕ) → n < length ds → (d : A) × (slice_get ds n ≡ Some d)
some_at [] n lt = absurd (omega (arith, lt))
some_at (x ∷ ds) zero lt = (x, refl)
some_at (x ∷ ds) (suc n) lt = some_at ds n (omega (arith, lt))

pub row_within : (g : List (List ℕ)) (n m : ℕ) → HasItem (row g n) m → n < length g
row_within [] n m h = absurd h
row_within (r ∷ g) zero m h = omega arith
row_within (r ∷ g) (suc n) m h = let lt = row_within g n m h in omega (arith, lt)

-- lists of entries
pub beyond : (a : List (Option Space)) (n : ℕ) → length a ≤ n → entry_at a n ≡ None
beyond [] n le = refl
beyond (x ∷ a) zero le = absurd (omega (arith, le))
beyond (x ∷ a) (suc n) le = beyond a n (omega (arith, le))

pub same_list : (a b : List (Option Space)) → length a ≡ length b → ((n : ℕ) → n < length a → entry_at a n ≡ entry_at b n) → a ≡ b
same_list [] [] long same = refl
same_list [] (y ∷ b) long same = absurd (omega (arith, long))
same_list (x ∷ a) [] long same = absurd (omega (arith, long))
same_list (x ∷ a) (y ∷ b) long same =
    ap (λ o. o ∷ a) (same zero (omega arith)) ∙ ap (λ os. y ∷ os) (same_list a b (omega (arith, long)) (λ n lt. same (suc n) (omega (arith, lt))))

pub unseen_most : (marks : List Bool) → unseen marks ≤ length marks
unseen_most [] = omega arith
unseen_most (true ∷ marks) = let rest = unseen_most marks in omega (arith, rest)
unseen_most (false ∷ marks) = let rest = unseen_most marks in omega (arith, rest)

module _ (ds : List SimpleDefinition) (acyclic : (n : ℕ) → IsOnCycle (edges ds) n → ⊥) (a b : List (Option Space)) (fits_a : IsMaking ds a) (fits_b : IsMaking ds b) where
  abbrev Reaches : ℕ → ℕ → Type 0
  Reaches m n = (rs : List ℕ) × Leads (edges ds) m rs n

  reaches_on : (marks : List Bool) (n : ℕ) → ((m : ℕ) → mark marks m ≡ true → Reaches m n) → (c : ℕ) → IsEdge (edges ds) n c
      → (m : ℕ) → mark (set marks n true) m ≡ true → Reaches m c
  reaches_on marks n reach c edge m e = elim (set_parts marks n m e) [
    | inl old ↦ let to = reach m old in (to.0 ++ n ∷ [], one_step_more (edges ds) m to.0 n c to.1 edge)
    | inr same ↦ ([], subst (λ x. IsEdge (edges ds) x c) same edge)
  ]

  -- the marked ones lead to this one, and so do fewer and fewer that aren't marked
  same_at : (fuel : ℕ) (marks : List Bool) → length marks ≡ length ds → unseen marks ≤ fuel → (n : ℕ) → ((m : ℕ) → mark marks m ≡ true → Reaches m n)
      → n < length ds → entry_at a n ≡ entry_at b n
  same_at zero marks long few n reach lt = elim (cases_Bool (mark marks n)) [
    | inl e ↦ absurd (acyclic n (reach n e))
    | inr free ↦ let fewer = set_less marks n (omega (arith, long, lt)) free in absurd (omega (arith, fewer, few))
  ]
  same_at (suc k) marks long few n reach lt = elim (cases_Bool (mark marks n)) [
    | inl e ↦ absurd (acyclic n (reach n e))
    | inr free ↦
        let at = some_at ds n lt in
        let is_row = row_of (parts_in (numbers_in ds)) ds n at.0 at.1 in
        let fewer = set_less marks n (omega (arith, long, lt)) free in
        let same_part : (c : ℕ) → HasItem (parts_in (numbers_in ds) at.0) c → entry_at a c ≡ entry_at b c = λ c is_part.
        elim (cases_lt c (length ds)) [
          | inl within ↦
              same_at k (set marks n true) (length-set marks n true ∙ long) (omega (arith, fewer, few)) c
              (reaches_on marks n reach c (subst (λ xs. HasItem xs c) (sym is_row) is_part)) within
          | inr past ↦ let long_a = fits_a.0 in let long_b = fits_b.0 in beyond a c (omega (arith, long_a, past)) ∙ sym (beyond b c (omega (arith, long_b, past)))
        ] in
        same_entry (numbers_in ds) a b at.0 same_part (entry_at a n) (entry_at b n) (fits_a.1 n at.0 at.1) (fits_b.1 n at.0 at.1)
  ]

  pub one_making_of : a ≡ b
  one_making_of =
      let long_a = fits_a.0 in
      let long = length-replicate (length ds) false in
      same_list a b (fits_a.0 ∙ sym fits_b.0)
      (λ n lt. same_at (length ds) (replicate (length ds) false) long (let most = unseen_most (replicate (length ds) false) in omega (arith, most, long)) n
      (λ m e. absurd (unmarked (length ds) m e)) (omega (arith, long_a, lt)))

cycle_within : (g : List (List ℕ)) (n : ℕ) → IsOnCycle g n → n < length g
cycle_within g n ([], h) = row_within g n n h
cycle_within g n (r ∷ rs, h) = row_within g n r h.0

pub not_circular : (docs : List Document) → IsFirstSuch (IsCircular docs) None → (n : ℕ) → IsOnCycle (edges (simple_types docs)) n → ⊥
not_circular docs none n h =
    let ds = simple_types docs in
    let long = length-map ds (parts_in (numbers_in ds)) in
    let lt = cycle_within (edges ds) n h in
    let at = some_at ds n (omega (arith, long, lt)) in
    none (fault CircularType at.0.place) (n, (at.0, at.1, refl, h))

-- the same, of documents of which none of the simple types is made of itself
pub one_making : (docs : List Document) → IsFirstSuch (IsCircular docs) None → (a b : List (Option Space)) → IsMaking (simple_types docs) a
    → IsMaking (simple_types docs) b → a ≡ b
one_making docs none a b fits_a fits_b = one_making_of (simple_types docs) (not_circular docs none) a b fits_a fits_b
