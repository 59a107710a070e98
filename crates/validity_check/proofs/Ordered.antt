-- Where the use of a name stands among uses that ascend.
use Rattle.std.proofs.Common.{◌≡◌, ℕ, zero, suc, ◌+◌, ◌<◌, ◌≤◌, ◌⊎◌, inl, inr, Bool, true, false, List, [], ◌∷◌, Some, None, map, length, get_or, refl, sym, ◌∙◌, ap, subst, arith}
use Rattle.std.specs.List.{AllByRecursion}
use Rattle.std.specs.List.Sorted.{IsStrictlySortedBy}
use Rattle.std.specs.Cmp.Lexicographic.{slice_cmp}
use Rattle.std.specs.Ordering.{nat_cmp, ordering_then, ordering_reverse}
use Rattle.std.specs.declared.cmp.Ordering.{Ordering}
use Rattle.std.specs.declared.cmp.Ordering.TheVariants.{Less, Equal, Greater}
use Rattle.std.proofs.lemmas.Cmp.{nat_list_cmp_total, tied_itself}
use Rattle.std.proofs.lemmas.Map.Lookups.{exact_bytes}
use Rattle.base_texts.specs.declared.texts.Name.{Name}
use Rattle.base_texts.specs.Names.{name_eq, name_cmp}
use Rattle.base_texts.proofs.NameLaws.{name_eq-Decides, name_cmp_total}
use Rattle.schema_components.specs.declared.components.AttributeUse.{AttributeUse}
use Rattle.schema_components.specs.SetParts.{SetParts}
use Rattle.validity_rules.specs.Asked.{attribute_in}
use Rattle.validity_rules.specs.Attributes.{declared}
use Rattle.validity_check.specs.declared.places.Run.{Run}
use Rattle.validity_check.specs.Ascending.{Ascend}
use Rattle.validity_check.specs.Uses.{IsRunOf, IsPlace}

-- what stands at a place doesn't depend on what would stand beyond the end
pub same_at : {X : Type 0} (xs : List X) (i : ℕ) (d e : X) → i < length xs → get_or xs i d ≡ get_or xs i e
same_at [] i d e below = absurd (omega (arith, below))
same_at (x ∷ xs) zero d e below = refl
same_at (x ∷ xs) (suc i) d e below = same_at xs i d e (omega (arith, below))

abbrev key : AttributeUse → Name
key u = u.name

all_behind : (n : Name) (us : List AttributeUse) (j : ℕ) (d : AttributeUse) → AllByRecursion (λ m. name_cmp n m ≡ Less) (map key us) → j < length us → name_cmp n (get_or us j d).name ≡ Less
all_behind n [] j d all below = absurd (omega (arith, below))
all_behind n (u ∷ us) zero d all below = all.0
all_behind n (u ∷ us) (suc j) d all below = all_behind n us j d all.1 (omega (arith, below))

pub before : (us : List AttributeUse) (i j : ℕ) (d : AttributeUse) → Ascend us → i < j → j < length us → name_cmp (get_or us i d).name (get_or us j d).name ≡ Less
unfolding IsStrictlySortedBy
before [] i j d sorted less below = absurd (omega (arith, below))
before (u ∷ us) i zero d sorted less below = absurd (omega (arith, less))
before (u ∷ us) zero (suc j) d sorted less below = all_behind u.name us j d sorted.0 (omega (arith, below))
before (u ∷ us) (suc i) (suc j) d sorted less below = before us i j d sorted.1 (omega (arith, less)) (omega (arith, below))

-- ---- names that the order tells apart

not_equal : (r s : Ordering) → r ≡ s → s ≡ Equal → r ≡ Less → ⊥
not_equal r s e q l = absurd (cc (e, q, l))

not_equal_either : (r s : Ordering) → r ≡ s → s ≡ Equal → r ≡ Greater → ⊥
not_equal_either r s e q l = absurd (cc (e, q, l))

pub less_apart : (a b : Name) → name_cmp a b ≡ Less → name_eq a b ≡ false
less_apart a b less = go (name_eq a b) refl
  where
    go : (r : Bool) → name_eq a b ≡ r → name_eq a b ≡ false
    go false e = e
    go true e = absurd (let same : a ≡ b = (name_eq-Decides a b).0 e in not_equal (name_cmp a b) (name_cmp b b) (ap (λ x. name_cmp x b) same) (tied_itself name_cmp_total b) less)

pub greater_apart : (a b : Name) → name_cmp a b ≡ Greater → name_eq a b ≡ false
greater_apart a b less = go (name_eq a b) refl
  where
    go : (r : Bool) → name_eq a b ≡ r → name_eq a b ≡ false
    go false e = e
    go true e = absurd (let same : a ≡ b = (name_eq-Decides a b).0 e in not_equal_either (name_cmp a b) (name_cmp b b) (ap (λ x. name_cmp x b) same) (tied_itself name_cmp_total b) less)

-- ---- uses of one namespace stand together

first_cmp : (r s : Ordering) → ordering_then r s ≡ Less → (r ≡ Less) ⊎ (r ≡ Equal)
first_cmp Less s e = inl refl
first_cmp Equal s e = inr refl
first_cmp Greater s e = absurd (cc e)

spaces : (a b : Name) → name_cmp a b ≡ Less → (slice_cmp nat_cmp a.space b.space ≡ Less) ⊎ (a.space ≡ b.space)
spaces a b e = elim (first_cmp (slice_cmp nat_cmp a.space b.space) (slice_cmp nat_cmp a.local b.local) e) [
  | inl less ↦ inl less
  | inr same ↦ inr (exact_bytes a.space b.space same)
]

between : (a b c : List ℕ) → (slice_cmp nat_cmp a b ≡ Less) ⊎ (a ≡ b) → (slice_cmp nat_cmp b c ≡ Less) ⊎ (b ≡ c) → a ≡ c → b ≡ c
between a b c first (inr same) ends = same
between a b c (inr same) (inl less) ends = sym same ∙ ends
between a b c (inl less) (inl further) ends =
    let through = nat_list_cmp_total.trans a b c less further in
    absurd (not_equal (slice_cmp nat_cmp a c) (slice_cmp nat_cmp c c) (ap (λ x. slice_cmp nat_cmp x c) ends) (tied_itself nat_list_cmp_total c) through)

sides : (i j : ℕ) → i ≤ j → (i ≡ j) ⊎ (i < j)
sides i j h = grind (arith, h)

module _ (us : List AttributeUse) (sorted : Ascend us) (space : List ℕ) where
  pub together : (i k j : ℕ) (d : AttributeUse) → i ≤ k → k ≤ j → j < length us → (get_or us i d).name.space ≡ space → (get_or us j d).name.space ≡ space → (get_or us k d).name.space ≡ space
  together i k j d low high below first last = elim (sides i k low) [
    | inl same ↦ subst (λ n. (get_or us n d).name.space ≡ space) same first
    | inr less ↦ elim (sides k j high) [
      | inl same ↦ subst (λ n. (get_or us n d).name.space ≡ space) (sym same) last
      | inr more ↦
          between (get_or us i d).name.space (get_or us k d).name.space (get_or us j d).name.space
          (spaces (get_or us i d).name (get_or us k d).name (before us i k d sorted less (omega (arith, more, below))))
          (spaces (get_or us k d).name (get_or us j d).name (before us k j d sorted more below)) (first ∙ sym last) ∙ last
    ]
  ]

  -- a run of one use
  pub alone : (place : ℕ) → place < length us → ((u : AttributeUse) → (get_or us place u).name.space ≡ space) → (last next : ℕ)
      → IsRunOf us space (record { start = place; end = place + 1; last = last; next = next })
  alone place there here last next = record {
    within = omega (arith, there);
    same = λ k d low high. let same : k ≡ place = omega (arith, low, high) in subst (λ n. (get_or us n d).name.space ≡ space) (sym same) (here d);
  }

  module _ (run : Run) (met : run.start < run.end) (place : ℕ) (here : (u : AttributeUse) → (get_or us place u).name.space ≡ space) (h : IsRunOf us space run) where
    split : (a b : ℕ) → (a < b) ⊎ (b ≤ a)
    split a b = grind arith

    pub reaches_down : place < run.start → IsRunOf us space (record { start = place; end = run.end; last = run.last; next = run.next })
    reaches_down less = record {
      within = h.within;
      same = λ k d low high. elim (split k run.start) [
        | inl below ↦ together place k run.start d low (omega (arith, below)) (let w = h.within in omega (arith, met, w)) (here d) (h.same run.start d (omega arith) met)
        | inr above ↦ h.same k d above high
      ];
    }

    pub reaches_up : run.end ≤ place → place < length us → IsRunOf us space (record { start = run.start; end = place + 1; last = run.last; next = run.next })
    reaches_up more there = record {
      within = omega (arith, there);
      same = λ k d low high. elim (split k run.end) [
        | inl below ↦ h.same k d low below
        | inr above ↦ together run.start k place d low (omega (arith, high)) there (h.same run.start d (omega arith) met) (here d)
      ];
    }

-- of one namespace, names are in the order of their local names
pub by_local : (a b : Name) → a.space ≡ b.space → name_cmp a b ≡ slice_cmp nat_cmp a.local b.local
by_local a b e =
    let tied : slice_cmp nat_cmp a.space b.space ≡ Equal = ap (λ x. slice_cmp nat_cmp x b.space) e ∙ tied_itself nat_list_cmp_total b.space in
    rw tied refl

pub one_space : (a b : Name) → slice_cmp nat_cmp a.space b.space ≡ Equal → a.space ≡ b.space
one_space a b e = exact_bytes a.space b.space e

-- ---- the halves

-- a use below the first number stands before the name, one from the second number on behind it
pub record Narrowed (us : List AttributeUse) (name : Name) (low high : ℕ) : Type 0 where
  pub within : high ≤ length us
  pub below : (k : ℕ) (d : AttributeUse) → k < low → k < length us → name_cmp (get_or us k d).name name ≡ Less
  pub above : (k : ℕ) (d : AttributeUse) → high ≤ k → k < length us → name_cmp (get_or us k d).name name ≡ Greater

-- so far has a search come
pub record Searched (us : List AttributeUse) (name : Name) (low high : ℕ) (known : Run) : Type 0 where
  pub narrowed : Narrowed us name low high
  pub run : IsRunOf us name.space known

module _ (us : List AttributeUse) (name : Name) where
  pub all_between : Narrowed us name 0 (length us)
  all_between = record {
    within = omega arith;
    below = λ k d h g. absurd (omega (arith, h));
    above = λ k d h g. absurd (omega (arith, h, g));
  }

  pub none_left : (low high : ℕ) → high ≤ low → Narrowed us name low high → (k : ℕ) (d : AttributeUse) → k < length us → name_eq (get_or us k d).name name ≡ false
  none_left low high met h k d below = elim (split k low) [
    | inl less ↦ less_apart (get_or us k d).name name (h.below k d less below)
    | inr more ↦ greater_apart (get_or us k d).name name (h.above k d (omega (arith, met, more)) below)
  ]
    where
      split : (a b : ℕ) → (a < b) ⊎ (b ≤ a)
      split a b = grind arith

  module _ (sorted : Ascend us) (low high middle : ℕ) (inside : middle < length us) (h : Narrowed us name low high) where
    pub upper_half : ((d : AttributeUse) → Less ≡ name_cmp (get_or us middle d).name name) → Narrowed us name (middle + 1) high
    upper_half here = record {
      within = h.within;
      below = λ k d less there. elim (sides k middle (omega (arith, less))) [
        | inl same ↦ subst (λ n. name_cmp (get_or us n d).name name ≡ Less) (sym same) (sym (here d))
        | inr further ↦ name_cmp_total.trans (get_or us k d).name (get_or us middle d).name name (before us k middle d sorted further inside) (sym (here d))
      ];
      above = h.above;
    }

    back : (a b c : Name) → name_cmp a b ≡ Less → name_cmp a c ≡ Greater → name_cmp b c ≡ Greater
    back a b c less greater =
        let other : name_cmp c a ≡ Less = name_cmp_total.antisymm c a ∙ ap ordering_reverse greater in
        let through : name_cmp c b ≡ Less = name_cmp_total.trans c a b other less in
        name_cmp_total.antisymm b c ∙ ap ordering_reverse through

    pub lower_half : ((d : AttributeUse) → Greater ≡ name_cmp (get_or us middle d).name name) → Narrowed us name low middle
    lower_half here = record {
      within = omega (arith, inside);
      below = h.below;
      above = λ k d less there. elim (sides middle k less) [
        | inl same ↦ subst (λ n. name_cmp (get_or us n d).name name ≡ Greater) same (sym (here d))
        | inr further ↦ back (get_or us middle d).name (get_or us k d).name name (before us middle k d sorted further there) (sym (here d))
      ];
    }

-- ---- the use of a name

module _ (s : SetParts) (name : Name) where
  pub undeclared : (us : List AttributeUse) → IsPlace us name None → declared (map (attribute_in s) us) name ≡ None
  undeclared [] h = refl
  undeclared (u ∷ us) h = let e : name_eq u.name name ≡ false = h 0 u (omega arith) in rw e (undeclared us (λ k d below. h (suc k) d (omega (arith, below))))

  pub declared_at : (us : List AttributeUse) (i : ℕ) (d : AttributeUse) → Ascend us → IsPlace us name (Some i) → declared (map (attribute_in s) us) name ≡ Some (attribute_in s (get_or us i d))
  unfolding IsStrictlySortedBy
  declared_at [] i d sorted h = absurd (omega (arith, h.0))
  declared_at (u ∷ us) zero d sorted h = let e : name_eq u.name name ≡ true = (name_eq-Decides u.name name).1 (h.1 u) in rw e refl
  declared_at (u ∷ us) (suc i) d sorted h =
      let less : name_cmp u.name (get_or us i d).name ≡ Less = all_behind u.name us i d sorted.0 (omega (arith, h.0)) in
      let e : name_eq u.name name ≡ false = subst (λ n. name_eq u.name n ≡ false) (h.1 d) (less_apart u.name (get_or us i d).name less) in
      rw e (declared_at us i d sorted.1 (omega (arith, h.0), λ d. h.1 d))
