-- The parts of a type leave a space or a reason, and where no type is made of itself, some list of spaces fits.
use Rattle.std.proofs.Common.{◌≡◌, ℕ, zero, suc, ◌<◌, ◌≤◌, arith, Bool, true, false, ◌⊎◌, inl, inr, List, [], ◌∷◌, ◌++◌, length, map, set, replicate, refl, sym, ap, ◌∙◌, subst, Option, Some, None, Result, Ok, Err}
use Rattle.std.specs.Prelude.{ℤ, slice_get, MatchResult, IsErr, if◌then◌else◌}
use Rattle.std.specs.Bool.{MatchBool}
use Rattle.std.specs.Ordering.{int_cmp, nat_cmp, is_eq}
use Rattle.std.specs.Cmp.Lexicographic.{slice_cmp}
use Rattle.std.specs.declared.cmp.Ordering.TheVariants.{Equal}
use Rattle.std.proofs.Math.ListN.{length-set}
use Rattle.std.proofs.lemmas.List.{length-map, length-replicate}
use Rattle.std.proofs.lemmas.Bool.{cases_Bool, cases_lt}
use Rattle.std.proofs.lemmas.Bool.Decides.{Decides-int_eq}
use Rattle.std.proofs.lemmas.Cmp.{int_cmp_total, nat_list_cmp_total}
use Rattle.std.proofs.lemmas.Map.Text.{is_eq-slice_cmp}
use Rattle.std.proofs.lemmas.Slice.Eq.{bytes_eq-Decides}
use Rattle.base_texts.specs.declared.white_space.WhiteSpace.{WhiteSpace}
use Rattle.simple_types.specs.Joining.{flattened}
use Rattle.simple_types.specs.Sound.{has_list}
use Rattle.simple_types.specs.Space.{Space, Spaces, Booleans, Wholes, Numbers, Words, Characters, count_members}
use Rattle.simple_types.specs.Space as space
use Rattle.simple_types.specs.declared.facets.Facet.{Facet}
use Rattle.simple_facets.specs.declared.refusals.FacetWhy.{FacetWhy}
use Rattle.simple_facets.specs.declared.refusals.FacetWhy.TheVariants as reason
use Rattle.simple_facets.specs.Making.{AreWithinLimits, count_all_items}
use Rattle.simple_facets.specs.Restricting.{Restricted, Enumerated, EnumeratedBy, ByItems, IsNumbersOf, IsWordsOf, with_facets, no_constraints, narrowed, is_empty, items_of, each_item, number_item, word_item}
use Rattle.schema_components.specs.Raw.{How, Restrict, ListOf, UnionOf, Document}
use Rattle.link_names.specs.declared.faults.LinkWhy.{LinkWhy}
use Rattle.link_names.specs.declared.faults.LinkWhy.TheVariants as why
use Rattle.link_names.specs.Order.{IsFirstSuch}
use Rattle.link_names.specs.Cycles as cycles
use Rattle.link_names.specs.Cycles.{numbers_in, parts_in, edges, IsCircular}
use Rattle.link_names.specs.Graphs.{IsEdge, Leads, IsOnCycle}
use Rattle.base_texts.specs.Lists.{HasItem}
use Rattle.link_names.specs.Private.Searching.{mark, unseen}
use Rattle.link_names.specs.SimpleTypes.{SimpleDefinition, simple_types}
use Rattle.link_names.proofs.Walks.{one_step_more, set_parts, set_less, unmarked}
use Rattle.link_simple.specs.Making.{entry_at, part_space, part_spaces, IsRestriction, IsList, IsUnion, IsLeft, IsEntry, IsMaking}
use Rattle.link_simple.proofs.Inserting.{some_ascending}
use Rattle.link_simple.proofs.Once.{once, same_entry}
use Rattle.link_simple.proofs.Uniqueness.{row_of, some_at, beyond, same_list, unseen_most, not_circular}

-- one answer for enumerations
equal_numbers : (x y : ℤ) → int_cmp x y ≡ Equal → x ≡ y
equal_numbers x y e = (Decides-int_eq x y).0 (ap is_eq e)

equal_words : (x y : List ℕ) → slice_cmp nat_cmp x y ≡ Equal → x ≡ y
equal_words x y e = (bytes_eq-Decides x y).0 (sym (is_eq-slice_cmp x y) ∙ ap is_eq e)

some_numbers : (items : List ℤ) → (s : Space) × IsNumbersOf items s
some_numbers items = let made = some_ascending int_cmp int_cmp_total equal_numbers items in (Numbers made.0, made.1)

some_words : (how : WhiteSpace) (items : List (List ℕ)) → (s : Space) × IsWordsOf how items s
some_words how items = let made = some_ascending (slice_cmp nat_cmp) nat_list_cmp_total equal_words items in (Words how made.0, (refl, made.1))

some_enumerated_by : {A : Type 0} (IsSpaceOf : List A → Space → Type 0) → ((items : List A) → (s : Space) × IsSpaceOf items s)
    → (items : Result (List A) FacetWhy) → (r : Result Space FacetWhy) × EnumeratedBy IsSpaceOf items r
some_enumerated_by IsSpaceOf some (Ok items) = let made = some items in (Ok made.0, made.1)
some_enumerated_by IsSpaceOf some (Err w) = (Err w, refl)

some_enumerated : (now : Space) (texts : List (List ℕ)) → (r : Result Space FacetWhy) × Enumerated now texts r
some_enumerated (Wholes a b) texts = some_enumerated_by IsNumbersOf some_numbers (each_item (number_item (Wholes a b)) texts)
some_enumerated (Numbers a) texts = some_enumerated_by IsNumbersOf some_numbers (each_item (number_item (Numbers a)) texts)
some_enumerated (Words how a) texts = some_enumerated_by (IsWordsOf how) (some_words how) (each_item (word_item how (Words how a)) texts)
some_enumerated (Characters how a b c) texts = some_enumerated_by (IsWordsOf how) (some_words how) (each_item (word_item how (Characters how a b c)) texts)
some_enumerated Booleans texts = (Err reason.Misplaced, refl)
some_enumerated (space.ListOf a b c) texts = (Err reason.Misplaced, refl)
some_enumerated (space.UnionOf a) texts = (Err reason.Misplaced, refl)

some_by_items : (now : Space) (texts : List (List ℕ)) → (r : Result Space FacetWhy) × ByItems now texts r
some_by_items now [] = (Ok now, refl)
some_by_items now (text ∷ texts) = some_enumerated now (text ∷ texts)

some_kept : (empty : Bool) (now : Space) (texts : List (List ℕ)) → (r : Result Space FacetWhy) × MatchBool empty (r ≡ Err reason.EmptySpace) (ByItems now texts r)
some_kept true now texts = (Err reason.EmptySpace, refl)
some_kept false now texts = some_by_items now texts

some_asked : {C : Type 0} (empty : C → Bool) (now : C → Space) (texts : List (List ℕ)) (asked : Result C FacetWhy)
    → (r : Result Space FacetWhy) × MatchResult asked (λ c. MatchBool (empty c) (r ≡ Err reason.EmptySpace) (ByItems (now c) texts r)) (λ w. r ≡ Err w)
some_asked empty now texts (Err w) = (Err w, refl)
some_asked empty now texts (Ok c) = some_kept (empty c) (now c) texts

-- facets leave a space or a reason
pub some_restricted : (base : Space) (facets : List Facet) → (r : Result Space FacetWhy) × Restricted base facets r
some_restricted base facets = some_asked (λ c. is_empty (narrowed base c)) (narrowed base) (items_of facets) (with_facets base no_constraints facets)

-- so do parts, if each is made
abbrev SomeLeft : (Result Space LinkWhy → Type 0) → Type 0
SomeLeft P = ((r : Result Space LinkWhy) × P r) ⊎ ((r : Result Space LinkWhy) → P r → ⊥)

pub restriction_left : (base : Space) (facets : List Facet) (r : Result Space FacetWhy) → Restricted base facets r → (q : Result Space LinkWhy) × IsRestriction (Some base) facets q
restriction_left base facets (Ok s) h = (Ok s, h)
restriction_left base facets (Err w) h = (Err (why.Facet w), (w, refl, h))

some_restriction : (base : Option Space) (facets : List Facet) → SomeLeft (IsRestriction base facets)
some_restriction None facets = inr (λ r h. h)
some_restriction (Some base) facets = let left = some_restricted base facets in inl (restriction_left base facets left.0 left.1)

pub list_left : (item : Space) → (q : Result Space LinkWhy) × IsList (Some item) q
list_left item = ((if has_list item then Err why.BadItem else Ok (space.ListOf item 0 None)), refl)

some_list : (item : Option Space) → SomeLeft (IsList item)
some_list None = inr (λ r h. h)
some_list (Some item) = inl (list_left item)

within_limits : (members : Spaces) → AreWithinLimits members ⊎ (¬ AreWithinLimits members)
within_limits members =
    elim (cases_lt 1000 (count_members members)) [
      | inl over ↦ inr (λ h. let few = h.0 in omega (arith, over, few))
      | inr few ↦ elim (cases_lt 10000 (count_all_items members)) [
        | inl over ↦ inr (λ h. let fewer = h.1 in omega (arith, over, fewer))
        | inr fewer ↦ inl (few, fewer)
      ]
    ]

pub union_left : (members : Spaces) → (q : Result Space LinkWhy) × IsUnion (Some members) q
union_left members = elim (within_limits (flattened members)) [
  | inl within ↦ (Ok (space.UnionOf (flattened members)), inl (within, refl))
  | inr over ↦ (Err why.Limit, inr (over, refl))
]

some_union : (members : Option Spaces) → SomeLeft (IsUnion members)
some_union None = inr (λ r h. h)
some_union (Some members) = inl (union_left members)

pub some_left : (ns : cycles.SimpleNumbers) (made : List (Option Space)) (file : ℕ) (how : How) → SomeLeft (IsLeft ns made file how)
some_left ns made file (Restrict base facets) = some_restriction (part_space ns made file base) facets
some_left ns made file (ListOf item) = some_list (part_space ns made file item)
some_left ns made file (UnionOf members) = some_union (part_spaces ns made file members)

-- the entry of a type
module _ (ns : cycles.SimpleNumbers) (made : List (Option Space)) (d : SimpleDefinition) where
  entry_from : (r : Result Space LinkWhy) → IsLeft ns made d.place.file d.how r → (o : Option Space) × IsEntry ns made d o
  entry_from (Ok s) h = (Some s, h)
  entry_from (Err w) h = (None, λ r k. subst IsErr (once ns made d.place.file d.how (Err w) r h k) refl)

  some_entry_from : SomeLeft (IsLeft ns made d.place.file d.how) → (o : Option Space) × IsEntry ns made d o
  some_entry_from (inl left) = entry_from left.0 left.1
  some_entry_from (inr missing) = (None, λ r k. absurd (missing r k))

  some_entry : (o : Option Space) × IsEntry ns made d o
  some_entry = some_entry_from (some_left ns made d.place.file d.how)

-- all types once more, each from the entries so far
mapped_entry : (f : SimpleDefinition → Option Space) (ds : List SimpleDefinition) (n : ℕ) (d : SimpleDefinition) → slice_get ds n ≡ Some d → entry_at (map f ds) n ≡ f d
mapped_entry f [] n d is = absurd cc
mapped_entry f (x ∷ ds) zero d is = ap f (let same : x ≡ d = cc in same)
mapped_entry f (x ∷ ds) (suc n) d is = mapped_entry f ds n d is

module _ (ds : List SimpleDefinition) where
  once_more : List (Option Space) → List (Option Space)
  once_more made = map (λ d. (some_entry (numbers_in ds) made d).0) ds

  times : ℕ → List (Option Space)
  times zero = once_more []
  times (suc k) = once_more (times k)

  more_entry : (made : List (Option Space)) (n : ℕ) (d : SimpleDefinition) → slice_get ds n ≡ Some d → IsEntry (numbers_in ds) made d (entry_at (once_more made) n)
  unfolding once_more
  more_entry made n d is =
      subst (IsEntry (numbers_in ds) made d) (sym (mapped_entry (λ e. (some_entry (numbers_in ds) made e).0) ds n d is)) (some_entry (numbers_in ds) made d).1

  more_length : (made : List (Option Space)) → length (once_more made) ≡ length ds
  unfolding once_more
  more_length made = length-map ds (λ d. (some_entry (numbers_in ds) made d).0)

  times_length : (k : ℕ) → length (times k) ≡ length ds
  unfolding times
  times_length zero = more_length []
  times_length (suc k) = more_length (times k)

module _ (ds : List SimpleDefinition) (acyclic : (n : ℕ) → IsOnCycle (edges ds) n → ⊥) where
  abbrev Reaches : ℕ → ℕ → Type 0
  Reaches m n = (rs : List ℕ) × Leads (edges ds) m rs n

  reaches_on : (marks : List Bool) (n : ℕ) → ((m : ℕ) → mark marks m ≡ true → Reaches m n) → (c : ℕ) → IsEdge (edges ds) n c
      → (m : ℕ) → mark (set marks n true) m ≡ true → Reaches m c
  reaches_on marks n reach c edge m e = elim (set_parts marks n m e) [
    | inl old ↦ let to = reach m old in (to.0 ++ n ∷ [], one_step_more (edges ds) m to.0 n c to.1 edge)
    | inr same ↦ ([], subst (λ x. IsEdge (edges ds) x c) same edge)
  ]

  -- the marked ones lead to this one; as often as there are others, and its entry stays
  stays : (fuel : ℕ) (marks : List Bool) → length marks ≡ length ds → unseen marks ≤ fuel → (n : ℕ) → ((m : ℕ) → mark marks m ≡ true → Reaches m n)
      → n < length ds → entry_at (times ds fuel) n ≡ entry_at (times ds (suc fuel)) n
  unfolding times
  stays zero marks long few n reach lt = elim (cases_Bool (mark marks n)) [
    | inl e ↦ absurd (acyclic n (reach n e))
    | inr free ↦ let fewer = set_less marks n (omega (arith, long, lt)) free in absurd (omega (arith, fewer, few))
  ]
  stays (suc k) marks long few n reach lt = elim (cases_Bool (mark marks n)) [
    | inl e ↦ absurd (acyclic n (reach n e))
    | inr free ↦
        let at = some_at ds n lt in
        let is_row = row_of (parts_in (numbers_in ds)) ds n at.0 at.1 in
        let fewer = set_less marks n (omega (arith, long, lt)) free in
        let same_part : (c : ℕ) → HasItem (parts_in (numbers_in ds) at.0) c → entry_at (times ds k) c ≡ entry_at (times ds (suc k)) c = λ c is_part.
        elim (cases_lt c (length ds)) [
          | inl within ↦
              stays k (set marks n true) (length-set marks n true ∙ long) (omega (arith, fewer, few)) c
              (reaches_on marks n reach c (subst (λ xs. HasItem xs c) (sym is_row) is_part)) within
          | inr past ↦
              let long_a = times_length ds k in
              let long_b = times_length ds (suc k) in
              beyond (times ds k) c (omega (arith, long_a, past)) ∙ sym (beyond (times ds (suc k)) c (omega (arith, long_b, past)))
        ] in
        same_entry (numbers_in ds) (times ds k) (times ds (suc k)) at.0 same_part (entry_at (times ds (suc k)) n) (entry_at (times ds (suc (suc k))) n)
        (more_entry ds (times ds k) n at.0 at.1) (more_entry ds (times ds (suc k)) n at.0 at.1)
  ]

  settled : times ds (length ds) ≡ times ds (suc (length ds))
  settled =
      let long = length-replicate (length ds) false in
      let long_a = times_length ds (length ds) in
      same_list (times ds (length ds)) (times ds (suc (length ds))) (times_length ds (length ds) ∙ sym (times_length ds (suc (length ds))))
      (λ n lt. stays (length ds) (replicate (length ds) false) long (let most = unseen_most (replicate (length ds) false) in omega (arith, most, long)) n
      (λ m e. absurd (unmarked (length ds) m e)) (omega (arith, long_a, lt)))

  pub some_making_of : (made : List (Option Space)) × IsMaking ds made
  unfolding times
  some_making_of = (
    times ds (length ds),
    (
      times_length ds (length ds),
      λ n d is. subst (λ made. IsEntry (numbers_in ds) (times ds (length ds)) d (entry_at made n)) (sym settled) (more_entry ds (times ds (length ds)) n d is),
    ),
  )

-- the same, of documents
pub some_making : (docs : List Document) → IsFirstSuch (IsCircular docs) None → (made : List (Option Space)) × IsMaking (simple_types docs) made
some_making docs none = some_making_of (simple_types docs) (not_circular docs none)
