-- Where the pass that makes simple types has no fault, each is made, and its space is sound and within the widths.
use Rattle.std.proofs.Common.{◌≡◌, ℕ, zero, suc, ◌<◌, ◌≤◌, inl, inr, Bool, true, false, List, [], ◌∷◌, ◌++◌, map, All, length, set, replicate, refl, sym, ap, ◌∙◌, subst, arith, Option, Some, None, Result, Ok, Err}
use Rattle.std.specs.Prelude.{IsSome, if◌then◌else◌}
use Rattle.std.specs.Result.{is_ok}
use Rattle.std.proofs.Math.ListN.{length-set}
use Rattle.std.proofs.lemmas.Bool.{cases_Bool, and_parts, true≢false}
use Rattle.std.proofs.lemmas.List.{length-map, length-replicate}
use Rattle.std.proofs.lemmas.List.Elements.{All-nil, All-cons}
use Rattle.base_texts.specs.Lists.{HasItem}
use Rattle.base_texts.proofs.Lists.{has_left, has_right}
use Rattle.simple_types.specs.declared.facets.Facet.{Facet}
use Rattle.simple_types.specs.declared.simples.Builtin.{Builtin}
use Rattle.simple_types.specs.declared.simples.Builtin.TheVariants.{Boolean, Byte, Short, Int, Long, UnsignedByte, UnsignedShort, UnsignedInt, UnsignedLong, Integer, NonNegativeInteger, PositiveInteger, NonPositiveInteger, NegativeInteger, String, NormalizedString, Token, AnyUri, Language, NmToken, Name, NcName, NmTokens}
use Rattle.simple_types.specs.Builtins.{builtin_space}
use Rattle.simple_types.specs.Joining.{joined, flattened}
use Rattle.simple_types.specs.Sound.{has_list}
use Rattle.simple_types.specs.Space as space
use Rattle.simple_types.specs.Space.{Space, Spaces, Booleans, Wholes, Numbers, Words, Characters, count_members}
use Rattle.simple_facets.specs.declared.refusals.FacetWhy.{FacetWhy}
use Rattle.simple_facets.specs.Making.{AreEachSound}
use Rattle.simple_facets.specs.Restricting.{Restricted}
use Rattle.simple_facets.proofs.Unions.{flattened_sound, flattened_some}
use Rattle.schema_components.specs.declared.simple_definitions.RawRef.TheVariants as reference
use Rattle.schema_components.specs.Raw.{Base, Named, Inner, Bases, none, more, How, Restrict, ListOf, UnionOf}
use Rattle.schema_components.specs.Varieties.{has_few_enumerations, base_varied, has_member, bases_varied, how_varied}
use Rattle.link_names.specs.declared.faults.LinkWhy.{LinkWhy}
use Rattle.link_names.specs.declared.faults.LinkWhy.TheVariants as why
use Rattle.link_names.specs.declared.faults.LinkingFault.{LinkingFault}
use Rattle.link_names.specs.Order.{place, fault}
use Rattle.link_names.specs.Cycles as cycles
use Rattle.link_names.specs.Cycles.{numbers_in, one_of, part_of, parts_of_bases, parts_of, parts_in, edges}
use Rattle.link_names.specs.Graphs.{IsEdge, Leads, IsOnCycle}
use Rattle.link_names.specs.Private.Searching.{mark, unseen}
use Rattle.link_names.specs.SimpleTypes.{SimpleDefinition}
use Rattle.link_names.proofs.Walks.{one_step_more, set_parts, set_less, unmarked}
use Rattle.link_simple.specs.Making.{entry_at, space_at, part_space, with_space, part_spaces, IsRestriction, IsList, IsUnion, IsLeft, IsEntry, IsMaking, IsNotMadeOf}
use Rattle.link_simple.specs.Private.Told.{IsPartTold, ArePartsTold, IsHowTold, AreTold}
use Rattle.link_simple.specs.Private.Varied.{AreVaried}
use Rattle.link_simple.proofs.Existence.{some_restricted, union_left}
use Rattle.link_simple.proofs.Once.{once}
use Rattle.link_simple.proofs.Told.{edges_inside}
use Rattle.link_simple.proofs.Uniqueness.{row_of, some_at, unseen_most}
use Rattle.link_simple.proofs.Varied.{varied_at, few_items}
use Rattle.map_laws.specs.Widths.{AreWide}
use Rattle.link_exists.proofs.Restricting.{IsGood, restricted_good}

-- there is a space, and it is sound and within the widths
abbrev pub IsMadeGood : Option Space → Type 0
IsMadeGood o = (s : Space) × (o ≡ Some s) × IsGood s

-- ---- built-in types

pub builtin_good : (which : Builtin) → IsGood (builtin_space which)
builtin_good Boolean = (tt, tt)
builtin_good Byte = (search (arith), (refl, refl))
builtin_good Short = (search (arith), (refl, refl))
builtin_good Int = (search (arith), (refl, refl))
builtin_good Long = (search (arith), (refl, refl))
builtin_good UnsignedByte = (search (arith), (refl, refl))
builtin_good UnsignedShort = (search (arith), (refl, refl))
builtin_good UnsignedInt = (search (arith), (refl, refl))
builtin_good UnsignedLong = (search (arith), (refl, refl))
builtin_good Integer = (tt, (tt, tt))
builtin_good NonNegativeInteger = (tt, (refl, tt))
builtin_good PositiveInteger = (tt, (refl, tt))
builtin_good NonPositiveInteger = (tt, (tt, refl))
builtin_good NegativeInteger = (tt, (tt, refl))
builtin_good String = (tt, (omega arith, tt))
builtin_good NormalizedString = (tt, (omega arith, tt))
builtin_good Token = (tt, (omega arith, tt))
builtin_good AnyUri = (tt, (omega arith, tt))
builtin_good Language = (tt, (omega arith, tt))
builtin_good NmToken = (tt, (omega arith, tt))
builtin_good Name = (tt, (omega arith, tt))
builtin_good NcName = (tt, (omega arith, tt))
builtin_good NmTokens = ((tt, refl, tt), ((omega arith, tt), omega arith, tt))

-- ---- unions

joined_wide : (a b : Spaces) → AreWide a → AreWide b → AreWide (joined a b)
joined_wide space.none b h k = k
joined_wide (space.more s ss) b h k = (h.0, joined_wide ss b h.1 k)

flattened_wide : (ss : Spaces) → AreWide ss → AreWide (flattened ss)
flattened_wide space.none h = tt
flattened_wide (space.more Booleans ss) h = (h.0, flattened_wide ss h.1)
flattened_wide (space.more (Wholes a b) ss) h = (h.0, flattened_wide ss h.1)
flattened_wide (space.more (Numbers a) ss) h = (h.0, flattened_wide ss h.1)
flattened_wide (space.more (Words a b) ss) h = (h.0, flattened_wide ss h.1)
flattened_wide (space.more (Characters a b c d) ss) h = (h.0, flattened_wide ss h.1)
flattened_wide (space.more (space.ListOf a b c) ss) h = (h.0, flattened_wide ss h.1)
flattened_wide (space.more (space.UnionOf members) ss) h = joined_wide members (flattened ss) h.0 (flattened_wide ss h.1)

ok_is : (s t : Space) → (let r : Result Space LinkWhy = Ok s in r) ≡ Ok t → s ≡ t
ok_is s t e = cc

err_is : {A : Type 0} (w : LinkWhy) (t : Space) → (let r : Result Space LinkWhy = Err w in r) ≡ Ok t → A
err_is w t e = absurd (true≢false (sym (ap is_ok e)))

-- ---- what parts leave, where each is made

-- what is left, and it is good where it is a space
abbrev LeavesGood : (Result Space LinkWhy → Type 0) → Type 0
LeavesGood P = (r : Result Space LinkWhy) × P r × ((s : Space) → r ≡ Ok s → IsGood s)

restriction_good : (base : Space) (facets : List Facet) → IsGood base → has_few_enumerations facets ≡ true → LeavesGood (IsRestriction (Some base) facets)
restriction_good base facets good few =
    let left = some_restricted base facets in by left.0 left.1
  where
    by : (r : Result Space FacetWhy) → Restricted base facets r → LeavesGood (IsRestriction (Some base) facets)
    by (Ok s) h = (Ok s, h, λ t e. subst IsGood (ok_is s t e) (restricted_good base s facets good (few_items facets few) h))
    by (Err w) h = (Err (why.Facet w), (w, refl, h), λ t e. err_is (why.Facet w) t e)

list_good : (item : Space) → IsGood item → LeavesGood (IsList (Some item))
list_good item good = by (has_list item) refl
  where
    by : (b : Bool) → has_list item ≡ b → LeavesGood (IsList (Some item))
    by true e = (Err why.BadItem, sym (ap (λ x. if x then Err why.BadItem else Ok (space.ListOf item 0 None)) e), λ t f. err_is why.BadItem t f)
    by false e = (
      Ok (space.ListOf item 0 None),
      sym (ap (λ x. if x then Err why.BadItem else Ok (space.ListOf item 0 None)) e),
      λ t f. subst IsGood (ok_is (space.ListOf item 0 None) t f) ((good.0, e, tt), (good.1, omega arith, tt)),
    )

union_good : (members : Spaces) → AreEachSound members → AreWide members → 0 < count_members members → LeavesGood (IsUnion (Some members))
union_good members sound wide some = let left = union_left members in by left.0 left.1
  where
    by : (r : Result Space LinkWhy) → IsUnion (Some members) r → LeavesGood (IsUnion (Some members))
    by r (inl (within, is)) = (
      r,
      inl (within, is),
      λ t e.
          let few = within.0 in
          subst IsGood (ok_is (space.UnionOf (flattened members)) t (sym is ∙ e))
          (((flattened_some members sound some, omega (arith, few)), flattened_sound members sound), flattened_wide members wide),
    )
    by r (inr (over, is)) = (r, inr (over, is), λ t e. err_is why.Limit t (sym is ∙ e))

-- ---- parts

module _ (ns : cycles.SimpleNumbers) (made : List (Option Space)) (file : ℕ) where
  abbrev Each : List ℕ → Type 0
  Each parts = (n : ℕ) → HasItem parts n → IsMadeGood (entry_at made n)

  number_good : (o : Option ℕ) → IsSome o → Each (one_of o) → IsMadeGood (space_at made o)
  number_good None told each = absurd (true≢false (sym told))
  number_good (Some n) told each = each n (inl refl)

  part_good : (p : Base) → IsPartTold ns file p → Each (part_of ns file p) → IsMadeGood (part_space ns made file p)
  part_good (Named (reference.Builtin which)) told each = (builtin_space which, refl, builtin_good which)
  part_good (Named (reference.Other name)) told each = number_good (ns.named name) told each
  part_good (Inner at body_at how) told each = number_good (ns.placed (place file at)) told each

  parts_good : (ps : Bases) → ArePartsTold ns file ps → Each (parts_of_bases ns file ps)
      → (ss : Spaces) × (part_spaces ns made file ps ≡ Some ss) × AreEachSound ss × AreWide ss × (has_member ps ≡ true → 0 < count_members ss)
  parts_good none told each = (space.none, refl, tt, tt, λ e. absurd (true≢false (sym e)))
  parts_good (more p ps) told each =
      let first = part_good p told.0 (λ n h. each n (has_left (part_of ns file p) (parts_of_bases ns file ps) n h)) in
      let rest = parts_good ps told.1 (λ n h. each n (has_right (part_of ns file p) (parts_of_bases ns file ps) n h)) in (
        space.more first.0 rest.0,
        ap (λ o. with_space o (part_spaces ns made file ps)) first.1 ∙ ap (with_space (Some first.0)) rest.1,
        (first.2.0, rest.2),
        (first.2.1, rest.3),
        λ e. omega arith,
      )

  left_good : (how : How) → how_varied how ≡ true → IsHowTold ns file how → Each (parts_of ns file how) → LeavesGood (IsLeft ns made file how)
  left_good (Restrict base facets) varied told each =
      let part = part_good base told each in
      subst (λ o. LeavesGood (IsRestriction o facets)) (sym part.1) (restriction_good part.0 facets part.2 (and_parts (has_few_enumerations facets) (base_varied base) varied).0)
  left_good (ListOf item) varied told each =
      let part = part_good item told each in
      subst (λ o. LeavesGood (IsList o)) (sym part.1) (list_good part.0 part.2)
  left_good (UnionOf members) varied told each =
      let parts = parts_good members told each in
      subst (λ o. LeavesGood (IsUnion o)) (sym parts.1) (union_good parts.0 parts.2 parts.3 (parts.4 (and_parts (has_member members) (bases_varied members) varied).0))

-- ---- all types

entry_good : (ns : cycles.SimpleNumbers) (made : List (Option Space)) (d : SimpleDefinition) (o : Option Space) → IsEntry ns made d o
    → ((w : LinkWhy) → IsLeft ns made d.place.file d.how (Err w) → ⊥) → ((r q : Result Space LinkWhy) → IsLeft ns made d.place.file d.how r → IsLeft ns made d.place.file d.how q → r ≡ q)
    → LeavesGood (IsLeft ns made d.place.file d.how) → IsMadeGood o
entry_good ns made d (Some s) h never once (r, left, good) = (s, refl, good s (once r (Ok s) left h))
entry_good ns made d None h never once (Ok s, left, good) = absurd (true≢false (sym (h (Ok s) left)))
entry_good ns made d None h never once (Err w, left, good) = absurd (never w left)

module _ (ds : List SimpleDefinition) (made : List (Option Space)) (making : IsMaking ds made) (told : AreTold ds) (varied : AreVaried ds)
    (never : (f : LinkingFault) → IsNotMadeOf ds f → ⊥) (acyclic : (n : ℕ) → IsOnCycle (edges ds) n → ⊥) where
  abbrev Reaches : ℕ → ℕ → Type 0
  Reaches m n = (rs : List ℕ) × Leads (edges ds) m rs n

  reaches_on : (marks : List Bool) (n : ℕ) → ((m : ℕ) → mark marks m ≡ true → Reaches m n) → (c : ℕ) → IsEdge (edges ds) n c
      → (m : ℕ) → mark (set marks n true) m ≡ true → Reaches m c
  reaches_on marks n reach c edge m e = elim (set_parts marks n m e) [
    | inl old ↦ let to = reach m old in (to.0 ++ n ∷ [], one_step_more (edges ds) m to.0 n c to.1 edge)
    | inr same ↦ ([], subst (λ x. IsEdge (edges ds) x c) same edge)
  ]

  -- the marked ones lead to this one, and so do fewer and fewer that aren't marked
  good_at : (fuel : ℕ) (marks : List Bool) → length marks ≡ length ds → unseen marks ≤ fuel → (n : ℕ) → ((m : ℕ) → mark marks m ≡ true → Reaches m n)
      → n < length ds → IsMadeGood (entry_at made n)
  good_at zero marks long few n reach lt = elim (cases_Bool (mark marks n)) [
    | inl e ↦ absurd (acyclic n (reach n e))
    | inr free ↦ let fewer = set_less marks n (omega (arith, long, lt)) free in absurd (omega (arith, fewer, few))
  ]
  good_at (suc k) marks long few n reach lt = elim (cases_Bool (mark marks n)) [
    | inl e ↦ absurd (acyclic n (reach n e))
    | inr free ↦
        let at = some_at ds n lt in
        let is_row = row_of (parts_in (numbers_in ds)) ds n at.0 at.1 in
        let fewer = set_less marks n (omega (arith, long, lt)) free in
        let each : (c : ℕ) → HasItem (parts_in (numbers_in ds) at.0) c → IsMadeGood (entry_at made c) = λ c is_part.
        let edge : IsEdge (edges ds) n c = subst (λ xs. HasItem xs c) (sym is_row) is_part in
        let inside = edges_inside ds n c edge in
        let count = length-map ds (parts_in (numbers_in ds)) in
        good_at k (set marks n true) (length-set marks n true ∙ long) (omega (arith, fewer, few)) c (reaches_on marks n reach c edge) (omega (arith, inside, count)) in
        entry_good (numbers_in ds) made at.0 (entry_at made n) (making.1 n at.0 at.1)
        (λ w left. never (fault w at.0.body) (made, making, n, at.0, at.1, refl, left))
        (once (numbers_in ds) made at.0.place.file at.0.how)
        (left_good (numbers_in ds) made at.0.place.file at.0.how (varied_at ds n at.0 varied at.1) (told n at.0 at.1) each)
  ]

  each_good : (n : ℕ) → n < length ds → IsMadeGood (entry_at made n)
  each_good n lt =
      good_at (length ds) (replicate (length ds) false) (length-replicate (length ds) false)
      (let most = unseen_most (replicate (length ds) false) in let long = length-replicate (length ds) false in omega (arith, most, long)) n
      (λ m e. absurd (unmarked (length ds) m e)) lt

spaces_of_entries : (made : List (Option Space)) → ((n : ℕ) → n < length made → IsMadeGood (entry_at made n)) → (spaces : List Space) × (made ≡ map Some spaces) × All IsGood spaces
spaces_of_entries [] each = ([], refl, All-nil IsGood)
spaces_of_entries (o ∷ made) each =
    let first = each zero (omega arith) in
    let rest = spaces_of_entries made (λ n lt. each (suc n) (omega (arith, lt))) in
    (first.0 ∷ rest.0, ap (λ x. x ∷ made) first.1 ∙ ap (λ xs. Some first.0 ∷ xs) rest.1, All-cons IsGood first.0 rest.0 first.2 rest.2)

-- the spaces of all types
pub all_made : (ds : List SimpleDefinition) (made : List (Option Space)) → IsMaking ds made → AreTold ds → AreVaried ds → ((f : LinkingFault) → IsNotMadeOf ds f → ⊥)
    → ((n : ℕ) → IsOnCycle (edges ds) n → ⊥) → (spaces : List Space) × (made ≡ map Some spaces) × All IsGood spaces
all_made ds made making told varied never acyclic =
    spaces_of_entries made (λ n lt. let long = making.0 in each_good ds made making told varied never acyclic n (omega (arith, lt, long)))
