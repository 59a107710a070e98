-- What is collected from a linked set, and what it is in the order of the module.
use Rattle.std.proofs.Common.{◌≡◌, ℕ, zero, suc, ◌+◌, ◌<◌, ◌≤◌, ◌^◌, Bool, true, false, ◌&&◌, cond, List, [], ◌∷◌, ◌++◌, length, map, take, get_or, Option, Some, None, All, Contains, inl, inr, true≢false, refl, sym, ap, subst, ◌∙◌, append_assoc, length-append, add-one, arith}
use Rattle.std.specs.Prelude.{slice_get, option_map, option_and_then, filter_map, bytes_eq}
use Rattle.std.specs.List.{IsDistinct, cons_option}
use Rattle.std.specs.List.Sorted.{IsPermutation, IsSorted, IsStrictlySortedBy}
use Rattle.std.specs.Cmp.{IsTotalOrder}
use Rattle.std.specs.Cmp.Lexicographic.{slice_cmp}
use Rattle.std.specs.Ordering.{MatchOrdering, nat_cmp, is_lt, is_eq, eq_by_cmp, ordering_then, ordering_reverse}
use Rattle.std.specs.declared.cmp.Ordering.{Ordering}
use Rattle.std.specs.declared.cmp.Ordering.TheVariants.{Less, Equal, Greater}
use Rattle.std.proofs.lemmas.Bool.{cases_lt}
use Rattle.std.proofs.lemmas.Cmp.{ranked, eq_by_cmp_equiv, nat_cmp_total, nat_list_cmp_total, on_total, then_total}
use Rattle.std.proofs.lemmas.Option.{none-some, slice_get-map, slice_get_within, get_or_from_slice_get}
use Rattle.std.proofs.lemmas.List.{get_or_append_left, get_or-append-add, get_or_default}
use Rattle.std.proofs.lemmas.List.Elements.{All-from_recursion, recursion_from_All, All-nil, All-cons, All-head, All-tail, All-append, All-weaker, All-contains, Contains-get_or, Contains-append_left, Contains-append_right}
use Rattle.std.proofs.lemmas.List.Sorted.{All-permutation, Contains-permutation, length_permutation}
use Rattle.std.proofs.lemmas.Map.Keys.{IsDistinct-head, IsDistinct-tail, IsDistinct-cons, apart_from_distinct, IsDistinct-from_apart, IsDistinct-IsPermutation, sorted_from_all_adjacent}
use Rattle.std.proofs.lemmas.Map.Text.{is_eq-slice_cmp}
use Rattle.base_texts.specs.declared.texts.Name.{Name}
use Rattle.base_texts.specs.Names.{name_eq}
use Rattle.schema_components.specs.declared.components.ElementDecl.{ElementDecl}
use Rattle.schema_components.specs.declared.components.SimpleDef.{SimpleDef}
use Rattle.schema_components.specs.declared.components.ComplexDef.{ComplexDef}
use Rattle.schema_components.specs.declared.components.GlobalAttribute.{GlobalAttribute}
use Rattle.schema_components.specs.Components.{Set}
use Rattle.schema_components.specs.Linked.{IsLinked}
use Rattle.map_subjects.specs.declared.subjects.Subject.{Subject}
use Rattle.map_subjects.specs.declared.subjects.Subject.TheVariants.{Element, Attribute, Simple, Complex, Nillable}
use Rattle.map_subjects.specs.declared.subjects.NamedSubject.{NamedSubject}
use Rattle.map_subjects.specs.Subjects.{has_nillable, complex_name, name_of, rank, entry_cmp, AreEntries}
use Rattle.map_subjects.specs.Subjects.{IsSubject}
use Rattle.map_subjects.specs.Private.Collecting.{entry_with, entries_with, entries_of, firsts, element_entries, attribute_entries, simple_entries, complex_entries, nillable_entries, declaration_entries, type_entries, collected}

-- ---- the order of entries

pub entry_total : IsTotalOrder entry_cmp
entry_total =
    then_total (on_total (λ (e : NamedSubject). e.name.space) nat_list_cmp_total)
    (then_total (on_total (λ (e : NamedSubject). rank e.subject) nat_cmp_total) (on_total (λ (e : NamedSubject). e.name.local) nat_list_cmp_total))

-- two entries that the order doesn't tell apart
abbrev pub tied : NamedSubject → NamedSubject → Bool
tied = eq_by_cmp entry_cmp

tied-then : (p q : Ordering) → is_eq (ordering_then p q) ≡ (is_eq p && is_eq q)
tied-then Less q = refl
tied-then Equal q = refl
tied-then Greater q = refl

tied-parts : (x y : NamedSubject) → tied x y
    ≡ (is_eq (slice_cmp nat_cmp x.name.space y.name.space) && (is_eq (nat_cmp (rank x.subject) (rank y.subject)) && is_eq (slice_cmp nat_cmp x.name.local y.name.local)))
tied-parts x y =
    let within = ordering_then (nat_cmp (rank x.subject) (rank y.subject)) (slice_cmp nat_cmp x.name.local y.name.local) in
    tied-then (slice_cmp nat_cmp x.name.space y.name.space) within
    ∙ ap (λ b. is_eq (slice_cmp nat_cmp x.name.space y.name.space) && b) (tied-then (nat_cmp (rank x.subject) (rank y.subject)) (slice_cmp nat_cmp x.name.local y.name.local))

outer-false : (a r b : Bool) → (a && b) ≡ false → (a && (r && b)) ≡ false
outer-false false r b e = refl
outer-false true false b e = refl
outer-false true true b e = e

inner-false : (a r b : Bool) → r ≡ false → (a && (r && b)) ≡ false
inner-false false r b e = refl
inner-false true r b e = ap (λ c. c && b) e

-- other names are told apart, and so are other ranks
apart-names : (x y : NamedSubject) → name_eq x.name y.name ≡ false → tied x y ≡ false
apart-names x y e =
    let space = is_eq-slice_cmp x.name.space y.name.space in
    let local = is_eq-slice_cmp x.name.local y.name.local in
    tied-parts x y
    ∙ outer-false (is_eq (slice_cmp nat_cmp x.name.space y.name.space)) (is_eq (nat_cmp (rank x.subject) (rank y.subject))) (is_eq (slice_cmp nat_cmp x.name.local y.name.local))
    (ap (λ b. b && is_eq (slice_cmp nat_cmp x.name.local y.name.local)) space ∙ ap (λ b. bytes_eq x.name.space y.name.space && b) local ∙ e)

other-rank : (m n : ℕ) (o : Ordering) → MatchOrdering o (m < n) (m ≡ n) (n < m) → m < n → is_eq o ≡ false
other-rank m n Less h l = refl
other-rank m n Equal h l = absurd (omega (arith, h, l))
other-rank m n Greater h l = refl

apart-ranks : (x y : NamedSubject) → rank x.subject < rank y.subject → tied x y ≡ false
apart-ranks x y l =
    tied-parts x y
    ∙ inner-false (is_eq (slice_cmp nat_cmp x.name.space y.name.space)) (is_eq (nat_cmp (rank x.subject) (rank y.subject))) (is_eq (slice_cmp nat_cmp x.name.local y.name.local))
    (other-rank (rank x.subject) (rank y.subject) (nat_cmp (rank x.subject) (rank y.subject)) (ranked (rank x.subject) (rank y.subject) (nat_cmp (rank x.subject) (rank y.subject)) refl) l)

less : (back o : Ordering) → o ≡ ordering_reverse back → is_lt back ≡ false → is_eq o ≡ false → o ≡ Less
less Less o e h k = absurd (true≢false h)
less Equal o e h k = absurd (true≢false (sym (ap is_eq e) ∙ k))
less Greater o e h k = e

pub turned : (x y : NamedSubject) → entry_cmp x y ≡ ordering_reverse (entry_cmp y x)
turned x y = let o = entry_total in o.antisymm x y

pub tied-back : (x y : NamedSubject) → tied x y ≡ tied y x
tied-back x y = let same = eq_by_cmp_equiv entry_total in same.symm x y

-- a sorted list in which the order tells all apart
strict : (es : List NamedSubject) → IsSorted entry_cmp es → IsDistinct tied es → IsStrictlySortedBy entry_cmp es
unfolding IsStrictlySortedBy
strict [] up d = tt
strict (e ∷ es) up d =
    sorted_from_all_adjacent entry_total (e ∷ es) e
    (λ k l. less (entry_cmp (get_or (e ∷ es) (k + 1) e) (get_or (e ∷ es) k e)) (entry_cmp (get_or (e ∷ es) k e) (get_or (e ∷ es) (k + 1) e))
    (turned (get_or (e ∷ es) k e) (get_or (e ∷ es) (k + 1) e)) (up k e (omega arith) l)
    (apart_from_distinct tied (e ∷ es) k (k + 1) e d (omega arith) l))

-- ---- lists in which no two are tied

module _ {X : Type 0} (e : X → X → Bool) where
  distinct-short : (xs : List X) → length xs ≤ 1 → IsDistinct e xs
  distinct-short xs short = IsDistinct-from_apart e xs (λ i j d l m. absurd (omega (arith, l, m, short)))

  distinct-append : (xs ys : List X) → IsDistinct e xs → IsDistinct e ys → All (λ x. All (λ y. e x y ≡ false) ys) xs → IsDistinct e (xs ++ ys)
  distinct-append [] ys p q h = q
  distinct-append (x ∷ xs) ys p q h =
      IsDistinct-cons e x (xs ++ ys)
      (recursion_from_All (λ y. e x y ≡ false) (xs ++ ys)
      (All-append (λ y. e x y ≡ false) xs ys (All-from_recursion (λ y. e x y ≡ false) xs (IsDistinct-head e x xs p)) (All-head (λ z. All (λ y. e z y ≡ false) ys) x xs h)))
      (distinct-append xs ys (IsDistinct-tail e x xs p) q (All-tail (λ z. All (λ y. e z y ≡ false) ys) x xs h))

  distinct-front : (xs ys : List X) → IsDistinct e (xs ++ ys) → IsDistinct e xs
  distinct-front xs ys p = IsDistinct-from_apart e xs (λ i j d l m.
      subst (λ x. e x (get_or xs j d) ≡ false) (get_or_append_left xs ys d i (omega (arith, l, m)))
      (subst (λ y. e (get_or (xs ++ ys) i d) y ≡ false) (get_or_append_left xs ys d j m)
      (apart_from_distinct e (xs ++ ys) i j d p l (omega (arith, m, length-append xs ys)))))

  distinct-back : (xs ys : List X) → IsDistinct e (xs ++ ys) → IsDistinct e ys
  distinct-back [] ys p = p
  distinct-back (x ∷ xs) ys p = distinct-back xs ys (IsDistinct-tail e x (xs ++ ys) p)

  -- one of the front and one of the back
  apart-across : (xs ys : List X) (a b : X) → IsDistinct e (xs ++ ys) → Contains xs a → Contains ys b → e a b ≡ false
  apart-across xs ys a b p h k =
      subst (λ x. e x b ≡ false) (get_or_append_left xs ys a h.0 h.1 ∙ h.2)
      (subst (λ y. e (get_or (xs ++ ys) h.0 a) y ≡ false) (get_or-append-add xs ys k.0 a ∙ get_or_default ys k.0 a b k.1 ∙ k.2)
      (apart_from_distinct e (xs ++ ys) h.0 (length xs + k.0) a p (omega (arith, h.1)) (omega (arith, k.1, length-append xs ys))))

  apart-at : (ks : List X) (i j : ℕ) (a b : X) → IsDistinct e ks → i < j → slice_get ks i ≡ Some a → slice_get ks j ≡ Some b → e a b ≡ false
  apart-at ks i j a b d l p q =
      subst (λ x. e x b ≡ false) (get_or_from_slice_get ks i a a p)
      (subst (λ y. e (get_or ks i a) y ≡ false) (get_or_from_slice_get ks j b a q) (apart_from_distinct e ks i j a d l (slice_get_within ks j b q)))

-- ---- names of components by their numbers

contains-later : (o : Option Name) (names : List Name) (a : Name) → Contains names a → Contains (cons_option o names) a
contains-later None names a h = h
contains-later (Some b) names a h = Contains-append_right (b ∷ []) names a h

distinct-later : (o : Option Name) (names : List Name) → IsDistinct name_eq (cons_option o names) → IsDistinct name_eq names
distinct-later None names d = d
distinct-later (Some b) names d = IsDistinct-tail name_eq b names d

module _ {X : Type 0} where
  map-within : (f : X → Name) (xs : List X) (n : ℕ) (a : Name) → option_map f (slice_get xs n) ≡ Some a → n < length xs
  map-within f [] n a e = absurd (none-some a e)
  map-within f (x ∷ xs) zero a e = omega arith
  map-within f (x ∷ xs) (suc n) a e = let l = map-within f xs n a e in omega (arith, l)

  front-within : (f : X → Name) (m : ℕ) (xs : List X) (n : ℕ) (a : Name) → option_map f (slice_get (take m xs) n) ≡ Some a → n < m
  front-within f zero xs n a e = absurd (none-some a e)
  front-within f (suc m) [] n a e = absurd (none-some a e)
  front-within f (suc m) (x ∷ xs) zero a e = omega arith
  front-within f (suc m) (x ∷ xs) (suc n) a e = let l = front-within f m xs n a e in omega (arith, l)

  named-within : (f : X → Option Name) (xs : List X) (n : ℕ) (a : Name) → option_and_then f (slice_get xs n) ≡ Some a → n < length xs
  named-within f [] n a e = absurd (none-some a e)
  named-within f (x ∷ xs) zero a e = omega arith
  named-within f (x ∷ xs) (suc n) a e = let l = named-within f xs n a e in omega (arith, l)

  taken-at : (m : ℕ) (xs : List X) (n : ℕ) (x : X) → n < m → slice_get xs n ≡ Some x → slice_get (take m xs) n ≡ Some x
  taken-at zero xs n x l e = absurd (omega (arith, l))
  taken-at (suc m) [] n x l e = e
  taken-at (suc m) (y ∷ xs) zero x l e = e
  taken-at (suc m) (y ∷ xs) (suc n) x l e = taken-at m xs n x (omega (arith, l)) e

  apart-mapped : (f : X → Name) (xs : List X) (i j : ℕ) (a b : Name) → IsDistinct name_eq (map f xs) → i < j
      → option_map f (slice_get xs i) ≡ Some a → option_map f (slice_get xs j) ≡ Some b → name_eq a b ≡ false
  apart-mapped f xs i j a b d l p q = apart-at name_eq (map f xs) i j a b d l (slice_get-map f xs i ∙ p) (slice_get-map f xs j ∙ q)

  contains-named : (f : X → Option Name) (xs : List X) (n : ℕ) (a : Name) → option_and_then f (slice_get xs n) ≡ Some a → Contains (filter_map f xs) a
  contains-named f [] n a e = absurd (none-some a e)
  contains-named f (x ∷ xs) zero a e =
      subst (λ o. Contains (cons_option o (filter_map f xs)) a) (sym e) (Contains-get_or (a ∷ filter_map f xs) zero a (omega arith))
  contains-named f (x ∷ xs) (suc n) a e = contains-later (f x) (filter_map f xs) a (contains-named f xs n a e)

  apart-named : (f : X → Option Name) (xs : List X) (i j : ℕ) (a b : Name) → IsDistinct name_eq (filter_map f xs) → i < j
      → option_and_then f (slice_get xs i) ≡ Some a → option_and_then f (slice_get xs j) ≡ Some b → name_eq a b ≡ false
  apart-named f [] i j a b d l p q = absurd (none-some a p)
  apart-named f (x ∷ xs) i zero a b d l p q = absurd (omega (arith, l))
  apart-named f (x ∷ xs) zero (suc j) a b d l p q =
      let first = subst (λ o. IsDistinct name_eq (cons_option o (filter_map f xs))) p d in
      All-contains (λ y. name_eq a y ≡ false) (filter_map f xs) b
      (All-from_recursion (λ y. name_eq a y ≡ false) (filter_map f xs) (IsDistinct-head name_eq a (filter_map f xs) first))
      (contains-named f xs j b q)
  apart-named f (x ∷ xs) (suc i) (suc j) a b d l p q =
      apart-named f xs i j a b (distinct-later (f x) (filter_map f xs) d) (omega (arith, l)) p q

-- the type has a name, where its nillable elements have an entry
nillable-named : (b : Bool) (o : Option Name) (a : Name) → cond b o None ≡ Some a → o ≡ Some a
nillable-named true o a e = e
nillable-named false o a e = absurd (none-some a e)

-- ---- the entries of a kind

all-one : (w : Subject) (P : NamedSubject → Type 0) (o : Option Name) → ((a : Name) → o ≡ Some a → P (entry_with w a)) → All P (entries_with w o)
all-one w P None h = All-nil P
all-one w P (Some a) h = All-cons P (entry_with w a) [] (h a refl) (All-nil P)

pub one-short : (w : Subject) (o : Option Name) → length (entries_with w o) ≤ 1
one-short w None = omega arith
one-short w (Some a) = omega arith

module _ (s : Set) (of_kind : ℕ → Subject) where
  all-firsts : (P : NamedSubject → Type 0) (n : ℕ) → ((i : ℕ) (a : Name) → i < n → name_of s (of_kind i) ≡ Some a → P (entry_with (of_kind i) a)) → All P (firsts s of_kind n)
  all-firsts P zero h = All-nil P
  all-firsts P (suc n) h =
      All-append P (firsts s of_kind n) (entries_of s (of_kind n))
      (all-firsts P n (λ i a l e. h i a (omega (arith, l)) e))
      (all-one (of_kind n) P (name_of s (of_kind n)) (λ a e. h n a (omega arith) e))

  has-firsts : (n m : ℕ) (a : Name) → m < n → name_of s (of_kind m) ≡ Some a → Contains (firsts s of_kind n) (entry_with (of_kind m) a)
  has-firsts zero m a l e = absurd (omega (arith, l))
  has-firsts (suc n) m a l e = elim (cases_lt m n) [
    | inl below ↦ Contains-append_left (firsts s of_kind n) (entries_of s (of_kind n)) (entry_with (of_kind m) a) (has-firsts n m a below e)
    | inr past ↦
        let same : m ≡ n = omega (arith, l, past) in
        Contains-append_right (firsts s of_kind n) (entries_of s (of_kind n)) (entry_with (of_kind m) a)
        (subst (λ k. Contains (entries_of s (of_kind k)) (entry_with (of_kind m) a)) same
        (subst (λ o. Contains (entries_with (of_kind m) o) (entry_with (of_kind m) a)) (sym e)
        (Contains-get_or (entry_with (of_kind m) a ∷ []) zero (entry_with (of_kind m) a) (omega arith))))
  ]

  pub few-firsts : (n : ℕ) → length (firsts s of_kind n) ≤ n
  few-firsts zero = omega arith
  few-firsts (suc n) =
      omega (arith, length-append (firsts s of_kind n) (entries_of s (of_kind n)), few-firsts n, one-short (of_kind n) (name_of s (of_kind n)))

  distinct-firsts : (n : ℕ) → ((i j : ℕ) (a b : Name) → i < j → name_of s (of_kind i) ≡ Some a → name_of s (of_kind j) ≡ Some b → name_eq a b ≡ false)
      → IsDistinct tied (firsts s of_kind n)
  distinct-firsts zero h = distinct-short tied [] (omega arith)
  distinct-firsts (suc n) h =
      distinct-append tied (firsts s of_kind n) (entries_of s (of_kind n)) (distinct-firsts n h)
      (distinct-short tied (entries_of s (of_kind n)) (one-short (of_kind n) (name_of s (of_kind n))))
      (all-firsts (λ x. All (λ y. tied x y ≡ false) (entries_of s (of_kind n))) n
      (λ i a l e. all-one (of_kind n) (λ y. tied (entry_with (of_kind i) a) y ≡ false) (name_of s (of_kind n))
      (λ b f. apart-names (entry_with (of_kind i) a) (entry_with (of_kind n) b) (h i n a b l e f))))

  -- one more
  pub firsts-next : (n : ℕ) (first made after more : List NamedSubject) → made ≡ first ++ firsts s of_kind n → after ≡ made ++ more → more ≡ entries_of s (of_kind n)
      → after ≡ first ++ firsts s of_kind (n + 1)
  firsts-next n first made after more so_far added is =
      added ∙ ap (λ m. made ++ m) is ∙ ap (λ m. m ++ entries_of s (of_kind n)) so_far
      ∙ append_assoc first (firsts s of_kind n) (entries_of s (of_kind n)) ∙ ap (λ k. first ++ firsts s of_kind k) (sym (add-one n))

-- entries of lesser ranks and of greater ones
ranked-apart : (r : ℕ) (xs ys : List NamedSubject) → All (λ x. rank x.subject ≤ r) xs → All (λ y. r < rank y.subject) ys → All (λ x. All (λ y. tied x y ≡ false) ys) xs
ranked-apart r xs ys low high =
    All-weaker (λ x. rank x.subject ≤ r) (λ x. All (λ y. tied x y ≡ false) ys)
    (λ x l. All-weaker (λ y. r < rank y.subject) (λ y. tied x y ≡ false) (λ y g. apart-ranks x y (omega (arith, l, g))) ys high) xs low

-- ---- all entries

-- the names of a component of the set
pub named-element : (s : Set) (n : ℕ) (e : ElementDecl) → n < s.globals → slice_get s.elements n ≡ Some e → name_of s (Element n) ≡ Some e.name
named-element s n e l got = ap (option_map (λ (d : ElementDecl). d.name)) (taken-at s.globals s.elements n e l got)

pub element-entry : (s : Set) (n : ℕ) (e : ElementDecl) → n < s.globals → slice_get s.elements n ≡ Some e → entries_with (Element n) (Some e.name) ≡ entries_of s (Element n)
element-entry s n e l got = ap (entries_with (Element n)) (sym (named-element s n e l got))

pub attribute-entry : (s : Set) (n : ℕ) (a : GlobalAttribute) → slice_get s.attributes n ≡ Some a → entries_with (Attribute n) (Some a.name) ≡ entries_of s (Attribute n)
attribute-entry s n a got = ap (λ o. entries_with (Attribute n) (option_map (λ (d : GlobalAttribute). d.name) o)) (sym got)

pub simple-entry : (s : Set) (n : ℕ) (t : SimpleDef) → slice_get s.simples n ≡ Some t → entries_with (Simple n) t.name ≡ entries_of s (Simple n)
simple-entry s n t got = ap (λ o. entries_with (Simple n) (option_and_then (λ (d : SimpleDef). d.name) o)) (sym got)

pub complex-entry : (s : Set) (n : ℕ) (c : ComplexDef) → slice_get s.complexes n ≡ Some c → entries_with (Complex n) c.name ≡ entries_of s (Complex n)
complex-entry s n c got = ap (λ o. entries_with (Complex n) (option_and_then (λ (d : ComplexDef). d.name) o)) (sym got)

pub nillable-entry : (s : Set) (n : ℕ) (c : ComplexDef) → slice_get s.complexes n ≡ Some c → has_nillable s n ≡ true → entries_with (Nillable n) c.name ≡ entries_of s (Nillable n)
nillable-entry s n c got has =
    ap (λ o. entries_with (Nillable n) (option_and_then (λ (d : ComplexDef). d.name) o)) (sym got)
    ∙ ap (λ b. entries_with (Nillable n) (cond b (complex_name s n) None)) (sym has)

pub nillable-none : (s : Set) (n : ℕ) → has_nillable s n ≡ false → [] ≡ entries_of s (Nillable n)
nillable-none s n has = ap (λ b. entries_with (Nillable n) (cond b (complex_name s n) None)) (sym has)

pub all-collected : (s : Set) (P : NamedSubject → Type 0) → ((w : Subject) (a : Name) → name_of s w ≡ Some a → P (entry_with w a)) → All P (collected s)
all-collected s P h =
    All-append P (declaration_entries s) (type_entries s)
    (All-append P (element_entries s) (attribute_entries s)
    (all-firsts s Element P s.globals (λ i a l e. h (Element i) a e)) (all-firsts s Attribute P (length s.attributes) (λ i a l e. h (Attribute i) a e)))
    (All-append P (simple_entries s ++ complex_entries s) (nillable_entries s)
    (All-append P (simple_entries s) (complex_entries s)
    (all-firsts s Simple P (length s.simples) (λ i a l e. h (Simple i) a e)) (all-firsts s Complex P (length s.complexes) (λ i a l e. h (Complex i) a e)))
    (all-firsts s Nillable P (length s.complexes) (λ i a l e. h (Nillable i) a e)))

-- what has a name is a component of the set
pub named-subject : (s : Set) (w : Subject) (a : Name) → name_of s w ≡ Some a → IsSubject s w
named-subject s (Element n) a e = front-within (λ (d : ElementDecl). d.name) s.globals s.elements n a e
named-subject s (Attribute n) a e = map-within (λ (d : GlobalAttribute). d.name) s.attributes n a e
named-subject s (Simple n) a e = named-within (λ (d : SimpleDef). d.name) s.simples n a e
named-subject s (Complex n) a e = named-within (λ (d : ComplexDef). d.name) s.complexes n a e
named-subject s (Nillable n) a e = named-within (λ (d : ComplexDef). d.name) s.complexes n a (nillable-named (has_nillable s n) (complex_name s n) a e)

pub has-collected : (s : Set) (w : Subject) (a : Name) → name_of s w ≡ Some a → Contains (collected s) (entry_with w a)
has-collected s (Element n) a e =
    Contains-append_left (declaration_entries s) (type_entries s) (entry_with (Element n) a)
    (Contains-append_left (element_entries s) (attribute_entries s) (entry_with (Element n) a) (has-firsts s Element s.globals n a (named-subject s (Element n) a e) e))
has-collected s (Attribute n) a e =
    Contains-append_left (declaration_entries s) (type_entries s) (entry_with (Attribute n) a)
    (Contains-append_right (element_entries s) (attribute_entries s) (entry_with (Attribute n) a) (has-firsts s Attribute (length s.attributes) n a (named-subject s (Attribute n) a e) e))
has-collected s (Simple n) a e =
    Contains-append_right (declaration_entries s) (type_entries s) (entry_with (Simple n) a)
    (Contains-append_left (simple_entries s ++ complex_entries s) (nillable_entries s) (entry_with (Simple n) a)
    (Contains-append_left (simple_entries s) (complex_entries s) (entry_with (Simple n) a) (has-firsts s Simple (length s.simples) n a (named-subject s (Simple n) a e) e)))
has-collected s (Complex n) a e =
    Contains-append_right (declaration_entries s) (type_entries s) (entry_with (Complex n) a)
    (Contains-append_left (simple_entries s ++ complex_entries s) (nillable_entries s) (entry_with (Complex n) a)
    (Contains-append_right (simple_entries s) (complex_entries s) (entry_with (Complex n) a) (has-firsts s Complex (length s.complexes) n a (named-subject s (Complex n) a e) e)))
has-collected s (Nillable n) a e =
    Contains-append_right (declaration_entries s) (type_entries s) (entry_with (Nillable n) a)
    (Contains-append_right (simple_entries s ++ complex_entries s) (nillable_entries s) (entry_with (Nillable n) a)
    (has-firsts s Nillable (length s.complexes) n a (named-subject s (Nillable n) a e) e))

few-collected : (s : Set) → IsLinked s → length (collected s) ≤ 327680
few-collected s h =
    omega (
      arith,
      length-append (declaration_entries s) (type_entries s),
      length-append (element_entries s) (attribute_entries s),
      length-append (simple_entries s ++ complex_entries s) (nillable_entries s),
      length-append (simple_entries s) (complex_entries s),
      few-firsts s Element s.globals,
      few-firsts s Attribute (length s.attributes),
      few-firsts s Simple (length s.simples),
      few-firsts s Complex (length s.complexes),
      few-firsts s Nillable (length s.complexes),
      h.globals,
      h.few_elements,
      h.few_attributes,
      h.few_simples,
      h.few_complexes,
    )

-- the ranks of a kind
all-ranked : (s : Set) (of_kind : ℕ → Subject) (Q : ℕ → Type 0) (n : ℕ) → ((i : ℕ) → Q (rank (of_kind i))) → All (λ e. Q (rank e.subject)) (firsts s of_kind n)
all-ranked s of_kind Q n h = all-firsts s of_kind (λ e. Q (rank e.subject)) n (λ i a l e. h i)

-- In a linked set no two of one kind have one name.
pub distinct-collected : (s : Set) → IsLinked s → IsDistinct tied (collected s)
distinct-collected s h =
    let ss = filter_map (λ (t : SimpleDef). t.name) s.simples in
    let cs = filter_map (λ (c : ComplexDef). c.name) s.complexes in
    let complex = distinct-back name_eq ss cs h.types_apart in
    let elements = distinct-firsts s Element s.globals
    (λ i j a b l p q. apart-mapped (λ (e : ElementDecl). e.name) (take s.globals s.elements) i j a b h.elements_apart l p q) in
    let attributes = distinct-firsts s Attribute (length s.attributes)
    (λ i j a b l p q. apart-mapped (λ (g : GlobalAttribute). g.name) s.attributes i j a b h.attributes_apart l p q) in
    let simples = distinct-firsts s Simple (length s.simples)
    (λ i j a b l p q. apart-named (λ (t : SimpleDef). t.name) s.simples i j a b (distinct-front name_eq ss cs h.types_apart) l p q) in
    let complexes = distinct-firsts s Complex (length s.complexes)
    (λ i j a b l p q. apart-named (λ (c : ComplexDef). c.name) s.complexes i j a b complex l p q) in
    let nillables = distinct-firsts s Nillable (length s.complexes)
    (λ i j a b l p q. apart-named (λ (c : ComplexDef). c.name) s.complexes i j a b complex l
    (nillable-named (has_nillable s i) (complex_name s i) a p) (nillable-named (has_nillable s j) (complex_name s j) b q)) in
    let types = distinct-append tied (simple_entries s) (complex_entries s) simples complexes
    (all-firsts s Simple (λ x. All (λ y. tied x y ≡ false) (complex_entries s)) (length s.simples)
    (λ i a l p. all-firsts s Complex (λ y. tied (entry_with (Simple i) a) y ≡ false) (length s.complexes)
    (λ j b m q. apart-names (entry_with (Simple i) a) (entry_with (Complex j) b)
    (apart-across name_eq ss cs a b h.types_apart (contains-named (λ (t : SimpleDef). t.name) s.simples i a p) (contains-named (λ (c : ComplexDef). c.name) s.complexes j b q))))) in
    distinct-append tied (declaration_entries s) (type_entries s)
    (distinct-append tied (element_entries s) (attribute_entries s) elements attributes
    (ranked-apart 0 (element_entries s) (attribute_entries s)
    (all-ranked s Element (λ r. r ≤ 0) s.globals (λ i. omega arith)) (all-ranked s Attribute (λ r. 0 < r) (length s.attributes) (λ i. omega arith))))
    (distinct-append tied (simple_entries s ++ complex_entries s) (nillable_entries s) types nillables
    (ranked-apart 2 (simple_entries s ++ complex_entries s) (nillable_entries s)
    (All-append (λ e. rank e.subject ≤ 2) (simple_entries s) (complex_entries s)
    (all-ranked s Simple (λ r. r ≤ 2) (length s.simples) (λ i. omega arith)) (all-ranked s Complex (λ r. r ≤ 2) (length s.complexes) (λ i. omega arith)))
    (all-ranked s Nillable (λ r. 2 < r) (length s.complexes) (λ i. omega arith))))
    (ranked-apart 1 (declaration_entries s) (type_entries s)
    (All-append (λ e. rank e.subject ≤ 1) (element_entries s) (attribute_entries s)
    (all-ranked s Element (λ r. r ≤ 1) s.globals (λ i. omega arith)) (all-ranked s Attribute (λ r. r ≤ 1) (length s.attributes) (λ i. omega arith)))
    (All-append (λ e. 1 < rank e.subject) (simple_entries s ++ complex_entries s) (nillable_entries s)
    (All-append (λ e. 1 < rank e.subject) (simple_entries s) (complex_entries s)
    (all-ranked s Simple (λ r. 1 < r) (length s.simples) (λ i. omega arith)) (all-ranked s Complex (λ r. 1 < r) (length s.complexes) (λ i. omega arith)))
    (all-ranked s Nillable (λ r. 1 < r) (length s.complexes) (λ i. omega arith))))

-- ---- in the order of the module

pub sorted-entries : (s : Set) (made es : List NamedSubject) → IsLinked s → made ≡ collected s → IsPermutation made es → IsSorted entry_cmp es → AreEntries s es
sorted-entries s made es h is moved up =
    let perm = subst (λ l. IsPermutation l es) is moved in
    let distinct = IsDistinct-IsPermutation tied tied-back (collected s) es perm (distinct-collected s h) in
    let named = All-permutation (λ (e : NamedSubject). name_of s e.subject ≡ Some e.name) (collected s) es perm (all-collected s (λ e. name_of s e.subject ≡ Some e.name) (λ w a e. e)) in
    record {
      ascending = strict es up distinct;
      whole = λ w name. (
        λ found. All-contains (λ (e : NamedSubject). name_of s e.subject ≡ Some e.name) es (entry_with w name) named found,
        λ has. Contains-permutation (collected s) es (entry_with w name) perm (has-collected s w name has),
      );
    }

pub few-entries : (s : Set) (made es : List NamedSubject) → IsLinked s → made ≡ collected s → IsPermutation made es → length es < 2 ^ 32
few-entries s made es h is moved =
    let few = few-collected s h in
    let same = length_permutation made es moved in
    let all = ap length is in
    omega (arith, few, same, all)

-- each has a component of the set
pub all-subjects : (s : Set) (es : List NamedSubject) → AreEntries s es → All (λ e. IsSubject s e.subject) es
all-subjects s es h = λ k d l.
    let e = get_or es k d in
    named-subject s e.subject e.name ((h.whole e.subject e.name).0 (Contains-get_or es k d l))
