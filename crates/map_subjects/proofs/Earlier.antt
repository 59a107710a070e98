-- The number of an assignment is how many stand before it.
use Rattle.std.proofs.Common.{◌≡◌, ℕ, zero, suc, ◌+◌, ◌<◌, ◌≤◌, Bool, true, false, cond, ◌||◌, List, [], ◌∷◌, ◌++◌, length, drop, get_or, Option, Some, None, All, Contains, inl, inr, ◌⊎◌, true≢false, refl, sym, ap, subst, ◌∙◌, length-append, add-one, arith}
use Rattle.std.specs.Prelude.{slice_get, nat_eq}
use Rattle.std.specs.List.{IsDistinct, count_by, remove, list_any}
use Rattle.std.specs.List.Sorted.{IsPermutation, IsStrictlySortedBy}
use Rattle.std.specs.Cmp.{IsTotalOrder}
use Rattle.std.specs.Ordering.{is_lt, is_eq, eq_by_cmp, ordering_reverse}
use Rattle.std.specs.declared.cmp.Ordering.{Ordering}
use Rattle.std.specs.declared.cmp.Ordering.TheVariants.{Less, Equal, Greater}
use Rattle.std.proofs.lemmas.Bool.Decides.{eqb_tells}
use Rattle.std.proofs.lemmas.Cmp.{eq_by_cmp_equiv}
use Rattle.std.proofs.lemmas.List.{drop_all}
use Rattle.std.proofs.lemmas.Option.{slice_get_within, get_or_from_slice_get}
use Rattle.std.proofs.lemmas.List.Elements.{All-from_recursion, All-head, All-tail, All-contains, Contains-append_cases, Contains-append_right, Contains-get_or}
use Rattle.std.proofs.lemmas.List.Sorted.{Contains-permutation, IsPermutation-remove, IsPermutation-sym, sum_by-IsPermutation}
use Rattle.std.proofs.lemmas.List.Sums.{sum_by-cons, sum_by-append, count_by-le-length}
use Rattle.std.proofs.lemmas.Map.Keys.{IsDistinct-head, IsDistinct-tail, IsDistinct-IsPermutation, IsDistinct-from_sorted, sorted_head, sorted_tail}
use Rattle.base_texts.specs.declared.texts.Name.{Name}
use Rattle.schema_components.specs.declared.components.ElementDecl.{ElementDecl}
use Rattle.schema_components.specs.Components.{Set}
use Rattle.schema_components.specs.Linked.{IsLinked}
use Rattle.map_subjects.specs.declared.subjects.Subject.{Subject}
use Rattle.map_subjects.specs.declared.subjects.Subject.TheVariants.{Element, Attribute, Simple, Complex, Nillable}
use Rattle.map_subjects.specs.declared.subjects.NamedSubject.{NamedSubject}
use Rattle.map_subjects.specs.Subjects.{name_of, entry_cmp, AreEntries, same_subject, place_in, is_nillable_of, has_nillable}
use Rattle.map_subjects.specs.Private.Collecting.{entry_with, entries_with, entries_of, firsts, collected, is_before, count_before}
use Rattle.map_subjects.proofs.Finding.{drop-next}
use Rattle.map_subjects.proofs.InOrder.{entry_total, tied, tied-back, turned, few-firsts, one-short, all-collected, has-collected, distinct-collected, named-element}

-- ---- one list in another order

only : {X : Type 0} (x z : X) → Contains (x ∷ []) z → x ≡ z
only x z (zero, below, is) = is
only x z (suc k, below, is) = absurd (omega (arith, below))

contains-one : {X : Type 0} (x : X) (xs : List X) → Contains (x ∷ xs) x
contains-one x xs = Contains-get_or (x ∷ xs) zero x (omega arith)

module _ {X : Type 0} (e : X → X → Bool) (same : (x : X) → e x x ≡ true) (flips : (x y : X) → e x y ≡ e y x) (p : X → Bool) where
  not-again : (x z : X) (xs : List X) → IsDistinct e (x ∷ xs) → Contains xs z → x ≡ z → ⊥
  not-again x z xs d has is =
      true≢false (sym (subst (λ y. e x y ≡ true) is (same x))
      ∙ All-contains (λ y. e x y ≡ false) xs z (All-from_recursion (λ y. e x y ≡ false) xs (IsDistinct-head e x xs d)) has)

  among-rest : (x z : X) (xs : List X) → Contains (x ∷ xs) z → (x ≡ z → ⊥) → Contains xs z
  among-rest x z xs has not = elim (Contains-append_cases (x ∷ []) xs z has) [
    | inl first ↦ absurd (not (only x z first))
    | inr later ↦ later
  ]

  pub same-count : (xs ys : List X) → IsDistinct e xs → IsDistinct e ys → ((z : X) → Contains xs z → Contains ys z) → ((z : X) → Contains ys z → Contains xs z)
      → count_by p xs ≡ count_by p ys
  same-count [] [] dx dy into back = refl
  same-count [] (y ∷ ys) dx dy into back = let h = back y (contains-one y ys) in absurd (omega (arith, h.1))
  same-count (x ∷ xs) ys dx dy into back =
      let at = into x (contains-one x xs) in
      let rest = remove ys at.0 in
      let moved : IsPermutation ys (x ∷ rest) = IsPermutation-remove ys at.0 x at.1 (sym at.2) in
      let apart = IsDistinct-IsPermutation e flips ys (x ∷ rest) moved dy in
      let inner = same-count xs rest (IsDistinct-tail e x xs dx) (IsDistinct-tail e x rest apart)
      (λ z has. among-rest x z rest (Contains-permutation ys (x ∷ rest) z moved (into z (Contains-append_right (x ∷ []) xs z has))) (λ is. not-again x z xs dx has is))
      (λ z has. among-rest x z xs (back z (Contains-permutation (x ∷ rest) ys z (IsPermutation-sym ys (x ∷ rest) moved) (Contains-append_right (x ∷ []) rest z has))) (λ is. not-again x z rest apart has is)) in
      sum_by-cons (λ y. cond (p y) 1 0) x xs
      ∙ ap (λ k. cond (p x) 1 0 + k) inner
      ∙ sym (sum_by-cons (λ y. cond (p y) 1 0) x rest)
      ∙ sum_by-IsPermutation (λ y. cond (p y) 1 0) ys (x ∷ rest) moved

-- ---- what stands before one of a sorted list

tied-same : (x : NamedSubject) → tied x x ≡ true
tied-same x = let laws = eq_by_cmp_equiv entry_total in laws.refl x

later : (x e : NamedSubject) → entry_cmp e x ≡ Less → is_lt (entry_cmp x e) ≡ false
later x e h = ap is_lt (turned x e ∙ ap ordering_reverse h)

not-itself : (o : Ordering) → is_eq o ≡ true → is_lt o ≡ false
not-itself Less h = absurd (true≢false (sym h))
not-itself Equal h = refl
not-itself Greater h = refl

abbrev amount : Bool → ℕ
amount true = 1
amount false = 0

amount-is : (b : Bool) → cond b 1 0 ≡ amount b
amount-is true = refl
amount-is false = refl

count-none : {X : Type 0} (p : X → Bool) (xs : List X) → All (λ x. p x ≡ false) xs → count_by p xs ≡ 0
count-none p [] h = refl
count-none p (x ∷ xs) h =
    let one : amount (p x) ≡ 0 = ap amount (All-head (λ y. p y ≡ false) x xs h) in
    let rest = count-none p xs (All-tail (λ y. p y ≡ false) x xs h) in
    sum_by-cons (λ y. cond (p y) 1 0) x xs ∙ ap (λ k. k + count_by p xs) (amount-is (p x)) ∙ omega (arith, one, rest)

all-later : (e : NamedSubject) (xs : List NamedSubject) → All (λ x. entry_cmp e x ≡ Less) xs → All (λ x. is_lt (entry_cmp x e) ≡ false) xs
all-later e xs h = λ k d l. later (get_or xs k d) e (h k d l)

pub place-count : (w : Subject) (e : NamedSubject) (es : List NamedSubject) → same_subject e.subject w ≡ true → IsStrictlySortedBy entry_cmp es → Contains es e
    → All (λ (x : NamedSubject). same_subject x.subject w ≡ true → x ≡ e) es → count_by (λ x. is_lt (entry_cmp x e)) es ≡ place_in es w
place-count w e [] is up has alone = absurd (omega (arith, has.1))
place-count w e (x ∷ es) is up has alone =
    let p = λ (y : NamedSubject). is_lt (entry_cmp y e) in
    let above = All-from_recursion (λ y. entry_cmp x y ≡ Less) es (sorted_head entry_cmp x es up) in
    let rest = λ (inside : Contains es e). place-count w e es is (sorted_tail entry_cmp x es up) inside (All-tail (λ (y : NamedSubject). same_subject y.subject w ≡ true → y ≡ e) x es alone) in
    sum_by-cons (λ y. cond (p y) 1 0) x es
    ∙ by (same_subject x.subject w) refl above rest
  where
    by : (b : Bool) → same_subject x.subject w ≡ b → All (λ y. entry_cmp x y ≡ Less) es → (Contains es e → count_by (λ y. is_lt (entry_cmp y e)) es ≡ place_in es w)
        → cond (is_lt (entry_cmp x e)) 1 0 + count_by (λ y. is_lt (entry_cmp y e)) es ≡ (elim (same_subject x.subject w) [ true ↦ 0 | false ↦ suc (place_in es w) ])
    by true f above rest =
        let here : x ≡ e = All-head (λ (y : NamedSubject). same_subject y.subject w ≡ true → y ≡ e) x es alone f in
        let self : is_lt (entry_cmp x e) ≡ false = not-itself (entry_cmp x e) (subst (λ y. tied y e ≡ true) (sym here) (tied-same e)) in
        let none : count_by (λ y. is_lt (entry_cmp y e)) es ≡ 0 = count-none (λ y. is_lt (entry_cmp y e)) es (all-later e es (subst (λ z. All (λ y. entry_cmp z y ≡ Less) es) here above)) in
        let first : amount (is_lt (entry_cmp x e)) ≡ 0 = ap amount self in
        let both : amount (is_lt (entry_cmp x e)) + count_by (λ y. is_lt (entry_cmp y e)) es ≡ 0 = omega (arith, first, none) in
        ap (λ k. k + count_by (λ y. is_lt (entry_cmp y e)) es) (amount-is (is_lt (entry_cmp x e))) ∙ both ∙ sym (ap (λ b. elim b [ true ↦ 0 | false ↦ suc (place_in es w) ]) f)
    by false f above rest =
        elim (Contains-append_cases (x ∷ []) es e has) [
          | inl first ↦ absurd (true≢false (sym (subst (λ (y : NamedSubject). same_subject y.subject w ≡ true) (sym (only x e first)) is) ∙ f))
          | inr inside ↦
              let below : entry_cmp x e ≡ Less = All-contains (λ y. entry_cmp x y ≡ Less) es e above inside in
              let one : amount (is_lt (entry_cmp x e)) ≡ 1 = ap (λ o. amount (is_lt o)) below in
              let others = rest inside in
              let both : amount (is_lt (entry_cmp x e)) + count_by (λ y. is_lt (entry_cmp y e)) es ≡ suc (place_in es w) = omega (arith, one, others) in
              ap (λ k. k + count_by (λ y. is_lt (entry_cmp y e)) es) (amount-is (is_lt (entry_cmp x e))) ∙ both ∙ sym (ap (λ b. elim b [ true ↦ 0 | false ↦ suc (place_in es w) ]) f)
        ]

pub same-subject : (v w : Subject) → same_subject v w ≡ true → v ≡ w
same-subject (Element m) (Element n) h = elim (eqb_tells m n) [ inl e ↦ ap Element e.1 | inr e ↦ absurd (true≢false (sym h ∙ e.0)) ]
same-subject (Attribute m) (Attribute n) h = elim (eqb_tells m n) [ inl e ↦ ap Attribute e.1 | inr e ↦ absurd (true≢false (sym h ∙ e.0)) ]
same-subject (Simple m) (Simple n) h = elim (eqb_tells m n) [ inl e ↦ ap Simple e.1 | inr e ↦ absurd (true≢false (sym h ∙ e.0)) ]
same-subject (Complex m) (Complex n) h = elim (eqb_tells m n) [ inl e ↦ ap Complex e.1 | inr e ↦ absurd (true≢false (sym h ∙ e.0)) ]
same-subject (Nillable m) (Nillable n) h = elim (eqb_tells m n) [ inl e ↦ ap Nillable e.1 | inr e ↦ absurd (true≢false (sym h ∙ e.0)) ]
same-subject (Element m) (Attribute n) h = absurd (true≢false (sym h))
same-subject (Element m) (Simple n) h = absurd (true≢false (sym h))
same-subject (Element m) (Complex n) h = absurd (true≢false (sym h))
same-subject (Element m) (Nillable n) h = absurd (true≢false (sym h))
same-subject (Attribute m) (Element n) h = absurd (true≢false (sym h))
same-subject (Attribute m) (Simple n) h = absurd (true≢false (sym h))
same-subject (Attribute m) (Complex n) h = absurd (true≢false (sym h))
same-subject (Attribute m) (Nillable n) h = absurd (true≢false (sym h))
same-subject (Simple m) (Element n) h = absurd (true≢false (sym h))
same-subject (Simple m) (Attribute n) h = absurd (true≢false (sym h))
same-subject (Simple m) (Complex n) h = absurd (true≢false (sym h))
same-subject (Simple m) (Nillable n) h = absurd (true≢false (sym h))
same-subject (Complex m) (Element n) h = absurd (true≢false (sym h))
same-subject (Complex m) (Attribute n) h = absurd (true≢false (sym h))
same-subject (Complex m) (Simple n) h = absurd (true≢false (sym h))
same-subject (Complex m) (Nillable n) h = absurd (true≢false (sym h))
same-subject (Nillable m) (Element n) h = absurd (true≢false (sym h))
same-subject (Nillable m) (Attribute n) h = absurd (true≢false (sym h))
same-subject (Nillable m) (Simple n) h = absurd (true≢false (sym h))
same-subject (Nillable m) (Complex n) h = absurd (true≢false (sym h))

pub self-same : (w : Subject) → same_subject w w ≡ true
self-same (Element m) = own m
  where
    own : (m : ℕ) → nat_eq m m ≡ true
    own m = elim (eqb_tells m m) [ inl e ↦ e.0 | inr e ↦ absurd (e.1 refl) ]
self-same (Attribute m) = elim (eqb_tells m m) [ inl e ↦ e.0 | inr e ↦ absurd (e.1 refl) ]
self-same (Simple m) = elim (eqb_tells m m) [ inl e ↦ e.0 | inr e ↦ absurd (e.1 refl) ]
self-same (Complex m) = elim (eqb_tells m m) [ inl e ↦ e.0 | inr e ↦ absurd (e.1 refl) ]
self-same (Nillable m) = elim (eqb_tells m m) [ inl e ↦ e.0 | inr e ↦ absurd (e.1 refl) ]

same-entry : (s : Set) (x : NamedSubject) (w : Subject) (a : Name) → name_of s x.subject ≡ Some x.name → name_of s w ≡ Some a → same_subject x.subject w ≡ true → x ≡ entry_with w a
same-entry s x w a p q is =
    let one = same-subject x.subject w is in
    let names : Some x.name ≡ Some a = sym p ∙ ap (name_of s) one ∙ q in
    ap (λ v. entry_with v x.name) one ∙ ap (λ o. entry_with w (from o)) names
  where
    from : Option Name → Name
    from None = a
    from (Some b) = b

-- the number of a component with a name
pub number-of : (s : Set) (es : List NamedSubject) (w : Subject) (a : Name) → IsLinked s → AreEntries s es → name_of s w ≡ Some a
    → count_by (λ x. is_lt (entry_cmp x (entry_with w a))) (collected s) ≡ place_in es w
number-of s es w a linked h named =
    let e = entry_with w a in
    let p = λ (x : NamedSubject). is_lt (entry_cmp x e) in
    same-count tied tied-same tied-back p (collected s) es (distinct-collected s linked) (IsDistinct-from_sorted entry_cmp es h.ascending)
    (λ z has. (h.whole z.subject z.name).1 (All-contains (λ (y : NamedSubject). name_of s y.subject ≡ Some y.name) (collected s) z (all-collected s (λ y. name_of s y.subject ≡ Some y.name) (λ v b is. is)) has))
    (λ z has. has-collected s z.subject z.name ((h.whole z.subject z.name).0 has))
    ∙ place-count w e es (self-same w) h.ascending ((h.whole w a).1 named)
    (λ k d l. let x = get_or es k d in same-entry s x w a ((h.whole x.subject x.name).0 (Contains-get_or es k d l)) named)

pub number-of-element : (s : Set) (es : List NamedSubject) (n : ℕ) (e : ElementDecl) → IsLinked s → AreEntries s es → n < s.globals → slice_get s.elements n ≡ Some e
    → count_before e.name (collected s) ≡ place_in es (Element n)
number-of-element s es n e linked h l got = number-of s es (Element n) e.name linked h (named-element s n e l got)

-- ---- counting kind by kind

pub count-append : (name : Name) (xs ys : List NamedSubject) → count_before name (xs ++ ys) ≡ count_before name xs + count_before name ys
count-append name xs ys = sum_by-append (λ x. cond (is_before name x) 1 0) xs ys

-- one more
pub count-next : (s : Set) (of_kind : ℕ → Subject) (name : Name) (n count added : ℕ) (more : List NamedSubject) → count ≡ count_before name (firsts s of_kind n)
    → added ≡ count_before name more → more ≡ entries_of s (of_kind n) → count + added ≡ count_before name (firsts s of_kind (n + 1))
count-next s of_kind name n count added more so_far is entries =
    ap (λ k. k + added) so_far ∙ ap (λ k. count_before name (firsts s of_kind n) + k) (is ∙ ap (count_before name) entries)
    ∙ sym (count-append name (firsts s of_kind n) (entries_of s (of_kind n))) ∙ ap (λ k. count_before name (firsts s of_kind k)) (sym (add-one n))

pub few-counted : (s : Set) (of_kind : ℕ → Subject) (name : Name) (n count : ℕ) → count ≡ count_before name (firsts s of_kind n) → count ≤ n
few-counted s of_kind name n count is = omega (arith, is, count_by-le-length (is_before name) (firsts s of_kind n), few-firsts s of_kind n)

pub one-counted : (w : Subject) (o : Option Name) (name : Name) (added : ℕ) → added ≡ count_before name (entries_with w o) → added ≤ 1
one-counted w o name added is = omega (arith, is, count_by-le-length (is_before name) (entries_with w o), one-short w o)

-- a type with no nillable elements has no entry of this kind
pub none-counted : (w : Subject) (o : Option Name) (b : Bool) (name : Name) → count_before name (entries_with w o) ≡ 0 → 0 ≡ count_before name (entries_with w (cond b o None))
none-counted w o true name h = sym h
none-counted w o false name h = refl

-- ---- whether some element has the type

pub any-next : (s : Set) (i n : ℕ) (e : ElementDecl) → slice_get s.elements i ≡ Some e
    → list_any (is_nillable_of n) (drop i s.elements) ≡ (is_nillable_of n e || list_any (is_nillable_of n) (drop (i + 1) s.elements))
any-next s i n e got = ap (list_any (is_nillable_of n)) (drop-next s.elements i e (slice_get_within s.elements i e got) (sym (get_or_from_slice_get s.elements i e e got)))

pub any-found : (s : Set) (i n : ℕ) (e : ElementDecl) (r : Bool) → slice_get s.elements i ≡ Some e → r ≡ is_nillable_of n e → r ≡ true
    → list_any (is_nillable_of n) (drop i s.elements) ≡ has_nillable s n → true ≡ has_nillable s n
any-found s i n e r got is found so_far =
    sym (any-next s i n e got ∙ ap (λ b. b || list_any (is_nillable_of n) (drop (i + 1) s.elements)) (sym is ∙ found)) ∙ so_far

pub any-not : (s : Set) (i n : ℕ) (e : ElementDecl) (r : Bool) → slice_get s.elements i ≡ Some e → r ≡ is_nillable_of n e → r ≡ false
    → list_any (is_nillable_of n) (drop i s.elements) ≡ has_nillable s n → list_any (is_nillable_of n) (drop (i + 1) s.elements) ≡ has_nillable s n
any-not s i n e r got is lacks so_far =
    sym (any-next s i n e got ∙ ap (λ b. b || list_any (is_nillable_of n) (drop (i + 1) s.elements)) (sym is ∙ lacks)) ∙ so_far

pub any-none : (s : Set) (i n : ℕ) → length s.elements ≤ i → list_any (is_nillable_of n) (drop i s.elements) ≡ has_nillable s n → false ≡ has_nillable s n
any-none s i n past so_far = ap (list_any (is_nillable_of n)) (sym (drop_all i s.elements past)) ∙ so_far
