-- Enumerations and their items.
use Rattle.std.proofs.Common.{◌≡◌, ℕ, zero, suc, ◌+◌, ◌<◌, ◌≤◌, ◌^◌, Bool, true, false, ◌&&◌, List, [], ◌∷◌, ◌++◌, refl, sym, ap, ◌∙◌, subst, arith, Option, Some, None, Result, Ok, Err, length, get_or, drop}
use Rattle.std.specs.Prelude.{ℤ, ◌↔◌, is_some, position, bytes_eq, if◌then◌else◌, cond}
use Rattle.std.specs.Result.{is_ok}
use Rattle.std.specs.List.{Contains, dedup}
use Rattle.std.specs.List.Retain.{IsFiltered, DiffersFromLast}
use Rattle.std.specs.List.Sorted.{IsPermutation, IsSorted, IsStrictlySortedBy}
use Rattle.std.specs.Cmp.{IsTotalOrder, IsEquivalence}
use Rattle.std.specs.Ordering.{int_eq, int_cmp, nat_cmp, eq_by_cmp}
use Rattle.std.specs.Cmp.Lexicographic.{slice_cmp}
use Rattle.std.specs.declared.cmp.Ordering.{Ordering}
use Rattle.std.proofs.Math.ListN.{drop_of_length-le}
use Rattle.std.proofs.lemmas.List.{append-nil}
use Rattle.std.proofs.Common.{append_assoc, rules}
use Rattle.std.specs.Option.{IfSome}
use Rattle.std.specs.Cmp.Rules.{comparing}
use Rattle.std.proofs.lemmas.Bool.Decides.{Decides-int_eq}
use Rattle.std.proofs.lemmas.Cmp.{int_cmp_total, int_eq_equiv, nat_list_cmp_total}
use Rattle.std.proofs.lemmas.Map.Text.{is_eq-slice_cmp}
use Rattle.std.proofs.lemmas.Slice.Eq.{bytes_eq-Decides}
use Rattle.std.proofs.lemmas.List.Filters.{dedup_is}
use Rattle.std.proofs.lemmas.List.Kept.{Contains-dedup, Contains-from_dedup, IsStrictlySortedBy-dedup}
use Rattle.std.proofs.lemmas.List.Sorted.{Contains-permutation, IsPermutation-sym}
use Rattle.base_trees.specs.Rose.{Rose}
use Rattle.base_texts.specs.declared.white_space.WhiteSpace.{WhiteSpace}
use Rattle.base_texts.specs.declared.white_space.WhiteSpace.TheVariants.{Collapse}
use Rattle.base_texts.specs.WhiteSpace.{treated}
use Rattle.simple_types.specs.declared.facets.Facet.{Facet}
use Rattle.simple_types.specs.declared.facets.Facet.TheVariants as facet
use Rattle.simple_types.specs.declared.labels.ValueLabel.{ValueLabel}
use Rattle.simple_types.specs.declared.simples.Simple.{Simple}
use Rattle.simple_types.specs.declared.simples.Simple.TheVariants as variant
use Rattle.simple_types.specs.Space.{Space, Booleans, Wholes, Numbers, Words, Characters, ListOf, UnionOf}
use Rattle.simple_types.specs.Seen.{space_of}
use Rattle.simple_types.specs.declared.numbers.Whole.{Whole}
use Rattle.simple_types.specs.declared.numbers.Whole.TheVariants.{Within, Above, Below}
use Rattle.simple_types.specs.Lexical.{whole_number, is_128_bits, is_from, is_to}
use Rattle.simple_types.specs.Reading.{Refusal, Bad, Reading, reads, item_at, has_characters}
use Rattle.simple_types.specs.Written.{Writes}
use Rattle.simple_facets.specs.declared.refusals.FacetWhy.{FacetWhy}
use Rattle.simple_facets.specs.declared.refusals.FacetWhy.TheVariants as why
use Rattle.simple_facets.specs.Applying.{has_bounds}
use Rattle.simple_facets.specs.Private.Deciding.{has_number, has_word, IsTexts}
use Rattle.simple_facets.specs.Restricting.{items_of, accepts, number_in, number_item, word_item, each_item, IsAscendingOf}
use Rattle.simple_facets.proofs.InTurn.{facets_from}

-- what a space accepts
ok_if : (b : Bool) (value : Rose ValueLabel) → is_ok (let r : Reading = if b then Ok value else Err Bad in r) ≡ b
ok_if true value = refl
ok_if false value = refl

ok_item : (o : Option ℕ) → is_ok (item_at o) ≡ is_some o
ok_item None = refl
ok_item (Some i) = refl

accepts-number : (now : Space) (text : List ℕ) (z : ℤ) → has_bounds now ≡ true → whole_number (treated Collapse text) ≡ Some z → is_128_bits z ≡ true → accepts now text ≡ has_number now z
unfolding reads
accepts-number (Wholes least greatest) text z has is bits = rw (is, bits) (ok_if (is_from least z && is_to greatest z) _)
accepts-number (Numbers numbers) text z has is bits = rw (is, bits) (ok_item (position (λ n. int_eq n z) numbers))
accepts-number Booleans text z has is bits = absurd (cc)
accepts-number (Words how words) text z has is bits = absurd (cc)
accepts-number (Characters how least most class) text z has is bits = absurd (cc)
accepts-number (ListOf item least most) text z has is bits = absurd (cc)
accepts-number (UnionOf members) text z has is bits = absurd (cc)

pub accepts-word : (how : WhiteSpace) (now : Space) (text : List ℕ) → IsTexts how now → accepts now text ≡ has_word now (treated how text)
unfolding reads
accepts-word how (Words made words) text is = subst (λ h. accepts (Words made words) text ≡ is_some (position (λ w. bytes_eq w (treated h text)) words)) is (ok_item (position (λ w. bytes_eq w (treated made text)) words))
accepts-word how (Characters made least most class) text is = subst (λ h. accepts (Characters made least most class) text ≡ has_characters least most class (treated h text)) is (ok_if (has_characters least most class (treated made text)) _)
accepts-word how Booleans text is = absurd is
accepts-word how (Wholes least greatest) text is = absurd is
accepts-word how (Numbers numbers) text is = absurd is
accepts-word how (ListOf item least most) text is = absurd is
accepts-word how (UnionOf members) text is = absurd is

-- the item of a number that a text writes
item_of : (now : Space) (text : List ℕ) (n : ℤ) (o : Option ℤ) → whole_number (treated Collapse text) ≡ o → has_bounds now ≡ true → Writes (Some (Within n)) o → (has : Bool) → has ≡ has_number now n
    → number_in now text o ≡ (if has then Ok n else Err why.NotInBase)
item_of now text n None written bounds never has is = absurd never
item_of now text n (Some z) written bounds shown has is =
    let number : whole_number (treated Collapse text) ≡ Some n = written ∙ ap Some (sym shown.0) in
    let bits : is_128_bits n ≡ true = rw shown.0 shown.1 in
    rw (shown.1, sym shown.0, accepts-number now text n bounds number bits, sym is) refl

pub item_within : (now : Space) (text : List ℕ) (n : ℤ) → has_bounds now ≡ true → Writes (Some (Within n)) (whole_number (treated Collapse text)) → (has : Bool) → has ≡ has_number now n
    → number_item now text ≡ (if has then Ok n else Err why.NotInBase)
item_within now text n bounds written has is = item_of now text n (whole_number (treated Collapse text)) refl bounds written has is

pub word_within : (how : WhiteSpace) (now : Space) (text word : List ℕ) → IsTexts how now → word ≡ treated how text → (has : Bool) → has ≡ has_word now word
    → word_item how now text ≡ (if has then Ok word else Err why.NotInBase)
word_within how now text word is treated_is has has_is = rw (accepts-word how now text is, sym treated_is, sym has_is) refl

-- the tests of a type
pub number-among : (s : Simple) (numbers items : List ℤ) (n : ℤ) → s ≡ variant.Numbers numbers → items ≡ numbers → is_some (position (λ x. int_eq x n) items) ≡ has_number (space_of s) n
unfolding space_of
number-among s numbers items n is lent = rw (is, lent) refl

pub word-among : (s : Simple) (how : WhiteSpace) (words items : List (List ℕ)) (word : List ℕ) → s ≡ variant.Words how words → items ≡ words → is_some (position (λ x. bytes_eq x word) items) ≡ has_word (space_of s) word
unfolding space_of
word-among s how words items word is lent = rw (is, lent) refl

-- items one after another
items_of-cons : (f : Facet) (fs : List Facet) → items_of (f ∷ fs) ≡ items_of (f ∷ []) ++ items_of fs
items_of-cons (facet.Length text) fs = refl
items_of-cons (facet.MinLength text) fs = refl
items_of-cons (facet.MaxLength text) fs = refl
items_of-cons (facet.MinInclusive text) fs = refl
items_of-cons (facet.MaxInclusive text) fs = refl
items_of-cons (facet.MinExclusive text) fs = refl
items_of-cons (facet.MaxExclusive text) fs = refl
items_of-cons (facet.Enumeration text) fs = refl
items_of-cons (facet.WhiteSpace text) fs = refl

pub items_of-le : (fs : List Facet) → length (items_of fs) ≤ length fs
items_of-le [] = omega arith
items_of-le (facet.Length text ∷ fs) = let rest = items_of-le fs in omega arith
items_of-le (facet.MinLength text ∷ fs) = let rest = items_of-le fs in omega arith
items_of-le (facet.MaxLength text ∷ fs) = let rest = items_of-le fs in omega arith
items_of-le (facet.MinInclusive text ∷ fs) = let rest = items_of-le fs in omega arith
items_of-le (facet.MaxInclusive text ∷ fs) = let rest = items_of-le fs in omega arith
items_of-le (facet.MinExclusive text ∷ fs) = let rest = items_of-le fs in omega arith
items_of-le (facet.MaxExclusive text ∷ fs) = let rest = items_of-le fs in omega arith
items_of-le (facet.Enumeration text ∷ fs) = let rest = items_of-le fs in omega arith
items_of-le (facet.WhiteSpace text ∷ fs) = let rest = items_of-le fs in omega arith

module _ (facets : List Facet) (i : ℕ) (d : Facet) (below : i < length facets) where
  pub items_past : items_of (get_or facets i d ∷ []) ≡ [] → items_of (drop i facets) ≡ items_of (drop (i + 1) facets)
  items_past none = facets_from items_of facets i d below ∙ items_of-cons (get_or facets i d) (drop (i + 1) facets) ∙ ap (λ l. l ++ items_of (drop (i + 1) facets)) none

  pub items_at : (text : List ℕ) → items_of (get_or facets i d ∷ []) ≡ text ∷ [] → items_of (drop i facets) ≡ text ∷ items_of (drop (i + 1) facets)
  items_at text one = facets_from items_of facets i d below ∙ items_of-cons (get_or facets i d) (drop (i + 1) facets) ∙ ap (λ l. l ++ items_of (drop (i + 1) facets)) one

pub items_none : (facets : List Facet) (i : ℕ) → length facets ≤ i → items_of (drop i facets) ≡ []
items_none facets i past = ap items_of (drop_of_length-le facets past)

-- items, and then those of what comes further
abbrev pub behind_items : {A : Type 0} → List A → Result (List A) FacetWhy → Result (List A) FacetWhy
behind_items xs (Ok further) = Ok (xs ++ further)
behind_items xs (Err w) = Err w

pub none_behind : {A : Type 0} (r : Result (List A) FacetWhy) → r ≡ behind_items [] r
none_behind (Ok further) = refl
none_behind (Err w) = refl

module _ {A : Type 0} (item : List ℕ → Result A FacetWhy) where
  each_cons : (text : List ℕ) (texts : List (List ℕ)) (x : A) → item text ≡ Ok x → each_item item (text ∷ texts) ≡ behind_items (x ∷ []) (each_item item texts)
  each_cons text texts x is = by (each_item item texts) refl
    where
      by : (r : Result (List A) FacetWhy) → each_item item texts ≡ r → each_item item (text ∷ texts) ≡ behind_items (x ∷ []) (each_item item texts)
      by (Ok xs) rest = rw (each_item, is, rest) refl
      by (Err w) rest = rw (each_item, is, rest) refl

  each_refused : (text : List ℕ) (texts : List (List ℕ)) (w : FacetWhy) → item text ≡ Err w → each_item item (text ∷ texts) ≡ Err w
  each_refused text texts w is = rw (each_item, is) refl

  both_behind : (xs : List A) (x : A) (r : Result (List A) FacetWhy) → behind_items xs (behind_items (x ∷ []) r) ≡ behind_items (xs ++ x ∷ []) r
  both_behind xs x (Ok further) = ap Ok (sym (append_assoc xs (x ∷ []) further))
  both_behind xs x (Err w) = refl

  module _ (facets : List Facet) (i : ℕ) (d : Facet) (below : i < length facets) (xs : List A) (so_far : each_item item (items_of facets) ≡ behind_items xs (each_item item (items_of (drop i facets)))) where
    pub each_more : (text : List ℕ) (x : A) → items_of (get_or facets i d ∷ []) ≡ text ∷ [] → item text ≡ Ok x
        → each_item item (items_of facets) ≡ behind_items (xs ++ x ∷ []) (each_item item (items_of (drop (i + 1) facets)))
    each_more text x one is =
        so_far ∙ ap (λ ts. behind_items xs (each_item item ts)) (items_at facets i d below text one)
        ∙ ap (behind_items xs) (each_cons text (items_of (drop (i + 1) facets)) x is)
        ∙ both_behind xs x (each_item item (items_of (drop (i + 1) facets)))

    pub each_past : items_of (get_or facets i d ∷ []) ≡ [] → each_item item (items_of facets) ≡ behind_items xs (each_item item (items_of (drop (i + 1) facets)))
    each_past none = so_far ∙ ap (λ ts. behind_items xs (each_item item ts)) (items_past facets i d below none)

    pub each_stops : (text : List ℕ) (w : FacetWhy) → items_of (get_or facets i d ∷ []) ≡ text ∷ [] → item text ≡ Err w → each_item item (items_of facets) ≡ Err w
    each_stops text w one is =
        so_far ∙ ap (λ ts. behind_items xs (each_item item ts)) (items_at facets i d below text one)
        ∙ ap (behind_items xs) (each_refused text (items_of (drop (i + 1) facets)) w is)

  pub each_all : (facets : List Facet) (i : ℕ) (xs : List A) → length facets ≤ i → each_item item (items_of facets) ≡ behind_items xs (each_item item (items_of (drop i facets)))
      → each_item item (items_of facets) ≡ Ok xs
  each_all facets i xs past so_far = so_far ∙ ap (λ ts. behind_items xs (each_item item ts)) (items_none facets i past) ∙ ap Ok (append-nil xs)

-- sorted, and each kept once
module _ {X : Type 0} {R : X → X → Ordering} (o : IsTotalOrder R) {E : X → X → Bool} (same : IsEquivalence E) (tells : (x y : X) → E x y ≡ true → x ≡ y) (ties : (x y : X) → E x y ≡ eq_by_cmp R x y) where
  pub ascending : (old sorted new : List X) → IsPermutation old sorted → IsSorted R sorted → IsFiltered (DiffersFromLast E) [] sorted new → IsAscendingOf R old new
  ascending old sorted new moved in_order filtered =
      let is : new ≡ dedup E sorted = dedup_is E sorted new filtered in
      subst (IsAscendingOf R old) (sym is) (
        IsStrictlySortedBy-dedup o ties sorted in_order,
        λ x. (
          λ inside. Contains-permutation sorted old x (IsPermutation-sym old sorted moved) (Contains-from_dedup E sorted x inside),
          λ inside. Contains-dedup same tells sorted x (Contains-permutation old sorted x moved inside),
        ),
      )

pub numbers_ascending : (old sorted new : List ℤ) → IsPermutation old sorted → IsSorted int_cmp sorted → IsFiltered (DiffersFromLast int_eq) [] sorted new → IsAscendingOf int_cmp old new
numbers_ascending = ascending int_cmp_total int_eq_equiv (λ x y e. (Decides-int_eq x y).0 e) (λ x y. refl)

texts_equiv : IsEquivalence bytes_eq
texts_equiv = search (comparing, rules)

pub words_ascending : (old sorted new : List (List ℕ)) → IsPermutation old sorted → IsSorted (slice_cmp nat_cmp) sorted → IsFiltered (DiffersFromLast bytes_eq) [] sorted new → IsAscendingOf (slice_cmp nat_cmp) old new
words_ascending = ascending nat_list_cmp_total texts_equiv (λ x y e. (bytes_eq-Decides x y).0 e) (λ x y. sym (is_eq-slice_cmp x y))

-- why an item is refused is why they are
pub each_stops_if : {A : Type 0} (item : List ℕ → Result A FacetWhy) (facets : List Facet) (i : ℕ) (d : Facet) → i < length facets → (xs : List A)
    → each_item item (items_of facets) ≡ behind_items xs (each_item item (items_of (drop i facets)))
    → (text : List ℕ) (o : Option FacetWhy) → items_of (get_or facets i d ∷ []) ≡ text ∷ [] → IfSome o (λ w. Err w ≡ item text) → IfSome o (λ w. each_item item (items_of facets) ≡ Err w)
each_stops_if item facets i d below xs so_far text None one refused = refused
each_stops_if item facets i d below xs so_far text (Some w) one refused = each_stops item facets i d below xs so_far text w one (sym refused)
