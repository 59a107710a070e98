-- Whole numbers that fill their contents, and the items of an ENUMERATED by their numbers.
use Rattle.std.proofs.Common.{◌≡◌, ℕ, zero, suc, ◌+◌, ◌<◌, Bool, true, false, cond, ltb, not, ◌^◌, ℤ, pos, negsuc, Option, Some, None, List, [], ◌∷◌, length, All, refl, sym, ap, ◌∙◌, subst, arith, Result, Ok, Err}
use Rattle.std.specs.Prelude.{slice_get}
use Rattle.std.specs.List.{position_from, AllByRecursion}
use Rattle.std.specs.List.Sorted.{IsStrictlySortedBy}
use Rattle.std.specs.Ordering.{int_cmp, int_eq, is_eq}
use Rattle.std.specs.declared.cmp.Ordering.TheVariants.{Less}
use Rattle.std.proofs.lemmas.Bool.{lt-ltb, ltb-true, not-false}
use Rattle.std.proofs.lemmas.Bool.Decides.{Decides-int_eq}
use Rattle.std.proofs.lemmas.List.Elements.{All-head, All-tail}
use Rattle.simple_types.specs.Lexical.{is_128_bits}
use Rattle.base_codecs.specs.declared.spots.Spot.{Spot}
use Rattle.base_codecs.specs.Reading.{with_spot, left_at}
use Rattle.base_codecs.specs.Codec.{Nothing, Filling}
use Rattle.base_codecs.proofs.Codecs.{stop_ok, stop_not, ok_is, check_codec, left_codec}
use Rattle.der_fields.specs.declared.stops.Stop.{Stop}
use Rattle.der_fields.specs.declared.stops.Why.TheVariants.{NotShortest, Content, TooWide, Range}
use Rattle.der_fields.specs.Octets.{signed_octets, signed_value, are_nine_equal}
use Rattle.der_fields.specs.FieldsReading.{stop_at, AreOctets}
use Rattle.der_fields.proofs.FieldsNumbers.{signed_again, value_again}
use Rattle.der_fields.proofs.Fields.{octets_codec}
use Rattle.asn_types.specs.declared.types.Form.{Form}
use Rattle.asn_types.specs.declared.types.Form.TheVariants as form
use Rattle.der_fields.specs.Encoding.{number_in, item_number}
use Rattle.der_fields.specs.Reading.{is_nothing, whole_of, whole_at, item_below, item_with, item_of, item_at}

-- WHOLE NUMBERS of 128 bits
abbrev pub IsWhole : ℤ → Type 0
IsWhole z = is_128_bits z ≡ true

abbrev Raw : List ℕ → Type 0
Raw xs = Unit {0} × AreOctets xs

whole_pass : (s r : Spot) (z : ℤ) → IsWhole z → Raw (signed_octets z) × (whole_of s (signed_octets z, r) ≡ Ok (z, r))
whole_pass s r z h =
    let k = signed_again z in
    let raw = signed_octets z in
    let w = signed_value raw in (
      (tt, k.octets),
      stop_not (is_nothing raw) (stop_at s.at Content) _ (ap is_nothing k.is)
          ∙ stop_not (are_nine_equal raw) (stop_at s.at NotShortest) _ k.short
          ∙ stop_not (not (is_128_bits w)) (stop_at s.at TooWide) _ (ap (λ m. not (is_128_bits m)) k.value ∙ ap not h)
          ∙ ap (λ m. with_spot m r) k.value,
    )

whole_back : (s : Spot) (x : List ℕ × Spot) (y : ℤ × Spot) → Raw x.0 → whole_of s x ≡ Ok y → IsWhole y.0 × (signed_octets y.0 ≡ x.0) × (y.1 ≡ x.1)
whole_back s ([], r) y v e = absurd cc
whole_back s (x ∷ xs, r) y v e =
    let raw = x ∷ xs in
    let w = signed_value raw in
    let a = stop_ok (is_nothing raw) (stop_at s.at Content) _ y e in
    let b = stop_ok (are_nine_equal raw) (stop_at s.at NotShortest) _ y a.1 in
    let c = stop_ok (not (is_128_bits w)) (stop_at s.at TooWide) (with_spot w r) y b.1 in
    subst (λ (z : ℤ × Spot). IsWhole z.0 × (signed_octets z.0 ≡ raw) × (z.1 ≡ r)) (ok_is {S = Stop} (w, r) y c.1) (not-false (is_128_bits w) c.0, value_again x xs v.1 b.0, refl)

pub whole_codec : Filling AreOctets IsWhole (λ z. 0) (λ z p. signed_octets z) whole_at
unfolding whole_at
whole_codec =
    check_codec AreOctets Nothing Raw (λ xs. 0) (λ xs p. xs) left_at IsWhole signed_octets whole_of
    (octets_codec Nothing (λ xs. Unit {0}) (λ xs. 0) (λ xs p. xs) left_at (left_codec AreOctets) (λ xs v p q. refl)) whole_pass whole_back

-- THE ITEM WITH A NUMBER among numbers that ascend
found_later : (k j : ℕ) (numbers : List ℤ) (z : ℤ) → IsStrictlySortedBy int_cmp numbers → slice_get numbers j ≡ Some z → position_from (λ n. int_eq n z) k numbers ≡ Some (k + j)
unfolding IsStrictlySortedBy
found_later k j [] z sorted e = absurd cc
found_later k zero (n ∷ numbers) z sorted e =
    let same : n ≡ z = cc in
    ap (λ b. cond b (Some k) (position_from (λ n. int_eq n z) (k + 1) numbers)) ((Decides-int_eq n z).1 same) ∙ ap Some (omega arith)
found_later k (suc j) (n ∷ numbers) z sorted e =
    ap (λ b. cond b (Some k) (position_from (λ n. int_eq n z) (k + 1) numbers)) (ap is_eq (below j numbers sorted.0 e))
    ∙ found_later (k + 1) j numbers z sorted.1 e ∙ ap Some (omega arith)
  where
    below : (j : ℕ) (numbers : List ℤ) → AllByRecursion (λ y. int_cmp n y ≡ Less) numbers → slice_get numbers j ≡ Some z → int_cmp n z ≡ Less
    below j [] all e = absurd cc
    below zero (m ∷ numbers) all e = let same : m ≡ z = cc in subst (λ y. int_cmp n y ≡ Less) same all.0
    below (suc j) (m ∷ numbers) all e = below j numbers all.1 e

pub record IsAt (k : ℕ) (numbers : List ℤ) (z : ℤ) (i : ℕ) : Type 0 where
  pub behind : ℕ
  pub place : i ≡ k + behind
  pub within : behind < length numbers
  pub is : slice_get numbers behind ≡ Some z

some_is : {A : Type 0} (x y : A) → Some x ≡ Some y → x ≡ y
some_is x y e = cc

is_there : (k : ℕ) (numbers : List ℤ) (z : ℤ) (i : ℕ) → position_from (λ n. int_eq n z) k numbers ≡ Some i → IsAt k numbers z i
is_there k [] z i e = absurd cc
is_there k (n ∷ numbers) z i e = by (int_eq n z) refl e (is_there (k + 1) numbers z i)
  where
    by : (b : Bool) → int_eq n z ≡ b → cond b (Some k) (position_from (λ n. int_eq n z) (k + 1) numbers) ≡ Some i
        → (position_from (λ n. int_eq n z) (k + 1) numbers ≡ Some i → IsAt (k + 1) numbers z i) → IsAt k (n ∷ numbers) z i
    by true same e later = record { behind = 0; place = sym (some_is k i e) ∙ (omega arith); within = omega arith; is = ap Some ((Decides-int_eq n z).0 same) }
    by false other e later = let r = later e in record { behind = suc r.behind; place = r.place ∙ (omega arith); within = omega (arith, r.within); is = r.is }

within_some : (i : ℕ) (numbers : List ℤ) → i < length numbers → (z : ℤ) × (slice_get numbers i ≡ Some z)
within_some i [] h = absurd (omega arith)
within_some zero (n ∷ numbers) h = (n, refl)
within_some (suc i) (n ∷ numbers) h = within_some i numbers (omega arith)

all_whole : (i : ℕ) (numbers : List ℤ) (z : ℤ) → All IsWhole numbers → slice_get numbers i ≡ Some z → IsWhole z
all_whole i [] z all e = absurd cc
all_whole zero (n ∷ numbers) z all e = let same : n ≡ z = cc in subst IsWhole same (All-head IsWhole n numbers all)
all_whole (suc i) (n ∷ numbers) z all e = all_whole i numbers z (All-tail IsWhole n numbers all) e

-- what is asked of the items of a form, of which there are so many
pub record HasItems (f : Form) (items : ℕ) : Type 0 where
  pub again : (i : ℕ) → i < items → IsWhole (item_number f i) × (item_with f (item_number f i) ≡ Some i)
  pub back : (z : ℤ) (i : ℕ) → item_with f z ≡ Some i → (i < items) × (item_number f i ≡ z)

pub numbers_items : (numbers : List ℤ) → IsStrictlySortedBy int_cmp numbers → All IsWhole numbers → HasItems (form.Numbers numbers) (length numbers)
numbers_items numbers sorted whole = record {
  again = λ i h.
      let k = within_some i numbers h in
      let same : number_in (slice_get numbers i) ≡ k.0 = ap number_in k.1 in
      (subst IsWhole (sym same) (all_whole i numbers k.0 whole k.1), ap (λ z. position_from (λ n. int_eq n z) 0 numbers) same ∙ found_later 0 i numbers k.0 sorted k.1 ∙ ap Some (omega arith));
  back = λ z i e.
      let k = is_there 0 numbers z i e in
      let same : i ≡ k.behind = k.place ∙ (omega arith) in
      (omega (arith, same, k.within), ap (λ j. number_in (slice_get numbers j)) same ∙ ap number_in k.is);
}

-- items that are numbered from 0 on
counted_whole : (i items : ℕ) → i < items → items < 2 ^ 32 → IsWhole (pos i)
counted_whole i items h few = lt-ltb i (2 ^ 127) (omega (arith, h, few))

below_again : (i items : ℕ) → i < items → item_below items (pos i) ≡ Some i
below_again i items h = ap (λ b. cond b (Some i) None) (lt-ltb i items h)

below_back : (items : ℕ) (z : ℤ) (i : ℕ) → item_below items z ≡ Some i → (i < items) × (pos i ≡ z)
below_back items (pos j) i e = by (ltb j items) refl e
  where
    by : (b : Bool) → ltb j items ≡ b → cond b (Some j) None ≡ Some i → (i < items) × (pos i ≡ pos j)
    by true lt e = let same : j ≡ i = some_is j i e in (omega (arith, same, ltb-true j items lt), ap pos (sym same))
    by false lt e = absurd cc
below_back items (negsuc j) i e = absurd cc

pub words_items : (identifiers words : List (List ℕ)) → length words < 2 ^ 32 → HasItems (form.Words identifiers words) (length words)
words_items identifiers words few = record {
  again = λ i h. (counted_whole i (length words) h few, below_again i (length words) h);
  back = λ z i e. below_back (length words) z i e;
}

pub order_items : (identifiers : List (List ℕ)) → length identifiers < 2 ^ 32 → HasItems (form.Order identifiers) (length identifiers)
order_items identifiers few = record {
  again = λ i h. (counted_whole i (length identifiers) h few, below_again i (length identifiers) h);
  back = λ z i e. below_back (length identifiers) z i e;
}

-- its number is read as the item
pub item_codec : (f : Form) (items : ℕ) → HasItems f items → Filling AreOctets (λ i. i < items) (λ i. 0) (λ i p. signed_octets (item_number f i)) (item_at f)
unfolding item_at
item_codec f items has =
    check_codec AreOctets Nothing IsWhole (λ z. 0) (λ z p. signed_octets z) whole_at (λ i. i < items) (item_number f) (item_of f) whole_codec pass back
  where
    found : Spot → Spot → Option ℕ → Result (ℕ × Spot) Stop
    found s r o = elim o [ None ↦ Err (stop_at s.at Range) | Some i ↦ Ok (i, r) ]

    pass : (s r : Spot) (i : ℕ) → i < items → IsWhole (item_number f i) × (item_of f s (item_number f i, r) ≡ Ok (i, r))
    pass s r i h = let k = has.again i h in (k.0, ap (found s r) k.1)

    back : (s : Spot) (x : ℤ × Spot) (y : ℕ × Spot) → IsWhole x.0 → item_of f s x ≡ Ok y → (y.0 < items) × (item_number f y.0 ≡ x.0) × (y.1 ≡ x.1)
    back s (z, r) y v e = by (item_with f z) refl e
      where
        by : (o : Option ℕ) → item_with f z ≡ o → found s r o ≡ Ok y → (y.0 < items) × (item_number f y.0 ≡ z) × (y.1 ≡ r)
        by None h e = absurd cc
        by (Some i) h e = let k = has.back z i h in subst (λ (q : ℕ × Spot). (q.0 < items) × (item_number f q.0 ≡ z) × (q.1 ≡ r)) (ok_is {S = Stop} (i, r) y e) (k.0, k.1, refl)
