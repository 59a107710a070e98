-- Numbers have just one least list of octets.
use Rattle.std.proofs.Common.{◌≡◌, ℕ, zero, suc, ◌+◌, ◌-◌, ◌*◌, ◌/◌, ◌%◌, ◌<◌, ◌≤◌, Bool, true, false, ltb, ◌||◌, ℤ, pos, negsuc, List, [], ◌∷◌, ◌++◌, refl, sym, ap, ◌∙◌, subst, arith, append_assoc, inl, inr}
use Rattle.std.proofs.lemmas.Bool.{cases_lt, lt-ltb, le-ltb, ltb-false}
use Rattle.std.proofs.lemmas.List.{append-nil}
use Rattle.base_codecs.proofs.Sequences.{cond_true, cond_false}
use Rattle.der_fields.specs.Octets.{octets_from, octets_of, value_from, is_long, flipped, signed_octets, signed_value, are_nine_equal}
use Rattle.der_fields.specs.FieldsReading.{AreOctets}

-- the first two octets together are no less than the top
abbrev pub Leads : ℕ → ℕ → List ℕ → Type 0
Leads top n [] = Unit {0}
Leads top n (y ∷ ys) = top ≤ 256 * n + y

-- what octets there are: the first is below the top, and none are too many
pub record Shape (top n : ℕ) (tail found : List ℕ) : Type 0 where
  pub first : ℕ
  pub others : List ℕ
  pub is : found ≡ first ∷ others
  pub small : first < top
  pub leads : Leads top first others
  pub octets : AreOctets others
  pub value : value_from first others ≡ value_from n tail

-- what a test picks, where what it doesn't pick need not be computed
pub pick_true : (b : Bool) (x y : List ℕ) → b ≡ true → elim b as (λ _. List ℕ) [ true ↦ x | false ↦ y ] ≡ x
pick_true b x y e = ap (λ c. elim c as (λ _. List ℕ) [ true ↦ x | false ↦ y ]) e

pub pick_false : (b : Bool) (x y : List ℕ) → b ≡ false → elim b as (λ _. List ℕ) [ true ↦ x | false ↦ y ] ≡ y
pick_false b x y e = ap (λ c. elim c as (λ _. List ℕ) [ true ↦ x | false ↦ y ]) e

module _ (top : ℕ) (some : 0 < top) where
  pub shape : (turns n : ℕ) (tail : List ℕ) → n ≤ turns → Leads top n tail → AreOctets tail → Shape top n tail (octets_from top turns n tail)
  unfolding octets_from
  shape zero n tail le leads all = record { first = n; others = tail; is = refl; small = omega (arith, some, le); leads = leads; octets = all; value = refl }
  shape (suc turns) n tail le leads all = elim (cases_lt n top) [
    | inl lt ↦ record { first = n; others = tail; is = pick_true (ltb n top) (n ∷ tail) (octets_from top turns (n / 256) (n % 256 ∷ tail)) (lt-ltb n top lt); small = lt; leads = leads; octets = all; value = refl }
    | inr ge ↦ (
        let k = shape turns (n / 256) (n % 256 ∷ tail) (omega (arith, le, some, ge)) (omega (arith, ge)) (omega arith, all) in
        record {
          first = k.first;
          others = k.others;
          is = pick_false (ltb n top) (n ∷ tail) (octets_from top turns (n / 256) (n % 256 ∷ tail)) (le-ltb n top ge) ∙ k.is;
          small = k.small;
          leads = k.leads;
          octets = k.octets;
          value = k.value ∙ ap (λ m. value_from m tail) (omega arith);
        })
  ]

  -- octets are those of their number
  abbrev Canonical : ℕ → List ℕ → Type 0
  Canonical n found = (turns : ℕ) (tail : List ℕ) → n ≤ turns → octets_from top turns n tail ≡ found ++ tail

  canonical_one : (n : ℕ) → n < top → Canonical n (n ∷ [])
  unfolding octets_from
  canonical_one n lt zero tail le = refl
  canonical_one n lt (suc turns) tail le = pick_true (ltb n top) (n ∷ tail) (octets_from top turns (n / 256) (n % 256 ∷ tail)) (lt-ltb n top lt)

  canonical_more : (n y : ℕ) (found : List ℕ) → Canonical n found → top ≤ 256 * n + y → y < 256 → Canonical (256 * n + y) (found ++ y ∷ [])
  unfolding octets_from
  canonical_more n y found h ge lt zero tail le = absurd (omega (arith, ge, le, some))
  canonical_more n y found h ge lt (suc turns) tail le =
      let m = 256 * n + y in
      let q : m / 256 ≡ n = omega (arith, lt) in
      let r : m % 256 ≡ y = omega (arith, lt) in
      pick_false (ltb m top) (m ∷ tail) (octets_from top turns (m / 256) (m % 256 ∷ tail)) (le-ltb m top ge)
      ∙ ap (λ k. octets_from top turns k (m % 256 ∷ tail)) q ∙ ap (λ k. octets_from top turns n (k ∷ tail)) r
      ∙ h turns (y ∷ tail) (omega (arith, le, ge, some)) ∙ sym (append_assoc found (y ∷ []) tail)

  canonical_all : (xs : List ℕ) (n : ℕ) (found : List ℕ) → Canonical n found → top ≤ n → AreOctets xs → Canonical (value_from n xs) (found ++ xs)
  canonical_all [] n found h ge all turns tail le = h turns tail le ∙ ap (λ m. m ++ tail) (sym (append-nil found))
  canonical_all (x ∷ xs) n found h ge all turns tail le =
      canonical_all xs (256 * n + x) (found ++ x ∷ []) (canonical_more n x found h (omega (arith, ge)) all.0) (omega (arith, ge)) all.1 turns tail le
      ∙ ap (λ m. m ++ tail) (append_assoc found (x ∷ []) xs)

  pub octets_again : (x : ℕ) (xs : List ℕ) → x < top → Leads top x xs → AreOctets xs → octets_of top (value_from x xs) ≡ x ∷ xs
  octets_again x [] lt leads all = canonical_one x lt x [] (omega arith)
  octets_again x (y ∷ ys) lt leads all =
      canonical_all ys (256 * x + y) (x ∷ y ∷ []) (canonical_more x y (x ∷ []) (canonical_one x lt) leads all.0) leads all.1 (value_from (256 * x + y) ys) [] (omega arith)
      ∙ append-nil (x ∷ y ∷ ys)

  pub shape_of : (n : ℕ) → Shape top n [] (octets_of top n)
  shape_of n = shape n n [] (omega arith) tt tt

pub long_leads : (top x : ℕ) (xs : List ℕ) → is_long top (x ∷ xs) ≡ false → Leads top x xs
long_leads top x [] e = tt
long_leads top x (y ∷ ys) e = ltb-false (256 * x + y) top e

pub leads_long : (top x : ℕ) (xs : List ℕ) → Leads top x xs → is_long top (x ∷ xs) ≡ false
leads_long top x [] h = refl
leads_long top x (y ∷ ys) h = le-ltb (256 * x + y) top h

-- NUMBERS WITH A SIGN
flip-flip : (xs : List ℕ) → AreOctets xs → flipped (flipped xs) ≡ xs
flip-flip [] all = refl
flip-flip (x ∷ xs) all = ap (λ m. m ∷ flipped (flipped xs)) (omega (arith, all.0)) ∙ ap (λ m. x ∷ m) (flip-flip xs all.1)

flip_octets : (xs : List ℕ) → AreOctets (flipped xs)
flip_octets [] = tt
flip_octets (x ∷ xs) = (omega arith, flip_octets xs)

or_false : (a b : Bool) → (a || b) ≡ false → (a ≡ false) × (b ≡ false)
or_false false b e = (refl, e)
or_false true b e = absurd cc

or_both : (a b : Bool) → a ≡ false → b ≡ false → (a || b) ≡ false
or_both a b e f = rw e f

-- octets whose first is 128 or more are not those of a small number before others
large_first : (x : ℕ) (xs : List ℕ) → 128 ≤ x → is_long 128 (x ∷ xs) ≡ false
large_first x [] ge = refl
large_first x (y ∷ ys) ge = le-ltb (256 * x + y) 128 (omega (arith, ge))

pub record Signed (z : ℤ) (found : List ℕ) : Type 0 where
  pub first : ℕ
  pub others : List ℕ
  pub is : found ≡ first ∷ others
  pub value : signed_value found ≡ z
  pub short : are_nine_equal found ≡ false
  pub octets : AreOctets found

-- what is written of a number is the least, and its value is the number
pub signed_again : (z : ℤ) → Signed z (signed_octets z)
signed_again (pos n) =
    let k = shape_of 128 (omega arith) n in
    let lead : is_long 128 (flipped (k.first ∷ k.others)) ≡ false = large_first (255 - k.first) (flipped k.others) (omega (arith, k.small)) in
    record {
      first = k.first;
      others = k.others;
      is = k.is;
      value = ap signed_value k.is ∙ cond_true (ltb k.first 128) (pos (value_from k.first k.others)) (negsuc (value_from (255 - k.first) (flipped k.others))) (lt-ltb k.first 128 k.small) ∙ ap pos k.value;
      short = ap are_nine_equal k.is ∙ or_both (is_long 128 (k.first ∷ k.others)) (is_long 128 (flipped (k.first ∷ k.others))) (leads_long 128 k.first k.others k.leads) lead;
      octets = subst AreOctets (sym k.is) (omega (arith, k.small), k.octets);
    }
signed_again (negsuc n) =
    let k = shape_of 128 (omega arith) n in
    let x = 255 - k.first in
    let xs = flipped k.others in
    let back : 255 - x ≡ k.first = omega (arith, k.small) in
    let again : flipped (x ∷ xs) ≡ k.first ∷ k.others = ap (λ m. m ∷ flipped xs) back ∙ ap (λ m. k.first ∷ m) (flip-flip k.others k.octets) in
    record {
      first = x;
      others = xs;
      is = ap flipped k.is;
      value = ap (λ m. signed_value (flipped m)) k.is ∙ cond_false (ltb x 128) (pos (value_from x xs)) (negsuc (value_from (255 - x) (flipped xs))) (le-ltb x 128 (omega (arith, k.small)))
          ∙ ap negsuc (ap (λ m. value_from m (flipped xs)) back ∙ ap (value_from k.first) (flip-flip k.others k.octets) ∙ k.value);
      short = ap (λ m. are_nine_equal (flipped m)) k.is ∙ or_both (is_long 128 (x ∷ xs)) (is_long 128 (flipped (x ∷ xs))) (large_first x xs (omega (arith, k.small))) (ap (is_long 128) again ∙ leads_long 128 k.first k.others k.leads);
      octets = subst (λ m. AreOctets (flipped m)) (sym k.is) (omega arith, flip_octets k.others);
    }

-- the least octets are those of their value
pub value_again : (x : ℕ) (xs : List ℕ) → AreOctets (x ∷ xs) → are_nine_equal (x ∷ xs) ≡ false → signed_octets (signed_value (x ∷ xs)) ≡ x ∷ xs
value_again x xs all e =
    let h = or_false (is_long 128 (x ∷ xs)) (is_long 128 (flipped (x ∷ xs))) e in
    elim (cases_lt x 128) [
      | inl lt ↦ ap signed_octets (cond_true (ltb x 128) (pos (value_from x xs)) (negsuc (value_from (255 - x) (flipped xs))) (lt-ltb x 128 lt)) ∙ octets_again 128 (omega arith) x xs lt (long_leads 128 x xs h.0) all.1
      | inr ge ↦ ap signed_octets (cond_false (ltb x 128) (pos (value_from x xs)) (negsuc (value_from (255 - x) (flipped xs))) (le-ltb x 128 ge))
          ∙ ap flipped (octets_again 128 (omega arith) (255 - x) (flipped xs) (omega (arith, ge)) (long_leads 128 (255 - x) (flipped xs) h.1) (flip_octets xs)) ∙ flip-flip (x ∷ xs) all
    ]
