-- Whole numbers as texts write them.
use Rattle.std.proofs.Common.{◌≡◌, ℕ, zero, suc, ◌<◌, ◌+◌, ◌^◌, Bool, true, false, ◌&&◌, List, [], ◌∷◌, refl, sym, arith, Some, None, length}
use Rattle.std.specs.Prelude.{Option, position, ◌==◌, ◌≤◌, nat_le, ℤ, pos, negsuc, neg_ℤ, FitsSigned}
use Rattle.std.specs.List.{list_all}
use Rattle.std.specs.Char.{digit_value}
use Rattle.std.specs.Str.Parse.{AllDigits, IsNumeral, digits_value, without_leading_sign, starts_with_minus, signed_digits_value}
use Rattle.std.proofs.lemmas.Bool.{true≢false, lt-ltb, ltb-true, leb-true}
use Rattle.std.proofs.lemmas.Str.{digit_value_digit}
use mir.Syntax.{w128}
use Rattle.base_texts.specs.Digits.{is_digit, is_numeral}
use Rattle.simple_types.specs.declared.numbers.Whole.TheVariants.{Within, Above, Below}
use Rattle.std.specs.Str.{chars}
use Rattle.base_texts.specs.Characters.{is_name_char}
use Rattle.simple_types.specs.Lexical.{is_nmtoken, whole_number, is_128_bits}
use Rattle.simple_types.specs.Written.{Writes, Shows}
use Rattle.simple_types.specs.Reading.{number_from, item_at}
use Rattle.std.specs.Ordering.{int_eq}

pub and-first : (a b : Bool) → (a && b) ≡ true → a ≡ true
and-first true b e = refl
and-first false b e = e

pub and-second : (a b : Bool) → (a && b) ≡ true → b ≡ true
and-second true b e = e
and-second false b e = absurd (true≢false (sym e))

pub digit_is : (c : ℕ) → is_digit c ≡ true → digit_value c < 10
digit_is c e =
    let least : 48 ≤ c = leb-true 48 c (and-first (nat_le 48 c) (nat_le c 57) e) in
    let most : c ≤ 57 = leb-true c 57 (and-second (nat_le 48 c) (nat_le c 57) e) in
    let same : digit_value c + 48 ≡ c = digit_value_digit c (least, most) in
    omega arith

digits_are : (cs : List ℕ) → list_all is_digit cs ≡ true → AllDigits 10 cs
digits_are [] e = tt
digits_are (c ∷ cs) e = (digit_is c (and-first (is_digit c) (list_all is_digit cs) e), digits_are cs (and-second (is_digit c) (list_all is_digit cs) e))

pub numeral_is : (cs : List ℕ) → is_numeral cs ≡ true → IsNumeral 10 cs
numeral_is [] e = absurd (true≢false (sym e))
numeral_is (c ∷ cs) e = (omega arith, digits_are (c ∷ cs) e)

pub not-true : (b : Bool) → ¬ (b ≡ true) → b ≡ false
not-true true never = absurd (never refl)
not-true false _ = refl

pub numeral-nonempty : (cs : List ℕ) → (length cs == 0) ≡ false → is_numeral cs ≡ list_all is_digit cs
numeral-nonempty [] e = absurd (true≢false e)
numeral-nonempty (c ∷ cs) e = refl

pub fits_is : (z : ℤ) → FitsSigned w128 z → is_128_bits z ≡ true
fits_is (pos n) fits = lt-ltb n (2 ^ 127) fits.sfits
fits_is (negsuc n) fits = lt-ltb n (2 ^ 127) fits.sfits

pub unfit_is : (z : ℤ) → ¬ FitsSigned w128 z → is_128_bits z ≡ false
unfit_is (pos n) unfit = not-true _ (λ yes. unfit (record { sfits = ltb-true n (2 ^ 127) yes }))
unfit_is (negsuc n) unfit = not-true _ (λ yes. unfit (record { sfits = ltb-true n (2 ^ 127) yes }))

pub written_within : (text : List ℕ) (n : ℤ) → is_numeral (without_leading_sign text) ≡ true → FitsSigned w128 n → n ≡ signed_digits_value 10 text → Writes (Some (Within n)) (whole_number text)
unfolding whole_number
written_within text n numeral fits is = rw numeral (is, rw (sym is) (fits_is n fits))

below_shown : (d : ℕ) → ¬ FitsSigned w128 (neg_ℤ (pos d)) → Shows Below (neg_ℤ (pos d))
below_shown zero unfit = absurd (unfit (record { sfits = omega arith }))
below_shown (suc n) unfit = (n, refl, unfit_is _ unfit)

pub written_below : (text : List ℕ) → is_numeral (without_leading_sign text) ≡ true → starts_with_minus text ≡ true → ¬ FitsSigned w128 (signed_digits_value 10 text) → Writes (Some Below) (whole_number text)
unfolding whole_number
written_below text numeral minus unfit =
    let value : signed_digits_value 10 text ≡ neg_ℤ (pos (digits_value 10 (without_leading_sign text))) = rw minus refl in
    rw numeral (rw value (below_shown _ (λ fits. unfit (rw value fits))))

pub written_above : (text : List ℕ) → is_numeral (without_leading_sign text) ≡ true → starts_with_minus text ≡ false → ¬ FitsSigned w128 (signed_digits_value 10 text) → Writes (Some Above) (whole_number text)
unfolding whole_number
written_above text numeral plus unfit =
    let value : signed_digits_value 10 text ≡ pos (digits_value 10 (without_leading_sign text)) = rw plus refl in
    rw numeral (rw value (_, refl, unfit_is _ (λ fits. unfit (rw value fits))))

pub unwritten : (text : List ℕ) → is_numeral (without_leading_sign text) ≡ false → Writes None (whole_number text)
unfolding whole_number
unwritten text e = rw e tt

-- the number among others
pub within_found : (numbers : List ℤ) (n : ℤ) (o : Option ℤ) → Writes (Some (Within n)) o → number_from numbers o ≡ item_at (position (λ x. int_eq x n) numbers)
within_found numbers n None never = absurd never
within_found numbers n (Some z) shown = rw (shown.1, sym shown.0) refl

pub nmtoken-nonempty : (text : List ℕ) → (length text == 0) ≡ false → is_nmtoken text ≡ list_all is_name_char (chars text)
nmtoken-nonempty [] e = absurd (true≢false e)
nmtoken-nonempty (b ∷ bs) e = refl
