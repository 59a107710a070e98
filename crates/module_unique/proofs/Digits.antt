-- Numbers and octets as they are printed.
use Rattle.std.proofs.Common.{◌≡◌, ℕ, zero, suc, ◌<◌, ◌≤◌, ◌+◌, ◌*◌, ◌^◌, Bool, true, false, ◌&&◌, ◌||◌, Some, None, List, [], ◌∷◌, refl, sym, ap, ◌∙◌, arith, lit≤}
use Rattle.std.specs.Prelude.{ℤ, pos, negsuc, ◌/◌, ◌%◌, nat_lt, bytes_eq, All, if◌then◌else◌}
use Rattle.std.specs.List.{list_all}
use Rattle.std.specs.Fmt.{decimal, signed_decimal}
use Rattle.std.proofs.lemmas.Bool.{ltb-true, ltb-false, lt-ltb, and_from, true≢false}
use Rattle.std.proofs.lemmas.Bool.Decides.{nat_tests}
use Rattle.std.proofs.lemmas.Fmt.{decimal_is_IsNumeral_wide}
use Rattle.std.proofs.lemmas.Slice.Eq.{bytes_eq-Decides}
use Rattle.base_texts.specs.Digits.{is_digit, is_numeral}
use Rattle.simple_types.specs.Lexical.{is_128_bits}
use Rattle.simple_types.proofs.Decimals.{numeral_from, digit_other, short, decimal_number}
use Rattle.module_print.specs.Notation.{hexadecimal_digit, hexadecimal}
use Rattle.module_print.specs.Instructions.{number_identifier}
use Rattle.module_text.specs.Names.{is_capital, is_small, is_letter_or_digit, goes_on, is_identifier, is_number, is_hexadecimal_digit, are_octets}
use Rattle.module_text.specs.Told.{if_128_bits, whole_of, size_of}
use Rattle.module_text.specs.Defaults.{digit_of, with_octet, octets_of}
use Rattle.module_text.proofs.PrintedBounds.{and-first, and-second}
use Rattle.module_unique.proofs.Telling.{number_told}

-- ---- numbers of 128 bits

pub numeral : (n : ℕ) → n < 10 ^ 64 → is_numeral (decimal n) ≡ true
numeral n lt = numeral_from (decimal n) (decimal_is_IsNumeral_wide n (omega (arith, lt))).0

numeral_first : (digits : List ℕ) → is_numeral digits ≡ true → is_number digits ≡ true
numeral_first [] e = e
numeral_first (d ∷ ds) e = ap (λ t. if t then is_numeral ds else is_numeral (d ∷ ds)) (digit_other d 45 (and-first (is_digit d) (list_all is_digit ds) e) (omega arith)) ∙ e

pub number_is : (z : ℤ) → is_128_bits z ≡ true → is_number (signed_decimal z) ≡ true
number_is (pos n) e = let below = short n (ltb-true n (2 ^ 127) e) in numeral_first (decimal n) (numeral n (omega (arith, below)))
number_is (negsuc n) e = let below = short n (ltb-true n (2 ^ 127) e) in numeral (suc n) (omega (arith, below))

-- digits go on a name
or_last : (a b : Bool) → (a || b || true) ≡ true
or_last true b = refl
or_last false true = refl
or_last false false = refl

letter : (d : ℕ) → is_digit d ≡ true → is_letter_or_digit d ≡ true
letter d e = ap (λ t. is_capital d || is_small d || t) e ∙ or_last (is_capital d) (is_small d)

digits_go : (ds : List ℕ) → list_all is_digit ds ≡ true → goes_on false ds ≡ true
digits_go [] e = refl
digits_go (d ∷ ds) e =
    let first = and-first (is_digit d) (list_all is_digit ds) e in
    ap (λ t. if t then true && goes_on true ds else is_letter_or_digit d && goes_on false ds) (digit_other d 45 first (omega arith))
    ∙ and_from (is_letter_or_digit d) (goes_on false ds) (letter d first) (digits_go ds (and-second (is_digit d) (list_all is_digit ds) e))

numeral_goes : (ds : List ℕ) → is_numeral ds ≡ true → goes_on false ds ≡ true
numeral_goes [] e = absurd (true≢false (sym e))
numeral_goes (d ∷ ds) e = digits_go (d ∷ ds) e

hyphen_goes : (ds : List ℕ) → is_numeral ds ≡ true → goes_on true ds ≡ true
hyphen_goes [] e = absurd (true≢false (sym e))
hyphen_goes (d ∷ ds) e =
    let first = and-first (is_digit d) (list_all is_digit ds) e in
    ap (λ t. if t then false && goes_on true ds else is_letter_or_digit d && goes_on false ds) (digit_other d 45 first (omega arith))
    ∙ and_from (is_letter_or_digit d) (goes_on false ds) (letter d first) (digits_go ds (and-second (is_digit d) (list_all is_digit ds) e))

number_goes : (z : ℤ) → is_128_bits z ≡ true → goes_on false (signed_decimal z) ≡ true
number_goes (pos n) e = let below = short n (ltb-true n (2 ^ 127) e) in numeral_goes (decimal n) (numeral n (omega (arith, below)))
number_goes (negsuc n) e = let below = short n (ltb-true n (2 ^ 127) e) in hyphen_goes (decimal (suc n)) (numeral (suc n) (omega (arith, below)))

pub number_named : (z : ℤ) → is_128_bits z ≡ true → is_identifier (number_identifier z) ≡ true
number_named z e = number_goes z e

-- the number of an identifier
pub numbers_same : (y z : ℤ) → bytes_eq (number_identifier y) (number_identifier z) ≡ true → signed_decimal y ≡ signed_decimal z
numbers_same y z e =
    let same : (105 ∷ 110 ∷ 116 ∷ signed_decimal y) ≡ (105 ∷ 110 ∷ 116 ∷ signed_decimal z) = (bytes_eq-Decides (number_identifier y) (number_identifier z)).0 e in
    tails same
  where
    tails : {a b c d e f : ℕ} {xs ys : List ℕ} → (a ∷ b ∷ c ∷ xs) ≡ (d ∷ e ∷ f ∷ ys) → xs ≡ ys
    tails e = cc

pub number_back : (z : ℤ) → is_128_bits z ≡ true → whole_of (number_told z) ≡ Some z
number_back z e = ap if_128_bits (decimal_number z e) ∙ ap (λ t. if t then Some z else None) e

pub small_bits : (n : ℕ) → n < 2 ^ 32 → is_128_bits (pos n) ≡ true
small_bits n lt = let room : 2 ^ 32 ≤ 2 ^ 127 = lit≤ tt in lt-ltb n (2 ^ 127) (omega (arith, lt, room))

pub size_number : (n : ℕ) → n < 2 ^ 32 → is_number (signed_decimal (pos n)) ≡ true
size_number n lt = number_is (pos n) (small_bits n lt)

pub size_back : (n : ℕ) → n < 2 ^ 32 → size_of (whole_of (number_told (pos n))) ≡ Some n
size_back n lt = ap size_of (number_back (pos n) (small_bits n lt)) ∙ ap (λ t. if t then Some n else None) (lt-ltb n (2 ^ 32) lt)

-- ---- octets

low_digit : (n : ℕ) → n < 10 → is_hexadecimal_digit (48 + n) ≡ true
low_digit n lt = grind (arith, nat_tests, lt)

high_digit : (n : ℕ) → 10 ≤ n → n < 16 → is_hexadecimal_digit (55 + n) ≡ true
high_digit n least most = grind (arith, nat_tests, least, most)

low_back : (n : ℕ) → n < 10 → digit_of (48 + n) ≡ n
low_back n lt = grind (arith, nat_tests, lt)

high_back : (n : ℕ) → 10 ≤ n → n < 16 → digit_of (55 + n) ≡ n
high_back n least most = grind (arith, nat_tests, least, most)

abbrev IsDigitOf : ℕ → ℕ → Type 0
IsDigitOf n b = (is_hexadecimal_digit b ≡ true) × (digit_of b ≡ n)

digit_by : (n : ℕ) → n < 16 → (low : Bool) → nat_lt n 10 ≡ low → IsDigitOf n (if low then 48 + n else 55 + n)
digit_by n lt true e = let small = ltb-true n 10 e in (low_digit n small, low_back n small)
digit_by n lt false e = let great : 10 ≤ n = ltb-false n 10 e in (high_digit n great lt, high_back n great lt)

digit_is : (n : ℕ) → n < 16 → IsDigitOf n (hexadecimal_digit n)
digit_is n lt = digit_by n lt (nat_lt n 10) refl

pub octets_are : (octets : List ℕ) → All (λ octet. octet < 256) octets → are_octets (hexadecimal octets) ≡ true
octets_are [] small = refl
octets_are (b ∷ bs) small =
    let lt : b < 256 = small zero b (omega arith) in
    let high = digit_is (b / 16) (omega (arith, lt)) in
    let low = digit_is (b % 16) (omega arith) in
    ap (λ t. t && is_hexadecimal_digit (hexadecimal_digit (b % 16)) && are_octets (hexadecimal bs)) high.0
    ∙ ap (λ t. t && are_octets (hexadecimal bs)) low.0
    ∙ octets_are bs (λ k d h. small (suc k) d (omega (arith, h)))

pub octets_back : (octets : List ℕ) → All (λ octet. octet < 256) octets → octets_of (hexadecimal octets) ≡ Some octets
octets_back [] small = refl
octets_back (b ∷ bs) small =
    let lt : b < 256 = small zero b (omega arith) in
    let high = digit_is (b / 16) (omega (arith, lt)) in
    let low = digit_is (b % 16) (omega arith) in
    let h = hexadecimal_digit (b / 16) in
    let l = hexadecimal_digit (b % 16) in
    let whole : 16 * (b / 16) + b % 16 ≡ b = omega arith in
    ap (λ t. with_octet (t && is_hexadecimal_digit l) (16 * digit_of h + digit_of l) (octets_of (hexadecimal bs))) high.0
    ∙ ap (λ t. with_octet t (16 * digit_of h + digit_of l) (octets_of (hexadecimal bs))) low.0
    ∙ ap (λ n. with_octet true (16 * n + digit_of l) (octets_of (hexadecimal bs))) high.1
    ∙ ap (λ n. with_octet true (16 * (b / 16) + n) (octets_of (hexadecimal bs))) low.1
    ∙ ap (λ n. with_octet true n (octets_of (hexadecimal bs))) whole
    ∙ ap (with_octet true b) (octets_back bs (λ k d h. small (suc k) d (omega (arith, h))))
