-- A few digits as they stand write a number that the code holds.
use Rattle.std.proofs.Common.{◌≡◌, ℕ, ◌<◌, ◌≤◌, ◌+◌, ◌-◌, ◌*◌, ◌^◌, true, List, Some, length, length-take, take, get_or, refl, sym, ap, ◌∙◌, subst, arith, lit≤}
use Rattle.std.specs.Prelude.{pos}
use Rattle.std.specs.Char.{digit_value}
use Rattle.std.specs.Str.Parse.{AllDigits, digits_value}
use Rattle.std.proofs.Math.Nat.{pow-le-pow_right}
use Rattle.std.proofs.lemmas.Bool.{lt-ltb}
use Rattle.std.proofs.lemmas.Int.Digits.{digits_more, digits_value_more, digits_value-lt}
use Rattle.std.proofs.lemmas.List.{take_all}
use Rattle.std.proofs.lemmas.Str.{digit_value_digit}
use Rattle.std.proofs.lemmas.Str.Parse.{digit_from_value}
use Rattle.base_texts.specs.declared.white_space.WhiteSpace.TheVariants.{Collapse}
use Rattle.base_texts.specs.WhiteSpace.{treated}
use Rattle.base_texts.specs.Digits.{is_digit, is_numeral}
use Rattle.simple_types.specs.declared.numbers.Whole.TheVariants.{Within}
use Rattle.simple_types.specs.Lexical.{whole_number}
use Rattle.simple_types.specs.Written.{Writes}
use Rattle.simple_types.proofs.Again.{word_treated}
use Rattle.simple_types.proofs.Decimals.{numeral_from, numeral_word, unsigned_number}
use Rattle.simple_types.proofs.WholeNumbers.{digit_is}

-- what a front shorter than eighteen digits writes is below a power of ten, so that one digit more fits
pub short_front : (bs : List ℕ) (i n : ℕ) → AllDigits 10 (take i bs) → n ≡ digits_value 10 (take i bs) → i < length bs → length bs ≤ 18 → n < 10 ^ 17
short_front bs i n digits is inside few =
    let short : length (take i bs) ≤ 17 = omega (arith, length-take i bs) in
    let below : digits_value 10 (take i bs) < 10 ^ length (take i bs) = digits_value-lt 10 (take i bs) digits in
    let room : 10 ^ length (take i bs) ≤ 10 ^ 17 = pow-le-pow_right (omega arith) short in
    omega (arith, below, room, is)

pub few_written : (text : List ℕ) (n : ℕ) → is_numeral text ≡ true → n ≡ digits_value 10 text → n < 10 ^ 18 → Writes (Some (Within (pos n))) (whole_number (treated Collapse text))
few_written text n numeral is below =
    let room : 10 ^ 18 ≤ 2 ^ 127 = lit≤ tt in
    rw (word_treated Collapse text (numeral_word text numeral), unsigned_number text numeral, sym is) (refl, lt-ltb n (2 ^ 127) (omega (arith, below, room)))

-- one digit more
pub digit_more : (bs : List ℕ) (i n m : ℕ) → i < length bs → AllDigits 10 (take i bs) → n ≡ digits_value 10 (take i bs) → is_digit (get_or bs i 0) ≡ true → m ≡ n * 10 + (get_or bs i 0 - 48)
    → AllDigits 10 (take (i + 1) bs) × (m ≡ digits_value 10 (take (i + 1) bs))
digit_more bs i n m inside digits is digit step =
    let below : digit_value (get_or bs i 0) < 10 = digit_is (get_or bs i 0) digit in
    let range = digit_from_value (get_or bs i 0) below in
    let same : digit_value (get_or bs i 0) + 48 ≡ get_or bs i 0 = digit_value_digit (get_or bs i 0) range in
    let more = digits_value_more 10 bs i inside in
    (digits_more 10 bs i inside digits below, omega (arith, more, same, is, step))

pub all_few : (bs : List ℕ) (i n : ℕ) → length bs ≤ i → 0 < length bs → length bs ≤ 18 → AllDigits 10 (take i bs) → n ≡ digits_value 10 (take i bs)
    → (is_numeral bs ≡ true) × (n ≡ digits_value 10 bs) × (n < 10 ^ 18)
all_few bs i n over some few digits is =
    let whole = take_all i bs over in
    let all : AllDigits 10 bs = subst (AllDigits 10) whole digits in
    let value : n ≡ digits_value 10 bs = is ∙ ap (digits_value 10) whole in
    let below : digits_value 10 bs < 10 ^ length bs = digits_value-lt 10 bs all in
    let room : 10 ^ length bs ≤ 10 ^ 18 = pow-le-pow_right (omega arith) few in
    (numeral_from bs (some, all), value, omega (arith, value, below, room))
