-- The canonical text of a whole number is a word, and writes that number.
use Rattle.std.proofs.Common.{◌≡◌, ℕ, suc, ◌<◌, ◌≤◌, ◌+◌, ◌^◌, true, false, List, [], ◌∷◌, refl, sym, ap, ◌∙◌, arith, Some, lit≤}
use Rattle.std.specs.Prelude.{◌==◌, nat_le, ℤ, pos, negsuc, neg_ℤ}
use Rattle.std.specs.List.{list_all, All}
use Rattle.std.specs.Char.{digit_value}
use Rattle.std.specs.Fmt.{decimal, signed_decimal}
use Rattle.std.specs.Str.Parse.{AllDigits, IsNumeral, digits_value}
use Rattle.std.proofs.lemmas.Bool.{true≢false, ltb-true, le-leb, leb-true, ne_eqb}
use Rattle.std.proofs.lemmas.Fmt.{decimal_is_IsNumeral_wide}
use Rattle.std.proofs.lemmas.List.Elements.{All-nil, All-cons}
use Rattle.std.proofs.lemmas.Str.Parse.{digit_from_value}
use Rattle.base_texts.specs.WhiteSpace.{is_white_space, IsWord}
use Rattle.base_texts.specs.Digits.{is_digit, is_numeral}
use Rattle.simple_types.specs.Lexical.{whole_number, is_128_bits}
use Rattle.simple_types.proofs.WholeNumbers.{and-first, and-second}

digit_from : (c : ℕ) → digit_value c < 10 → is_digit c ≡ true
digit_from c below = let range = digit_from_value c below in rw (le-leb 48 c range.0, le-leb c 57 range.1) refl

digits_from : (cs : List ℕ) → AllDigits 10 cs → list_all is_digit cs ≡ true
digits_from [] each = refl
digits_from (c ∷ cs) each = rw (digit_from c each.0, digits_from cs each.1) refl

pub numeral_from : (cs : List ℕ) → IsNumeral 10 cs → is_numeral cs ≡ true
numeral_from [] numeral = absurd (let some = numeral.0 in omega arith)
numeral_from (c ∷ cs) numeral = digits_from (c ∷ cs) numeral.1

at_least : (c : ℕ) → is_digit c ≡ true → 48 ≤ c
at_least c e = leb-true 48 c (and-first (nat_le 48 c) (nat_le c 57) e)

pub digit_other : (c n : ℕ) → is_digit c ≡ true → n < 48 → (c == n) ≡ false
digit_other c n e below = let above = at_least c e in ne_eqb c n (λ same. omega (arith, above, same, below))

digit_plain : (c : ℕ) → is_digit c ≡ true → is_white_space c ≡ false
unfolding is_white_space
digit_plain c e = rw (digit_other c 0x20 e (omega arith), digit_other c 0x9 e (omega arith), digit_other c 0xA e (omega arith), digit_other c 0xD e (omega arith)) refl

digits_plain : (cs : List ℕ) → list_all is_digit cs ≡ true → All (λ b. is_white_space b ≡ false) cs
digits_plain [] e = All-nil (λ b. is_white_space b ≡ false)
digits_plain (c ∷ cs) e =
    All-cons (λ b. is_white_space b ≡ false) c cs (digit_plain c (and-first (is_digit c) (list_all is_digit cs) e)) (digits_plain cs (and-second (is_digit c) (list_all is_digit cs) e))

pub numeral_word : (cs : List ℕ) → is_numeral cs ≡ true → IsWord cs
numeral_word [] e = absurd (true≢false (sym e))
numeral_word (c ∷ cs) e = record { has = refl; plain = digits_plain (c ∷ cs) e }

minus_word : (cs : List ℕ) → is_numeral cs ≡ true → IsWord (45 ∷ cs)
unfolding is_white_space
minus_word [] e = absurd (true≢false (sym e))
minus_word (c ∷ cs) e = record { has = refl; plain = All-cons (λ b. is_white_space b ≡ false) 45 (c ∷ cs) refl (digits_plain (c ∷ cs) e) }

pub unsigned_number : (cs : List ℕ) → is_numeral cs ≡ true → whole_number cs ≡ Some (pos (digits_value 10 cs))
unfolding whole_number
unsigned_number [] e = absurd (true≢false (sym e))
unsigned_number (c ∷ cs) e =
    let first = and-first (is_digit c) (list_all is_digit cs) e in
    rw (digit_other c 45 first (omega arith), digit_other c 43 first (omega arith), e) refl

minus_number : (cs : List ℕ) → is_numeral cs ≡ true → whole_number (45 ∷ cs) ≡ Some (neg_ℤ (pos (digits_value 10 cs)))
unfolding whole_number
minus_number cs e = rw e refl

pub short : (n : ℕ) → n < 2 ^ 127 → n + 1 < 10 ^ 64
short n below = let room : 2 ^ 127 + 1 ≤ 10 ^ 64 = lit≤ tt in omega (arith, below, room)

pub decimal_word : (z : ℤ) → is_128_bits z ≡ true → IsWord (signed_decimal z)
decimal_word (pos n) e =
    let below = short n (ltb-true n (2 ^ 127) e) in
    numeral_word (decimal n) (numeral_from (decimal n) (decimal_is_IsNumeral_wide n (omega arith)).0)
decimal_word (negsuc n) e =
    let below = short n (ltb-true n (2 ^ 127) e) in
    minus_word (decimal (suc n)) (numeral_from (decimal (suc n)) (decimal_is_IsNumeral_wide (suc n) (omega arith)).0)

pub decimal_number : (z : ℤ) → is_128_bits z ≡ true → whole_number (signed_decimal z) ≡ Some z
decimal_number (pos n) e =
    let below = short n (ltb-true n (2 ^ 127) e) in
    let known = decimal_is_IsNumeral_wide n (omega arith) in
    unsigned_number (decimal n) (numeral_from (decimal n) known.0) ∙ ap (λ m. Some (pos m)) known.1
decimal_number (negsuc n) e =
    let below = short n (ltb-true n (2 ^ 127) e) in
    let known = decimal_is_IsNumeral_wide (suc n) (omega arith) in
    minus_number (decimal (suc n)) (numeral_from (decimal (suc n)) known.0) ∙ ap (λ m. Some (neg_ℤ (pos m))) known.1
