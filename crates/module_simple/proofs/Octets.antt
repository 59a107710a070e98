-- Octets of two hexadecimal digits each, one behind another.
use Rattle.std.proofs.Common.{◌≡◌, ℕ, ◌+◌, ◌*◌, Bool, true, false, ◌&&◌, Option, Some, None, List, [], ◌∷◌, ◌++◌, length, refl, sym, ap, ◌∙◌, arith, append_assoc}
use Rattle.std.proofs.lemmas.Bool.{true≢false}
use Rattle.module_text.specs.Names.{is_hexadecimal_digit}
use Rattle.module_text.specs.Defaults.{digit_of, with_octet, octets_of}
use Rattle.module_simple.specs.Made.{behind_it}

-- a digit more than pairs
pub no_low : (digits behind : List ℕ) (high : ℕ) → digits ≡ high ∷ behind → length behind ≡ 0 → octets_of digits ≡ None
no_low digits [] high is empty = ap octets_of is
no_low digits (low ∷ others) high is empty = absurd (omega arith)

-- the octet of a pair, where both are digits
octet-if : (digits behind others : List ℕ) (high low : ℕ) → digits ≡ high ∷ behind → behind ≡ low ∷ others
    → octets_of digits ≡ with_octet (is_hexadecimal_digit high && is_hexadecimal_digit low) (16 * digit_of high + digit_of low) (octets_of others)
octet-if digits behind others high low is behind-is = ap octets_of (is ∙ ap (λ bs. high ∷ bs) behind-is)

none-if : (b c : Bool) (octet : ℕ) (found : Option (List ℕ)) → c ≡ false → with_octet (b && c) octet found ≡ None
none-if b true octet found e = absurd (true≢false e)
none-if true false octet found e = refl
none-if false false octet found e = refl

-- a pair of which one is no digit
pub no_high_digit : (digits behind others : List ℕ) (high low : ℕ) → digits ≡ high ∷ behind → behind ≡ low ∷ others → is_hexadecimal_digit high ≡ false
    → octets_of digits ≡ None
no_high_digit digits behind others high low is behind-is bad =
    octet-if digits behind others high low is behind-is
    ∙ ap (λ b. with_octet (b && is_hexadecimal_digit low) (16 * digit_of high + digit_of low) (octets_of others)) bad

pub no_low_digit : (digits behind others : List ℕ) (high low : ℕ) → digits ≡ high ∷ behind → behind ≡ low ∷ others → is_hexadecimal_digit low ≡ false
    → octets_of digits ≡ None
no_low_digit digits behind others high low is behind-is bad =
    octet-if digits behind others high low is behind-is
    ∙ none-if (is_hexadecimal_digit high) (is_hexadecimal_digit low) (16 * digit_of high + digit_of low) (octets_of others) bad

pub one_octet : (digits behind others : List ℕ) (high low : ℕ) → digits ≡ high ∷ behind → behind ≡ low ∷ others → is_hexadecimal_digit high ≡ true
    → is_hexadecimal_digit low ≡ true → octets_of digits ≡ with_octet true (16 * digit_of high + digit_of low) (octets_of others)
one_octet digits behind others high low is behind-is one two =
    let pair : (is_hexadecimal_digit high && is_hexadecimal_digit low) ≡ true = rw one two in
    octet-if digits behind others high low is behind-is
    ∙ ap (λ b. with_octet b (16 * digit_of high + digit_of low) (octets_of others)) pair

-- an octet more
pub with_more : (before : List ℕ) (octet : ℕ) (found : Option (List ℕ)) → behind_it before (with_octet true octet found) ≡ behind_it (before ++ octet ∷ []) found
with_more before octet None = refl
with_more before octet (Some octets) = ap Some (sym (append_assoc before (octet ∷ []) octets))
