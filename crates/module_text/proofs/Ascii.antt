-- Names are ASCII, and so UTF-8.
use Rattle.std.proofs.Common.{◌≡◌, ℕ, zero, suc, ◌<◌, ◌≤◌, ◌+◌, Bool, true, false, ◌&&◌, not, List, [], ◌∷◌, refl, sym, arith}
use Rattle.std.specs.Prelude.{nat_le, IsUtf8, ◌==◌, if◌then◌else◌}
use Rattle.std.specs.Str.{IsAscii}
use Rattle.std.proofs.lemmas.Bool.{true≢false, leb-true, eqb-true}
use Rattle.std.proofs.lemmas.Bool.Decides.{nat_tests}
use Rattle.std.proofs.lemmas.Str.{IsUtf8-from_ascii}
use Rattle.module_text.specs.Names.{is_letter_or_digit, is_small, is_capital, goes_on, is_identifier, is_reference}

and-first : (a b : Bool) → (a && b) ≡ true → a ≡ true
and-first true b e = refl
and-first false b e = e

and-second : (a b : Bool) → (a && b) ≡ true → b ≡ true
and-second true b e = e
and-second false b e = absurd (true≢false (sym e))

empty-ascii : IsAscii []
empty-ascii i = omega arith

more-ascii : (b : ℕ) (bs : List ℕ) → b < 128 → IsAscii bs → IsAscii (b ∷ bs)
more-ascii b bs h others zero = h
more-ascii b bs h others (suc i) = others i

letter-ascii : (b : ℕ) → is_letter_or_digit b ≡ true → b < 128
letter-ascii b e = grind (arith, nat_tests, e)

-- a hyphen, or a letter or digit
name_byte : (b : ℕ) (bs : List ℕ) (hyphen is : Bool) → (b == 45) ≡ is
    → (if is then not hyphen && goes_on true bs else is_letter_or_digit b && goes_on false bs) ≡ true
    → ((h : Bool) → goes_on h bs ≡ true → IsAscii bs) → IsAscii (b ∷ bs)
name_byte b bs hyphen true is e others =
    let at : b ≡ 45 = eqb-true b 45 is in
    more-ascii b bs (omega arith) (others true (and-second (not hyphen) (goes_on true bs) e))
name_byte b bs hyphen false is e others =
    more-ascii b bs (letter-ascii b (and-first (is_letter_or_digit b) (goes_on false bs) e)) (others false (and-second (is_letter_or_digit b) (goes_on false bs) e))

rest-ascii : (bs : List ℕ) (hyphen : Bool) → goes_on hyphen bs ≡ true → IsAscii bs
rest-ascii [] hyphen e = empty-ascii
rest-ascii (b ∷ bs) hyphen e = name_byte b bs hyphen (b == 45) refl e (rest-ascii bs)

identifier-ascii : (name : List ℕ) → is_identifier name ≡ true → IsAscii name
identifier-ascii [] e = empty-ascii
identifier-ascii (b ∷ bs) e =
    let most : b ≤ 122 = leb-true b 122 (and-second (nat_le 97 b) (nat_le b 122) (and-first (is_small b) (goes_on false bs) e)) in
    more-ascii b bs (omega arith) (rest-ascii bs false (and-second (is_small b) (goes_on false bs) e))

reference-ascii : (name : List ℕ) → is_reference name ≡ true → IsAscii name
reference-ascii [] e = empty-ascii
reference-ascii (b ∷ bs) e =
    let most : b ≤ 90 = leb-true b 90 (and-second (nat_le 65 b) (nat_le b 90) (and-first (is_capital b) (goes_on false bs) e)) in
    more-ascii b bs (omega arith) (rest-ascii bs false (and-second (is_capital b) (goes_on false bs) e))

pub identifier_utf8 : (name : List ℕ) → is_identifier name ≡ true → IsUtf8 name
identifier_utf8 name e = IsUtf8-from_ascii name (identifier-ascii name e)

pub reference_utf8 : (name : List ℕ) → is_reference name ≡ true → IsUtf8 name
reference_utf8 name e = IsUtf8-from_ascii name (reference-ascii name e)
