-- Octets in hexadecimal digits are printed as they are written.
use Rattle.std.proofs.Common.{◌≡◌, ℕ, ◌<◌, ◌+◌, ◌*◌, ◌/◌, ◌%◌, Bool, true, false, ◌&&◌, Option, Some, None, List, [], ◌∷◌, refl, ap, ◌∙◌, subst, arith}
use Rattle.std.proofs.lemmas.Bool.Decides.{nat_tests}
use Rattle.module_print.specs.Notation.{hexadecimal_digit, hexadecimal}
use Rattle.module_text.specs.Names.{is_hexadecimal_digit}
use Rattle.module_text.specs.Defaults.{digit_of, with_octet, octets_of}
use Rattle.module_text.proofs.PrintedBounds.{and-first, and-second}

digit-small : (b : ℕ) → is_hexadecimal_digit b ≡ true → digit_of b < 16
digit-small b e = grind (arith, nat_tests, e)

digit-back : (b : ℕ) → is_hexadecimal_digit b ≡ true → hexadecimal_digit (digit_of b) ≡ b
digit-back b e = grind (arith, nat_tests, e)

more_octets : (high low : ℕ) (digits : List ℕ) (hex : Bool) (o : Option (List ℕ)) (text : List ℕ) → (is_hexadecimal_digit high && is_hexadecimal_digit low) ≡ hex
    → ((rest : List ℕ) → o ≡ Some rest → hexadecimal rest ≡ digits) → with_octet hex (16 * digit_of high + digit_of low) o ≡ Some text → hexadecimal text ≡ high ∷ low ∷ digits
more_octets high low digits false o text is rest e = absurd (cc)
more_octets high low digits true None text is rest e = absurd (cc)
more_octets high low digits true (Some octets) text is rest e =
    let h = digit_of high in
    let l = digit_of low in
    let same : (16 * h + l) ∷ octets ≡ text = cc in
    let small = digit-small low (and-second (is_hexadecimal_digit high) (is_hexadecimal_digit low) is) in
    let up : (16 * h + l) / 16 ≡ h = omega (arith, small) in
    let down : (16 * h + l) % 16 ≡ l = omega (arith, small) in
    let P : List ℕ → Type 0 = λ x. hexadecimal x ≡ high ∷ low ∷ digits in
    subst P same
    (ap (λ n. hexadecimal_digit n ∷ hexadecimal_digit ((16 * h + l) % 16) ∷ hexadecimal octets) up
    ∙ ap (λ n. hexadecimal_digit h ∷ hexadecimal_digit n ∷ hexadecimal octets) down
    ∙ ap (λ n. n ∷ hexadecimal_digit l ∷ hexadecimal octets) (digit-back high (and-first (is_hexadecimal_digit high) (is_hexadecimal_digit low) is))
    ∙ ap (λ n. high ∷ n ∷ hexadecimal octets) (digit-back low (and-second (is_hexadecimal_digit high) (is_hexadecimal_digit low) is))
    ∙ ap (λ ds. high ∷ low ∷ ds) (rest octets refl))

pub octets-printed : (digits text : List ℕ) → octets_of digits ≡ Some text → hexadecimal text ≡ digits
octets-printed [] text e =
    let same : [] ≡ text = cc in
    let P : List ℕ → Type 0 = λ x. hexadecimal x ≡ [] in
    subst P same refl
octets-printed (high ∷ []) text e = absurd (cc)
octets-printed (high ∷ low ∷ digits) text e =
    more_octets high low digits (is_hexadecimal_digit high && is_hexadecimal_digit low) (octets_of digits) text refl (λ rest f. octets-printed digits rest f) e
