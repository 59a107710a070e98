-- Texts of whole numbers: they are ASCII, and what the code keeps of them is what they write.
use Rattle.std.proofs.Common.{◌≡◌, ℕ, zero, suc, ◌<◌, ◌≤◌, ◌+◌, Bool, true, false, cond, Option, Some, None, List, [], ◌∷◌, refl, sym, ap, subst, arith, drop, ◌^◌}
use Rattle.std.specs.Prelude.{nat_le, ℤ, pos, negsuc, IsUtf8, ◌==◌, FitsSigned, if◌then◌else◌}
use Rattle.std.specs.List.{list_all}
use Rattle.std.specs.Str.{IsAscii}
use Rattle.std.specs.Str.Parse.{without_leading_sign, starts_with_minus, signed_digits_value}
use Rattle.std.proofs.lemmas.Bool.{true≢false, leb-true, ltb-true, eqb-true}
use Rattle.std.proofs.lemmas.Str.{IsUtf8-from_ascii}
use Rattle.base_texts.specs.Digits.{is_digit, is_numeral}
use Rattle.simple_types.specs.declared.numbers.Whole.{Whole}
use Rattle.simple_types.specs.declared.numbers.Whole.TheVariants.{Within, Above, Below}
use Rattle.simple_types.specs.Written.{Writes}
use Rattle.simple_types.specs.Lexical.{whole_number, is_128_bits}
use Rattle.simple_types.proofs.WholeNumbers.{and-first, and-second, unwritten, written_within, written_below, written_above}
use mir.Syntax.{w128}
use Rattle.module_text.specs.Told.{if_128_bits}

-- what the code keeps of a number
abbrev pub kept : Option Whole → Option ℤ
kept None = None
kept (Some (Within n)) = Some n
kept (Some Above) = None
kept (Some Below) = None

pub kept-is : (w : Option Whole) (z : Option ℤ) → Writes w z → kept w ≡ if_128_bits z
kept-is None None h = refl
kept-is None (Some z) h = absurd h
kept-is (Some w) None h = absurd h
kept-is (Some (Within n)) (Some z) h = rw h.1 (rw h.0 refl)
kept-is (Some Above) (Some z) h = rw h.2 refl
kept-is (Some Below) (Some z) h = rw h.2 refl

digit-ascii : (b : ℕ) → is_digit b ≡ true → b < 128
digit-ascii b e = let most : b ≤ 57 = leb-true b 57 (and-second (nat_le 48 b) (nat_le b 57) e) in omega arith

numeral-empty : IsAscii []
numeral-empty i = omega arith

digits-ascii : (bs : List ℕ) → list_all is_digit bs ≡ true → IsAscii bs
digits-ascii [] e i = omega arith
digits-ascii (b ∷ bs) e zero = digit-ascii b (and-first (is_digit b) (list_all is_digit bs) e)
digits-ascii (b ∷ bs) e (suc i) = digits-ascii bs (and-second (is_digit b) (list_all is_digit bs) e) i

numeral-ascii : (bs : List ℕ) → is_numeral bs ≡ true → IsAscii bs
numeral-ascii [] e = absurd (true≢false (sym e))
numeral-ascii (b ∷ bs) e = digits-ascii (b ∷ bs) e

signed-ascii : (b : ℕ) (bs : List ℕ) → b < 128 → IsAscii bs → IsAscii (b ∷ bs)
signed-ascii b bs h others zero = h
signed-ascii b bs h others (suc i) = others i

-- with a minus, with a plus, or without a sign
by_sign : (b : ℕ) (bs : List ℕ) (minus plus : Bool) → (minus ≡ true → b < 128) → (plus ≡ true → b < 128)
    → is_numeral (cond minus bs (drop (cond plus 1 0) (b ∷ bs))) ≡ true → IsAscii (b ∷ bs)
by_sign b bs true plus h k e = signed-ascii b bs (h refl) (numeral-ascii bs e)
by_sign b bs false true h k e = signed-ascii b bs (k refl) (numeral-ascii bs e)
by_sign b bs false false h k e = numeral-ascii (b ∷ bs) e

minus-small : (b : ℕ) → (b == 45) ≡ true → b < 128
minus-small b e = let is : b ≡ 45 = eqb-true b 45 e in omega arith

plus-small : (b : ℕ) → (b == 43) ≡ true → b < 128
plus-small b e = let is : b ≡ 43 = eqb-true b 43 e in omega arith

number-ascii : (bs : List ℕ) → is_numeral (without_leading_sign bs) ≡ true → IsAscii bs
number-ascii [] e = numeral-ascii [] e
number-ascii (b ∷ bs) e = by_sign b bs (b == 45) (b == 43) (minus-small b) (plus-small b) e

-- a number that doesn't fit is not kept
unfit-none : (text : List ℕ) (minus : Bool) → starts_with_minus text ≡ minus → is_numeral (without_leading_sign text) ≡ true
    → ¬ FitsSigned w128 (signed_digits_value 10 text) → None ≡ if_128_bits (whole_number text)
unfit-none text true e numeral unfit = kept-is (Some Below) _ (written_below text numeral e unfit)
unfit-none text false e numeral unfit = kept-is (Some Above) _ (written_above text numeral e unfit)

pub not-kept : (text : List ℕ) → is_numeral (without_leading_sign text) ≡ true
    → ¬ FitsSigned w128 (signed_digits_value 10 text) → None ≡ if_128_bits (whole_number text)
not-kept text numeral unfit = unfit-none text (starts_with_minus text) refl numeral unfit

pub is-kept : (text : List ℕ) (n : ℤ) → is_numeral (without_leading_sign text) ≡ true → FitsSigned w128 n → n ≡ signed_digits_value 10 text
    → Some n ≡ if_128_bits (whole_number text)
is-kept text n numeral fits is = kept-is (Some (Within n)) _ (written_within text n numeral fits is)

pub no-number : (text : List ℕ) → is_numeral (without_leading_sign text) ≡ false → None ≡ if_128_bits (whole_number text)
no-number text e = kept-is None _ (unwritten text e)

pub number-utf8 : (bs : List ℕ) → is_numeral (without_leading_sign bs) ≡ true → IsUtf8 bs
number-utf8 bs e = IsUtf8-from_ascii bs (number-ascii bs e)

-- ---- what is kept fits

fits-from : (z : ℤ) → is_128_bits z ≡ true → FitsSigned w128 z
fits-from (pos n) e = record { sfits = ltb-true n (2 ^ 127) e }
fits-from (negsuc n) e = record { sfits = ltb-true n (2 ^ 127) e }

kept_fits : (y z : ℤ) (b : Bool) → is_128_bits y ≡ b → Some z ≡ (if b then Some y else None) → FitsSigned w128 z
kept_fits y z true is e =
    let same : z ≡ y = let f : Option ℤ → ℤ = λ o. elim o [ None ↦ z | Some x ↦ x ] in ap f e in
    subst (FitsSigned w128) (sym same) (fits-from y is)
kept_fits y z false is e = absurd (cc)

pub kept-fits : (o : Option ℤ) (z : ℤ) → Some z ≡ if_128_bits o → FitsSigned w128 z
kept-fits None z e = absurd (cc)
kept-fits (Some y) z e = kept_fits y z (is_128_bits y) refl e
