-- Reading names, numbers, quoted texts and octets at the beginning of bytes.
use mathlib.Core.Logic.{inl, inr}
use Rattle.std.specs.Prelude.{ℕ, ◌==◌, ◌⊎◌, Bool, not, List, [], ◌∷◌, ◌++◌, map, codes}
use Rattle.base_texts.specs.Digits.{is_digit}
use Rattle.module_grammar.specs.Reading.{Reader, word_at, byte_at, then_at, or_at, many_at, as_at, behind_at, before_at}
use Rattle.module_grammar.specs.Shapes.{either_written, each_written, behind_word}
use Rattle.module_text.specs.Names.{is_capital, is_small, is_letter_or_digit, is_hexadecimal_digit}
use Rattle.module_text.specs.declared.bounds.PlainNumber.{PlainNumber}
use Rattle.module_text.specs.declared.types.PlainName.{PlainName}

-- ---- names: a first letter, and then letters and digits, with or without a hyphen before each

abbrev pub piece_at : Reader (ℕ ⊎ ℕ)
piece_at = or_at (byte_at is_letter_or_digit) (behind_at (codes "-") (byte_at is_letter_or_digit))

abbrev pub byte_text : ℕ → List ℕ
byte_text b = b ∷ []

abbrev pub piece_text : ℕ ⊎ ℕ → List ℕ
piece_text = either_written byte_text (behind_word (codes "-") byte_text)

abbrev pub begun : ℕ → ℕ × List (ℕ ⊎ ℕ) → List ℕ
begun place x = x.0 ∷ each_written piece_text x.1

abbrev pub name_at : (ℕ → Bool) → Reader (List ℕ)
name_at is_first = as_at begun (then_at (byte_at is_first) (λ b. many_at piece_at))

abbrev pub identifier_at : Reader (List ℕ)
identifier_at = name_at is_small

abbrev pub reference_at : Reader (List ℕ)
reference_at = name_at is_capital

abbrev pub name_here : ℕ → List ℕ → PlainName
name_here place name = record { at = place; name = name }

abbrev pub plain_identifier_at : Reader PlainName
plain_identifier_at = as_at name_here identifier_at

-- ---- numbers: digits, with or without a `-` at the beginning

abbrev pub digits_of : ℕ → ℕ × List ℕ → List ℕ
digits_of place x = x.0 ∷ x.1

abbrev pub numeral_at : Reader (List ℕ)
numeral_at = as_at digits_of (then_at (byte_at is_digit) (λ b. many_at (byte_at is_digit)))

abbrev pub signed : ℕ → List ℕ ⊎ List ℕ → List ℕ
signed place (inl digits) = 45 ∷ digits
signed place (inr digits) = digits

abbrev pub signed_at : Reader (List ℕ)
signed_at = as_at signed (or_at (behind_at (codes "-") numeral_at) numeral_at)

abbrev pub number_here : ℕ → List ℕ → PlainNumber
number_here place written = record { at = place; written = written }

abbrev pub number_at : Reader PlainNumber
number_at = as_at number_here signed_at

-- ---- texts in quotation marks; quotation marks inside are doubled

abbrev pub is_plain_byte : ℕ → Bool
is_plain_byte b = not (b == 34)

abbrev pub quoted_byte_at : Reader (ℕ ⊎ Unit {0})
quoted_byte_at = or_at (byte_at is_plain_byte) (word_at (codes "\"\""))

abbrev pub byte_of : ℕ ⊎ Unit {0} → ℕ
byte_of (inl b) = b
byte_of (inr x) = 34

abbrev pub bytes_of : ℕ → List (ℕ ⊎ Unit {0}) → List ℕ
bytes_of place xs = map byte_of xs

abbrev pub quoted_at : Reader (List ℕ)
quoted_at = as_at bytes_of (behind_at (codes "\"") (before_at (many_at quoted_byte_at) (codes "\"")))

-- ---- octets, each written as two hexadecimal digits

abbrev pub octet_at : Reader (ℕ × ℕ)
octet_at = then_at (byte_at is_hexadecimal_digit) (λ high. byte_at is_hexadecimal_digit)

abbrev pub octet_text : ℕ × ℕ → List ℕ
octet_text x = (x.0 ∷ []) ++ (x.1 ∷ [])

abbrev pub octets_of : ℕ → List (ℕ × ℕ) → List ℕ
octets_of place xs = each_written octet_text xs

abbrev pub octets_at : Reader (List ℕ)
octets_at = as_at octets_of (many_at octet_at)
