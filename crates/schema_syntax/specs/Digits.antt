-- Numbers of occurrences in digits (XML Schema Part 2, section 3.3.20).
use Rattle.std.specs.Prelude.{◌==◌, ℕ, Bool, ◌&&◌, not, nat_le, nat_lt, List, Option, Some, None, if◌then◌else◌}
use Rattle.std.specs.List.{list_all}
use Rattle.base_texts.specs.Digits.{is_numeral, number_of}
use Rattle.base_texts.specs.Limits.{is_empty}

abbrev pub is_zero : List ℕ → Bool
is_zero text = not (is_empty text) && list_all (λ b. b == 48) text

-- The number, if it is below 2^32.
abbrev pub small : ℕ → Option ℕ
small n = if nat_lt n 4294967296 then Some n else None

abbrev pub is_large : List ℕ → Bool
is_large text = is_numeral text && nat_le 4294967296 (number_of text)

-- Both are numbers, and the first is greater.
abbrev pub is_over : List ℕ → List ℕ → Bool
is_over a b = is_numeral a && is_numeral b && nat_lt (number_of b) (number_of a)
