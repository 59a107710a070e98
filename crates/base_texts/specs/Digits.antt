-- Decimal digits and the numbers they denote (XML Schema Part 2, section 3.3.20).
use Rattle.std.specs.Prelude.{ℕ, Bool, ◌+◌, ◌-◌, ◌*◌, ◌&&◌, nat_le, List, [], ◌∷◌}
use Rattle.std.specs.List.{list_all}
use Rattle.base_texts.specs.WhiteSpace.{has_bytes}

abbrev pub is_digit : ℕ → Bool
is_digit b = nat_le 0x30 b && nat_le b 0x39

-- one digit or more
abbrev pub is_numeral : List ℕ → Bool
is_numeral text = has_bytes text && list_all is_digit text

-- The number whose decimal digits are those of n followed by these.
abbrev pub number_from : ℕ → List ℕ → ℕ
number_from n [] = n
number_from n (b ∷ bs) = number_from (10 * n + (b - 0x30)) bs

abbrev pub number_of : List ℕ → ℕ
number_of digits = number_from 0 digits
