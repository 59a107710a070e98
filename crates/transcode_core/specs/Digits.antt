-- Octets in hexadecimal digits.
use Rattle.std.specs.Prelude.{ℕ, ◌+◌, ◌/◌, ◌%◌, List, [], ◌∷◌, nat_lt, if◌then◌else◌}

-- the character of a number below 16: `0` to `9`, then `a` to `f`
abbrev pub digit : ℕ → ℕ
digit number = if nat_lt number 10 then 48 + number else 87 + number

-- the two digits of an octet, the higher first: those of 175 are `af`
abbrev pub both_digits : ℕ → List ℕ
both_digits octet = digit (octet / 16) ∷ digit (octet % 16) ∷ []
