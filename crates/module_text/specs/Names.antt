-- The names and the numbers of the plain grammar.
use Rattle.std.specs.Prelude.{ℕ, ◌==◌, Bool, true, false, ◌&&◌, ◌||◌, not, nat_le, List, [], ◌∷◌, codes, bytes_eq, if◌then◌else◌}
use Rattle.base_texts.specs.Digits.{is_digit, is_numeral}

abbrev pub is_capital : ℕ → Bool
is_capital b = nat_le 0x41 b && nat_le b 0x5A

abbrev pub is_small : ℕ → Bool
is_small b = nat_le 0x61 b && nat_le b 0x7A

abbrev pub is_letter_or_digit : ℕ → Bool
is_letter_or_digit b = is_capital b || is_small b || is_digit b

-- The rest of a name: letters, digits and single hyphens, without a hyphen at the end. `hyphen` states whether a hyphen precedes
-- it.
abbrev pub goes_on : Bool → List ℕ → Bool
goes_on hyphen [] = not hyphen
goes_on hyphen (b ∷ bs) = if b == 0x2D then not hyphen && goes_on true bs else is_letter_or_digit b && goes_on false bs

-- X.680, clause 12.2: a capital letter, followed by letters, digits and single hyphens, without a hyphen at the end.
abbrev pub is_reference : List ℕ → Bool
is_reference [] = false
is_reference (b ∷ bs) = is_capital b && goes_on false bs

-- X.680, clause 12.3: a small letter, followed by letters, digits and single hyphens, without a hyphen at the end.
abbrev pub is_identifier : List ℕ → Bool
is_identifier [] = false
is_identifier (b ∷ bs) = is_small b && goes_on false bs

-- Decimal digits, with or without a `-` at the beginning.
abbrev pub is_number : List ℕ → Bool
is_number [] = false
is_number (b ∷ bs) = if b == 0x2D then is_numeral bs else is_numeral (b ∷ bs)

-- `0` to `9` and `A` to `F`.
abbrev pub is_hexadecimal_digit : ℕ → Bool
is_hexadecimal_digit b = is_digit b || (nat_le 0x41 b && nat_le b 0x46)

-- X.680, clause 12.12: two digits for each octet.
abbrev pub are_octets : List ℕ → Bool
are_octets [] = true
are_octets (high ∷ []) = false
are_octets (high ∷ low ∷ digits) = is_hexadecimal_digit high && is_hexadecimal_digit low && are_octets digits

-- The word is a type by itself, so it is not a reference.
abbrev pub is_type_word : List ℕ → Bool
is_type_word word = bytes_eq word (codes "BOOLEAN") || bytes_eq word (codes "INTEGER") || bytes_eq word (codes "UTF8String")
