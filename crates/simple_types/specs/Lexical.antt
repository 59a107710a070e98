-- The texts of truth values, whole numbers and names, and their one canonical spelling, by XML Schema Part 2. A text is the list
-- of its bytes after its white space was treated.
use Rattle.std.specs.Prelude.{ℕ, Bool, true, false, ◌&&◌, ◌||◌, nat_le, nat_lt, ◌==◌, ◌^◌, ℤ, pos, negsuc, Option, Some, None, List, [], ◌∷◌, length, take, codes, if◌then◌else◌}
use Rattle.std.specs.Prelude.{int_le}
use Rattle.std.specs.List.{list_all, slice_split, position_or_len}
use Rattle.std.specs.Str.{chars}
use Rattle.std.specs.Str.Parse.{without_leading_sign, signed_digits_value}
use Rattle.base_texts.specs.WhiteSpace.{has_bytes}
use Rattle.base_texts.specs.Digits.{is_digit, is_numeral}
use Rattle.base_texts.specs.Entries.{beside}
use Rattle.base_texts.specs.Characters.{is_name_char, is_name, is_ncname}
use Rattle.simple_types.specs.declared.simples.Class.{Class}
use Rattle.simple_types.specs.declared.simples.Class.TheVariants.{Any, Language, NmToken, Name, NcName}

-- section 3.2.2.1: the texts of a boolean
abbrev pub boolean_texts : List (List ℕ × Bool)
boolean_texts = (codes "true", true) ∷ (codes "1", true) ∷ (codes "false", false) ∷ (codes "0", false) ∷ []

abbrev pub boolean_of : List ℕ → Option Bool
boolean_of text = beside text boolean_texts

-- section 3.2.2.2: the canonical ones
abbrev pub boolean_text : Bool → List ℕ
boolean_text true = codes "true"
boolean_text false = codes "false"

-- Section 3.3.13.1: an optional sign and a numeral. The profile accepts a sign for the unsigned types too. The canonical text of
-- a number, by section 3.3.13.2, is its `signed_decimal`: no `+`, no unnecessary zero, no sign of zero.
unfoldable pub whole_number : List ℕ → Option ℤ
whole_number text = if is_numeral (without_leading_sign text) then Some (signed_digits_value 10 text) else None

-- the numbers of 128 bits
abbrev pub is_128_bits : ℤ → Bool
is_128_bits (pos n) = nat_lt n (2 ^ 127)
is_128_bits (negsuc n) = nat_lt n (2 ^ 127)

abbrev pub is_letter : ℕ → Bool
is_letter c = (nat_le 0x41 c && nat_le c 0x5A) || (nat_le 0x61 c && nat_le c 0x7A)

abbrev pub is_hyphen : ℕ → Bool
is_hyphen b = b == 0x2D

-- one to eight letters or digits
abbrev pub is_subtag : List ℕ → Bool
is_subtag text = nat_le 1 (length text) && nat_le (length text) 8 && list_all (λ b. is_letter b || is_digit b) text

-- section 3.3.3: subtags between hyphens, the first of letters only
abbrev pub is_language : List ℕ → Bool
is_language text = list_all is_subtag (slice_split is_hyphen text) && list_all is_letter (take (position_or_len is_hyphen text) text)

-- section 3.3.4: one name character or more
abbrev pub is_nmtoken : List ℕ → Bool
is_nmtoken text = has_bytes text && list_all is_name_char (chars text)

-- sections 3.3.3 to 3.3.7
unfoldable pub in_class : Class → List ℕ → Bool
in_class Any text = true
in_class Language text = is_language text
in_class NmToken text = is_nmtoken text
in_class Name text = is_name (chars text)
in_class NcName text = is_ncname (chars text)

-- The number is at least the least and at most the greatest, each if there is one.
abbrev pub is_from : Option ℤ → ℤ → Bool
is_from None z = true
is_from (Some least) z = int_le least z

abbrev pub is_to : Option ℤ → ℤ → Bool
is_to None z = true
is_to (Some greatest) z = int_le z greatest

-- The size is at most the greatest, if there is one.
abbrev pub is_at_most : ℕ → Option ℕ → Bool
is_at_most n None = true
is_at_most n (Some most) = nat_le n most
