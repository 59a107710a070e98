-- Characters and names, by XML 1.0 (fifth edition) and Namespaces in XML 1.0. A character is its code point.
use Rattle.std.specs.Prelude.{ℕ, Bool, false, ◌&&◌, ◌||◌, not, ◌==◌, nat_le, List, [], ◌∷◌}
use Rattle.std.specs.List.{list_all}

-- whether a range, given by its first and its last code point, has the code point
abbrev pub in_ranges : List (ℕ × ℕ) → ℕ → Bool
in_ranges [] c = false
in_ranges (range ∷ ranges) c = (nat_le range.0 c && nat_le c range.1) || in_ranges ranges c

-- XML 1.0, production [2] Char
abbrev pub xml_chars : List (ℕ × ℕ)
xml_chars = (0x9, 0xA) ∷ (0xD, 0xD) ∷ (0x20, 0xD7FF) ∷ (0xE000, 0xFFFD) ∷ (0x10000, 0x10FFFF) ∷ []

-- XML 1.0, production [4] NameStartChar: the colon, `A` to `Z`, `_`, `a` to `z`, and those beyond ASCII
abbrev pub name_starts : List (ℕ × ℕ)
name_starts =
    (0x3A, 0x3A) ∷ (0x41, 0x5A) ∷ (0x5F, 0x5F) ∷ (0x61, 0x7A)
    ∷ (0xC0, 0xD6) ∷ (0xD8, 0xF6) ∷ (0xF8, 0x2FF) ∷ (0x370, 0x37D) ∷ (0x37F, 0x1FFF) ∷ (0x200C, 0x200D)
    ∷ (0x2070, 0x218F) ∷ (0x2C00, 0x2FEF) ∷ (0x3001, 0xD7FF) ∷ (0xF900, 0xFDCF) ∷ (0xFDF0, 0xFFFD) ∷ (0x10000, 0xEFFFF)
    ∷ []

-- XML 1.0, production [4a] NameChar, the characters it adds to NameStartChar: `-`, `.`, `0` to `9`, and those beyond ASCII
abbrev pub further_name_chars : List (ℕ × ℕ)
further_name_chars = (0x2D, 0x2D) ∷ (0x2E, 0x2E) ∷ (0x30, 0x39) ∷ (0xB7, 0xB7) ∷ (0x300, 0x36F) ∷ (0x203F, 0x2040) ∷ []

unfoldable pub is_xml_char : ℕ → Bool
is_xml_char c = in_ranges xml_chars c

unfoldable pub is_name_start : ℕ → Bool
is_name_start c = in_ranges name_starts c

unfoldable pub is_name_char : ℕ → Bool
is_name_char c = in_ranges name_starts c || in_ranges further_name_chars c

-- XML 1.0, production [5] Name: a name start, and then name characters
abbrev pub is_name : List ℕ → Bool
is_name [] = false
is_name (c ∷ cs) = is_name_start c && list_all is_name_char cs

-- Namespaces in XML 1.0, production [4] NCName: a Name without a colon
abbrev pub is_ncname : List ℕ → Bool
is_ncname cs = is_name cs && list_all (λ c. not (c == 0x3A)) cs
