-- How a name of ASN.1 is made from a name of XML, after ITU-T X.694. Both are lists of code points.
use Rattle.std.specs.Prelude.{ℕ, ◌==◌, ◌||◌, List, [], ◌∷◌, filter, Option, Some, None, if◌then◌else◌}
use Rattle.std.specs.List.{slice_split, join_with_byte, filter_map}
use Rattle.std.specs.Char.{is_ascii_digit, to_ascii_uppercase, to_ascii_lowercase}
use Rattle.base_texts.specs.Characters.{in_ranges}
use Rattle.base_texts.specs.WhiteSpace.{has_bytes}
use Rattle.asn_names.specs.declared.conversion.NameKind.{NameKind}
use Rattle.asn_names.specs.declared.conversion.NameKind.TheVariants.{Reference, Identifier}

-- `A` to `Z`, `a` to `z`, `0` to `9`
abbrev pub letters_and_digits : List (ℕ × ℕ)
letters_and_digits = (0x41, 0x5A) ∷ (0x61, 0x7A) ∷ (0x30, 0x39) ∷ []

-- What is kept of a character. A letter or a digit is kept as it is. A space, a full stop, a low line and a hyphen each give a
-- hyphen.
unfoldable pub kept : ℕ → Option ℕ
kept c = if c == 0x20 || c == 0x2E || c == 0x5F || c == 0x2D then Some 0x2D else if in_ranges letters_and_digits c then Some c else None

-- The characters kept, with one hyphen for each run of hyphens, and none at the beginning or the end.
abbrev pub joined : List ℕ → List ℕ
joined cs = join_with_byte 0x2D (filter has_bytes (slice_split (λ c. c == 0x2D) (filter_map kept cs)))

-- `X` for a reference, `x` for an identifier
abbrev pub letter_x : NameKind → ℕ
letter_x Reference = 0x58
letter_x Identifier = 0x78

-- The first letter of a reference is raised, and that of an identifier is lowered.
abbrev pub cased : NameKind → ℕ → ℕ
cased Reference c = to_ascii_uppercase c
cased Identifier c = to_ascii_lowercase c

-- The characters, made to begin with a letter: `X` or `x` is written for an empty list and before a digit.
abbrev pub begun : NameKind → List ℕ → List ℕ
begun kind [] = letter_x kind ∷ []
begun kind (c ∷ cs) = if is_ascii_digit c then letter_x kind ∷ c ∷ cs else cased kind c ∷ cs

unfoldable pub converted : NameKind → List ℕ → List ℕ
converted kind cs = begun kind (joined cs)
