-- Pieces of the notation of ASN.1 (X.680): quoted texts, numbers, constraints, and lists in braces.
use Rattle.std.specs.Prelude.{◌==◌, ℕ, zero, suc, ◌+◌, ◌/◌, ◌%◌, nat_lt, ℤ, pos, Option, Some, None, List, [], ◌∷◌, ◌++◌, map, codes, if◌then◌else◌}
use Rattle.std.specs.List.{flat_map, join_with_byte}
use Rattle.std.specs.Option.{option_map}
use Rattle.std.specs.Fmt.{signed_decimal}
use Rattle.std.specs.Ordering.{int_eq}
use Rattle.simple_types.specs.declared.simples.Class.{Class}
use Rattle.simple_types.specs.declared.simples.Class.TheVariants.{Any, Language, NmToken, Name, NcName}
use Rattle.simple_types.specs.declared.standards.Standard.{Standard}
use Rattle.simple_types.specs.declared.standards.Standard.TheVariants.{Free, Default, Fixed}

-- ---- texts (cstring, clause 12.14)

-- A quotation mark inside a text is doubled.
abbrev pub doubled : ℕ → List ℕ
doubled byte = if byte == 34 then 34 ∷ 34 ∷ [] else byte ∷ []

abbrev pub quoted : List ℕ → List ℕ
quoted text = 34 ∷ flat_map doubled text ++ 34 ∷ []

-- ---- octets (hstring, clause 12.12)

-- The digit of a number below 16, from 0 to 9 and from A to F.
abbrev pub hexadecimal_digit : ℕ → ℕ
hexadecimal_digit number = if nat_lt number 10 then 48 + number else 55 + number

abbrev pub both_digits : ℕ → List ℕ
both_digits octet = hexadecimal_digit (octet / 16) ∷ hexadecimal_digit (octet % 16) ∷ []

abbrev pub hexadecimal : List ℕ → List ℕ
hexadecimal octets = flat_map both_digits octets

-- ---- constraints

-- The end of a range, which is open if there is no bound.
abbrev pub end_of : List ℕ → Option ℤ → List ℕ
end_of open_end (Some z) = signed_decimal z
end_of open_end None = open_end

-- The numbers from one to another (clause 51.4). MIN and MAX are the open ends.
abbrev pub from_to : Option ℤ → Option ℤ → List ℕ
from_to least greatest = end_of (codes "MIN") least ++ codes ".." ++ end_of (codes "MAX") greatest

-- A range, or one number if both ends are equal.
abbrev pub range : Option ℤ → Option ℤ → List ℕ
range (Some a) (Some b) = if int_eq a b then signed_decimal a else from_to (Some a) (Some b)
range least greatest = from_to least greatest

-- The constraint after INTEGER. All numbers need no constraint.
abbrev pub number_range : Option ℤ → Option ℤ → List ℕ
number_range None None = []
number_range least greatest = codes " (" ++ range least greatest ++ codes ")"

-- The number of characters or items, in parentheses (clause 51.5).
abbrev pub size : ℕ → Option ℕ → List ℕ
size least most = codes " (SIZE (" ++ range (Some (pos least)) (option_map pos most) ++ codes "))"

-- Any number of them needs no constraint.
abbrev pub size_range : ℕ → Option ℕ → List ℕ
size_range zero None = []
size_range least most = size least most

-- The texts of a class, as a comment in a user-defined constraint (X.682, clause 9).
abbrev pub commented : List ℕ → List ℕ
commented name = codes " (CONSTRAINED BY {/* " ++ name ++ codes " */})"

abbrev pub class_range : Class → List ℕ
class_range Any = []
class_range Language = commented (codes "language")
class_range NmToken = commented (codes "NMTOKEN")
class_range Name = commented (codes "Name")
class_range NcName = commented (codes "NCName")

-- A fixed value is also such a comment, so its type has the encodings of the type without it.
abbrev pub fixed_range : Standard → List ℕ
fixed_range Free = []
fixed_range (Default text) = []
fixed_range (Fixed text) = commented (codes "fixed " ++ hexadecimal text)

-- ---- lists in braces

-- A comma before each item except the first.
abbrev pub comma : ℕ → List ℕ
comma zero = []
comma (suc i) = 44 ∷ []

-- Items with a comma between each two, and with one text before each.
abbrev pub listed : List ℕ → List (List ℕ) → List ℕ
listed before items = join_with_byte 44 (map (λ item. before ++ item) items)

-- Items on one line.
abbrev pub enumerated : List (List ℕ) → List ℕ
enumerated items = codes "ENUMERATED {" ++ listed (codes " ") items ++ codes " }"

-- The indentation of a line at this level, with four spaces for each level.
abbrev pub indent : ℕ → List ℕ
indent zero = []
indent (suc levels) = codes "    " ++ indent levels

abbrev pub new_line : ℕ → List ℕ
new_line levels = 10 ∷ indent levels

-- Parts on lines of their own, one level more than the line of the opening brace. The closing brace follows them, on the level of
-- that line.
abbrev pub block : ℕ → List (List ℕ) → List ℕ
block levels [] = codes "{}"
block levels (part ∷ parts) = codes "{" ++ listed (new_line (suc levels)) (part ∷ parts) ++ new_line levels ++ codes "}"
