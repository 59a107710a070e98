-- The conditions on a simple type.
use Rattle.std.specs.Prelude.{◌≡◌, ℕ, ◌^◌, ◌<◌, ◌≤◌, Bool, true, false, ◌||◌, ◌≤ℤ◌, ℤ, Option, Some, None, List, [], ◌∷◌, length}
use Rattle.std.specs.List.{list_all}
use Rattle.std.specs.List.Sorted.{IsStrictlySortedBy}
use Rattle.std.specs.Ordering.{nat_cmp, int_cmp}
use Rattle.std.specs.Cmp.Lexicographic.{slice_cmp}
use Rattle.std.specs.Str.{chars}
use Rattle.base_texts.specs.declared.white_space.WhiteSpace.{WhiteSpace}
use Rattle.base_texts.specs.WhiteSpace.{IsTreated}
use Rattle.base_texts.specs.Characters.{is_xml_char}
use Rattle.simple_types.specs.Space.{Space, Spaces, none, more, Booleans, Wholes, Numbers, Words, Characters, ListOf, UnionOf, count_members}

-- The number is at least 1 and fits in 32 bits.
abbrev pub IsCounted : ℕ → Type 0
IsCounted n = (0 < n) × (n < 2 ^ 32)

abbrev pub AreBounds : Option ℤ → Option ℤ → Type 0
AreBounds (Some least) (Some greatest) = least ≤ℤ greatest
AreBounds _ _ = Unit {0}

abbrev pub AreSizes : ℕ → Option ℕ → Type 0
AreSizes least (Some most) = least ≤ most
AreSizes least None = Unit {0}

-- The text has only XML characters, and its own treatment leaves it unchanged.
abbrev pub IsWord : WhiteSpace → List ℕ → Type 0
IsWord how word = (list_all is_xml_char (chars word) ≡ true) × IsTreated how word

abbrev pub AreWords : WhiteSpace → List (List ℕ) → Type 0
AreWords how [] = Unit {0}
AreWords how (word ∷ words) = IsWord how word × AreWords how words

abbrev pub is_union : Space → Bool
is_union (UnionOf members) = true
is_union _ = false

abbrev mutual
  pub has_list : Space → Bool
  has_list (ListOf item least most) = true
  has_list (UnionOf members) = have_list members
  has_list _ = false

  pub have_list : Spaces → Bool
  have_list none = false
  have_list (more s ss) = has_list s || have_list ss

abbrev mutual
  pub Sound : Space → Type 0
  Sound Booleans = Unit {0}
  Sound (Wholes least greatest) = AreBounds least greatest
  Sound (Numbers numbers) = IsCounted (length numbers) × IsStrictlySortedBy int_cmp numbers
  Sound (Words how words) = IsCounted (length words) × IsStrictlySortedBy (slice_cmp nat_cmp) words × AreWords how words
  Sound (Characters how least most class) = AreSizes least most
  Sound (ListOf item least most) = Sound item × (has_list item ≡ false) × AreSizes least most
  Sound (UnionOf members) = IsCounted (count_members members) × AreSound members

  -- Each is sound, and none is a union.
  pub AreSound : Spaces → Type 0
  AreSound none = Unit {0}
  AreSound (more s ss) = Sound s × (is_union s ≡ false) × AreSound ss
