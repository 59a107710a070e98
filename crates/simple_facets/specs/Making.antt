-- Lists and unions of simple types.
use Rattle.std.specs.Prelude.{◌≡◌, ℕ, ◌+◌, ◌≤◌, false, None, List, [], ◌∷◌, length}
use Rattle.std.specs.Borrow.{Bor}
use Rattle.simple_types.specs.declared.simples.Simple.{Simple}
use Rattle.simple_types.specs.Seen.{space_of}
use Rattle.simple_types.specs.Space.{Space, Spaces, none, more, Numbers, Words, ListOf, UnionOf, count_members}
use Rattle.simple_types.specs.Sound.{Sound, has_list}
use Rattle.simple_types.specs.Joining.{flattened}

-- The number of enumeration items. Those of a list's item type don't count.
abbrev pub count_items : Space → ℕ
count_items (Numbers numbers) = length numbers
count_items (Words how words) = length words
count_items _ = 0

abbrev pub count_all_items : Spaces → ℕ
count_all_items none = 0
count_all_items (more s ss) = count_items s + count_all_items ss

-- The limits of a union: at most 1,000 members and 10,000 enumeration items.
abbrev pub AreWithinLimits : Spaces → Type 0
AreWithinLimits members = (count_members members ≤ 1000) × (count_all_items members ≤ 10000)

abbrev pub AreEachSound : Spaces → Type 0
AreEachSound none = Unit {0}
AreEachSound (more s ss) = Sound s × AreEachSound ss

-- XML Schema Part 2, section 2.5.1.2: no list of lists
abbrev pub IsListOf : Space → Space → Type 0
IsListOf item made = (has_list item ≡ false) × (made ≡ ListOf item 0 None)

-- Section 2.5.1.3, where each inner union is replaced by its members.
abbrev pub IsUnionOf : Spaces → Space → Type 0
IsUnionOf members made = AreWithinLimits (flattened members) × (made ≡ UnionOf (flattened members))

-- ---- the values of the code

-- the spaces of types that are borrowed
abbrev pub lent_spaces : List (Bor Simple) → Spaces
lent_spaces [] = none
lent_spaces (m ∷ ms) = more (space_of m.now) (lent_spaces ms)
