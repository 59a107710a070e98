-- The spaces of simple types: the values of a type, and how its texts are read (XML Schema Part 2, section 2).
use Rattle.std.specs.Prelude.{ℕ, suc, ◌+◌, ℤ, Option, List, [], ◌∷◌}
use Rattle.base_texts.specs.declared.white_space.WhiteSpace.{WhiteSpace}
use Rattle.simple_types.specs.declared.simples.Class.{Class}

mutual
  pub data Space : Type 0 where
    -- the two truth values
    Booleans : Space
    -- the whole numbers of 128 bits from a least to a greatest
    Wholes : Option ℤ → Option ℤ → Space
    -- a list of whole numbers
    Numbers : List ℤ → Space
    -- a list of texts, and the treatment of a text before it is compared
    Words : WhiteSpace → List (List ℕ) → Space
    -- the texts in a class with a number of code points within the bounds, and the treatment of a text before it is read
    Characters : WhiteSpace → ℕ → Option ℕ → Class → Space
    -- the lists with a number of items within the bounds
    ListOf : Space → ℕ → Option ℕ → Space
    -- the union of these spaces
    UnionOf : Spaces → Space

  pub data Spaces : Type 0 where
    none : Spaces
    more : Space → Spaces → Spaces

abbrev pub count_members : Spaces → ℕ
count_members none = 0
count_members (more s ss) = suc (count_members ss)

abbrev pub members_of : Spaces → List Space
members_of none = []
members_of (more s ss) = s ∷ members_of ss

-- The number of spaces that a space is made of.
abbrev mutual
  pub count_parts : Space → ℕ
  count_parts (ListOf item least most) = suc (count_parts item)
  count_parts (UnionOf members) = suc (count_all_parts members)
  count_parts _ = 1

  pub count_all_parts : Spaces → ℕ
  count_all_parts none = 0
  count_all_parts (more s ss) = count_parts s + count_all_parts ss
