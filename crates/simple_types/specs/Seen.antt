-- The space that a simple type represents.
use Rattle.std.specs.Prelude.{List, [], ◌∷◌}
use Rattle.simple_types.specs.Space.{Space, Spaces, none, more, Booleans, Wholes, Numbers, Words, Characters, ListOf, UnionOf}
use Rattle.simple_types.specs.declared.simples.Simple as made
use Rattle.simple_types.specs.declared.simples.Simple.{Simple, Row_of-Simple, end_of-Simple, more_of-Simple}
use Rattle.simple_types.specs.declared.simples.SimpleList.{SimpleList}

unfoldable mutual
  pub space_of : Simple → Space
  space_of made.Bool = Booleans
  space_of (made.Whole least greatest) = Wholes least greatest
  space_of (made.Numbers numbers) = Numbers numbers
  space_of (made.Words how words) = Words how words
  space_of (made.Chars how least most class) = Characters how least most class
  space_of (made.List' place item least most) = ListOf (space_of item) least most
  space_of (made.Union' shape row) = UnionOf (spaces_of_row row)

  pub spaces_of_row : {m : _} → Row_of-Simple m → Spaces
  spaces_of_row end_of-Simple = none
  spaces_of_row (more_of-Simple s rest) = more (space_of s) (spaces_of_row rest)

abbrev pub spaces_in : List Simple → Spaces
spaces_in [] = none
spaces_in (s ∷ ss) = more (space_of s) (spaces_in ss)

abbrev pub spaces_of : SimpleList → Spaces
spaces_of list = spaces_in list.entries.items
