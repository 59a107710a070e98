-- The space of a simple type, from its parts.
use Rattle.std.proofs.Common.{◌≡◌, ap, ◌∙◌, sym, refl, ℕ, List, Option, Box, Global}
use Rattle.simple_types.specs.Space.{more, ListOf, UnionOf}
use Rattle.simple_types.specs.declared.simples.Simple.{Simple, Row_of-Simple, end_of-Simple, more_of-Simple, items-the_row-Simple, items_hidden-the_row-Simple-0}
use Rattle.simple_types.specs.declared.simples.Simple.TheBlock.{hidden-the_row-Simple-0}
use Rattle.simple_types.specs.declared.simples.Simple.TheVariants as variant
use Rattle.simple_types.specs.declared.simples.SimpleList.{SimpleList}
use Rattle.simple_types.specs.Seen.{space_of, spaces_of_row, spaces_of, spaces_in}

row_spaces : {n : _} (row : Row_of-Simple n) → spaces_of_row row ≡ spaces_in (items-the_row-Simple n row)
unfolding space_of spaces_of_row
row_spaces end_of-Simple = refl
row_spaces (more_of-Simple s rest) = ap (more (space_of s)) (row_spaces rest)

pub union_space : (list : SimpleList) → space_of (variant.Union list) ≡ UnionOf (spaces_of list)
unfolding space_of spaces_of_row
union_space list = ap UnionOf (row_spaces (hidden-the_row-Simple-0 list.entries) ∙ ap spaces_in (items_hidden-the_row-Simple-0 list.entries))

pub list_space : (item : Box Simple Global) (least : ℕ) (most : Option ℕ) → space_of (variant.List item least most) ≡ ListOf (space_of item.value) least most
unfolding space_of spaces_of_row
list_space item least most = refl

-- and where a list of types is lent
pub union_is : (s : Simple) (list : SimpleList) (members : List Simple) → s ≡ variant.Union list → spaces_in members ≡ spaces_of list → space_of s ≡ UnionOf (spaces_in members)
union_is s list members is lent = ap space_of is ∙ union_space list ∙ ap UnionOf (sym lent)

pub list_is : (s : Simple) (held : Box Simple Global) (least : ℕ) (most : Option ℕ) (item : Simple) → s ≡ variant.List held least most → item ≡ held.value
    → space_of s ≡ ListOf (space_of item) least most
list_is s held least most item is lent = ap space_of is ∙ list_space held least most ∙ ap (λ i. ListOf (space_of i) least most) (sym lent)
