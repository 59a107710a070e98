-- What a simple type stands for, from its parts.
use Rattle.std.proofs.Common.{◌≡◌, ap, ◌∙◌, refl, List, Box, Global}
use Rattle.simple_types.specs.declared.facets.Facet.{Facet}
use Rattle.schema_components.specs.Raw.{Named, Inner, Restrict, ListOf, UnionOf, more}
use Rattle.schema_components.specs.declared.simple_definitions.RawRef.{RawRef}
use Rattle.schema_components.specs.declared.simple_definitions.RawBase.{RawBase}
use Rattle.schema_components.specs.declared.simple_definitions.RawBase.TheVariants as base
use Rattle.schema_components.specs.declared.simple_definitions.RawBases.{RawBases}
use Rattle.schema_components.specs.declared.simple_definitions.RawHow.{Row_of-RawBase, end_of-RawBase, more_of-RawBase, items-the_row-RawBase, items_hidden-the_row-RawBase-0}
use Rattle.schema_components.specs.declared.simple_definitions.RawBase.TheBlock.{hidden-the_row-RawBase-0}
use Rattle.schema_components.specs.declared.simple_definitions.RawHow.TheVariants as how
use Rattle.schema_components.specs.declared.simple_definitions.RawSimple.{RawSimple}
use Rattle.schema_components.specs.Seen.{base_of, how_of, bases_of_row, bases_of, bases_in}

pub named_base : (reference : RawRef) → base_of (base.Named reference) ≡ Named reference
unfolding base_of how_of bases_of_row
named_base reference = refl

pub inner_base : (body : Box RawSimple Global) → base_of (base.Inner body) ≡ Inner body.value.at body.value.body_at (how_of body.value.how)
unfolding base_of how_of bases_of_row
inner_base body = refl

pub restriction : (b : RawBase) (facets : List Facet) → how_of (how.Restrict b facets) ≡ Restrict (base_of b) facets
unfolding base_of how_of bases_of_row
restriction b facets = refl

pub list_of_items : (item : RawBase) → how_of (how.List item) ≡ ListOf (base_of item)
unfolding base_of how_of bases_of_row
list_of_items item = refl

row_bases : {n : _} (row : Row_of-RawBase n) → bases_of_row row ≡ bases_in (items-the_row-RawBase n row)
unfolding base_of how_of bases_of_row
row_bases end_of-RawBase = refl
row_bases (more_of-RawBase b rest) = ap (more (base_of b)) (row_bases rest)

pub union : (members : RawBases) → how_of (how.Union members) ≡ UnionOf (bases_of members)
unfolding base_of how_of bases_of_row
union members = ap UnionOf (row_bases (hidden-the_row-RawBase-0 members.entries) ∙ ap bases_in (items_hidden-the_row-RawBase-0 members.entries))
