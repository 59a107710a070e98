-- The names of reasons, and their order.
use Rattle.std.specs.Prelude.{ℕ, List, ◌++◌, codes}
use Rattle.simple_facets.specs.declared.refusals.FacetWhy.{FacetWhy}
use Rattle.simple_facets.specs.declared.refusals.FacetWhy.TheVariants as facet
use Rattle.simple_facets.specs.Reasons.{facet_reason}
use Rattle.link_names.specs.declared.faults.LinkWhy.{LinkWhy}
use Rattle.link_names.specs.declared.faults.LinkWhy.TheVariants as link

-- The name of a reason against several files as one set.
abbrev pub link_reason : LinkWhy → List ℕ
link_reason link.Limit = codes "Limit"
link_reason link.Duplicate = codes "Duplicate"
link_reason link.Unresolved = codes "Unresolved"
link_reason link.ComplexBase = codes "ComplexBase"
link_reason link.CircularType = codes "CircularType"
link_reason (link.Facet reason) = codes "Facet " ++ facet_reason reason
link_reason link.BadItem = codes "BadItem"
link_reason link.BadDefault = codes "BadDefault"
link_reason link.FixedDiffers = codes "FixedDiffers"
link_reason link.DuplicateUse = codes "DuplicateUse"
link_reason link.TypesDiffer = codes "TypesDiffer"
link_reason link.NotClear = codes "NotClear"

-- The name without its first word, if it is that of a facet's reason; else the name.
abbrev pub own_name : LinkWhy → List ℕ
own_name (link.Facet reason) = facet_reason reason
own_name why = link_reason why

-- The ranks of reasons are distinct, so of two faults that differ one precedes the other.
abbrev pub rank_of_facet : FacetWhy → ℕ
rank_of_facet facet.Misplaced = 5
rank_of_facet facet.Widens = 6
rank_of_facet facet.NotInBase = 7
rank_of_facet facet.EmptySpace = 8
rank_of_facet facet.BadNumber = 9
rank_of_facet facet.TooWide = 10

abbrev pub rank_of : LinkWhy → ℕ
rank_of link.Limit = 0
rank_of link.Duplicate = 1
rank_of link.Unresolved = 2
rank_of link.ComplexBase = 3
rank_of link.CircularType = 4
rank_of (link.Facet reason) = rank_of_facet reason
rank_of link.BadItem = 11
rank_of link.BadDefault = 12
rank_of link.FixedDiffers = 13
rank_of link.DuplicateUse = 14
rank_of link.TypesDiffer = 15
rank_of link.NotClear = 16
