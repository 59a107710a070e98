-- The names of reasons.
use Rattle.std.specs.Prelude.{ℕ, List, codes}
use Rattle.simple_facets.specs.declared.refusals.FacetWhy.{FacetWhy}
use Rattle.simple_facets.specs.declared.refusals.FacetWhy.TheVariants as facet

-- the name of a reason against facets
abbrev pub facet_reason : FacetWhy → List ℕ
facet_reason facet.Misplaced = codes "Misplaced"
facet_reason facet.Widens = codes "Widens"
facet_reason facet.NotInBase = codes "NotInBase"
facet_reason facet.EmptySpace = codes "EmptySpace"
facet_reason facet.BadNumber = codes "BadNumber"
facet_reason facet.TooWide = codes "TooWide"
