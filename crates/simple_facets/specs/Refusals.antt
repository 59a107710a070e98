-- The reasons why a type can't be restricted.
use Rattle.std.specs.Prelude.{Option, Some, None}
use Rattle.simple_facets.specs.declared.refusals.FacetWhy.{FacetWhy}
use Rattle.simple_facets.specs.declared.refusals.FacetError.{FacetError}
use Rattle.simple_facets.specs.declared.refusals.FacetError.TheVariants as error

-- The reason that an error gives. An allocation failure gives none.
abbrev pub why_of : FacetError → Option FacetWhy
why_of (error.Refused why) = Some why
why_of error.Memory = None
