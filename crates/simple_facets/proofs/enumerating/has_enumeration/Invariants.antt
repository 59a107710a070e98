use Rattle.std.proofs.Common.{◌≡◌, drop}
use Rattle.simple_facets.specs.Restricting.{items_of}
use Rattle.simple_facets.proofs.enumerating.has_enumeration.Given as goal

abbrev pub invariant-facets : goal.invariant-facets
invariant-facets l = items_of l.facets ≡ items_of (drop l.facet-index l.facets)
