use Rattle.std.proofs.Common.{◌≡◌, drop}
use Rattle.simple_types.specs.Seen.{space_of}
use Rattle.simple_facets.specs.Restricting.{no_constraints, with_facets}
use Rattle.simple_facets.proofs.constraints.Constraints.of.Given as goal

abbrev pub invariant-facets : goal.invariant-facets
invariant-facets l = with_facets (space_of l.base) no_constraints l.facets ≡ with_facets (space_of l.base) l.asked (drop l.facet-index l.facets)
