use Rattle.std.proofs.Common.{◌≡◌, drop}
use Rattle.simple_types.specs.Seen.{space_of}
use Rattle.simple_facets.specs.Restricting.{each_item, number_item, items_of}
use Rattle.simple_facets.proofs.Enumerations.{behind_items}
use Rattle.simple_facets.proofs.enumerating.number_items.Given as goal

abbrev pub invariant-facets : goal.invariant-facets
invariant-facets l =
    each_item (number_item (space_of l.now)) (items_of l.facets) ≡ behind_items l.items.items (each_item (number_item (space_of l.now)) (items_of (drop l.facet-index l.facets)))
