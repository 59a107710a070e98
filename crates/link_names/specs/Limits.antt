-- The limit on the number of components of a set of documents.
use Rattle.std.specs.Prelude.{List, [], ◌∷◌, map, Option, Some, None, slice_get}
use Rattle.std.specs.List.{flat_map}
use Rattle.schema_components.specs.Raw.{Document}
use Rattle.link_names.specs.declared.places.Place.{Place}
use Rattle.link_names.specs.declared.faults.LinkingFault.{LinkingFault}
use Rattle.link_names.specs.declared.faults.LinkWhy.TheVariants.{Limit}
use Rattle.link_names.specs.Order.{place, fault}

-- The places of the counted components, in the order in which the documents are given, and in each in the order written.
abbrev pub counted_places : List Document → List Place
counted_places docs = flat_map (λ d. map (place d.file) d.counted) docs

abbrev pub limit_at : Option Place → List LinkingFault
limit_at None = []
limit_at (Some p) = fault Limit p ∷ []

-- The fault of the component after the first 10,000.
abbrev pub beyond_limit : List Document → List LinkingFault
beyond_limit docs = limit_at (slice_get (counted_places docs) 10000)
