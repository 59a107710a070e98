-- What the code knows of the places of the children of a value.
use Rattle.std.specs.Prelude.{◌≡◌, ℕ, length, List, [], ◌∷◌, map, replicate, Option, Some, None}
use Rattle.base_trees.specs.Rose.{Rose, Roses, roses_of, label_of, kids_of}
use Rattle.simple_types.specs.declared.labels.ValueLabel.{ValueLabel}
use Rattle.asn_types.specs.declared.types.TypeLabel.{TypeLabel}
use Rattle.asn_values.specs.declared.places.ComponentPlace.{ComponentPlace}
use Rattle.asn_values.specs.declared.places.Places.{Places}
use Rattle.asn_values.specs.declared.places.Places.TheVariants.{Each, All}
use Rattle.asn_types.specs.declared.modules.Assignment.{Assignment}
use Rattle.asn_values.specs.Values as values

abbrev pub place_seen : ComponentPlace → values.ComponentPlace
place_seen place = record { role = place.role; part = place.part.now; type = place.node.now }

-- The places of a value with n children.
abbrev pub places_seen : ℕ → Places → List values.ComponentPlace
places_seen n (Each places) = map place_seen places.items
places_seen n (All place) = replicate n (place_seen place)

-- The places found are those that the rules give, and none are found if and only if the rules give none.
abbrev pub Found : ℕ → Option Places → Option (List values.ComponentPlace) → Type 0
Found n None due = due ≡ None
Found n (Some places) due = due ≡ Some (places_seen n places)

module _ (M : List Assignment) where
  abbrev pub FitPlaces : ℕ → Option (List values.ComponentPlace) → Roses ValueLabel → Type 0
  FitPlaces depth o vs = elim o [ None ↦ ⊥ | Some places ↦ values.FitEach M depth places vs ]

  -- The children of a value fit their places in the type, which is not a reference.
  abbrev pub FitKids : ℕ → Rose TypeLabel → Rose ValueLabel → Type 0
  FitKids depth t v = FitPlaces depth (values.places t (label_of v) (length (kids_of v))) (roses_of (kids_of v))
