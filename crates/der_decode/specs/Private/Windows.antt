-- Contents of a definite length, given by where they begin and end.
use Rattle.std.specs.Prelude.{◌≡◌, ℕ, List, take, Err}
use Rattle.base_trees.specs.Rose.{Rose}
use Rattle.simple_types.specs.declared.labels.ValueLabel.{ValueLabel}
use Rattle.base_codecs.specs.declared.spots.Spot.{Spot}
use Rattle.der_fields.specs.declared.stops.Stop.{Stop}
use Rattle.der_fields.specs.FieldsReading.{Octets, sized_at}

-- After the length at a spot there are contents from one octet to another.
abbrev pub IsWindow : List ℕ → Spot → ℕ → ℕ → Type 0
IsWindow X s at end = (contents : Octets (Rose ValueLabel)) → sized_at contents X s ≡ contents (take end X) (record { at = at; nodes = s.nodes })

-- There is no such length, or the contents don't fit.
abbrev pub HasNoWindow : List ℕ → Spot → Stop → Type 0
HasNoWindow X s stop = (contents : Octets (Rose ValueLabel)) → sized_at contents X s ≡ Err stop
