-- Reading octets, compared with what the definitions read of them.
use Rattle.std.specs.Prelude.{◌≡◌, ℕ, ◌+◌, Bool, Option, List, take, Result, Ok, Err}
use Rattle.base_trees.specs.Rose.{Rose}
use Rattle.simple_types.specs.declared.labels.ValueLabel.{ValueLabel}
use Rattle.base_codecs.specs.declared.spots.Spot.{Spot}
use Rattle.base_codecs.specs.Reading.{entered_at}
use Rattle.der_fields.specs.declared.stops.Stop.{Stop}
use Rattle.der_fields.specs.FieldsReading.{Octets, sized_at, tagged_at, expected_at}
use Rattle.der_fields.specs.Reading.{is_over, over, flags_of, those_of}
use Rattle.der_decode.specs.declared.errors.DecodeError.{DecodeError}
use Rattle.der_decode.specs.declared.errors.DecodeError.TheVariants as error
use Rattle.der_decode.specs.declared.faults.DerEnd.{DerEnd}
use Rattle.der_decode.specs.declared.faults.DerEnd.TheVariants as fault
use Rattle.der_decode.specs.declared.fields.Window.{Window}

abbrev pub spot : ℕ → ℕ → Spot
spot at nodes = record { at = at; nodes = nodes }

-- The stop, unless an allocation failed.
abbrev pub Fails : {B : Type 0} → DerEnd → Result (B × Spot) Stop → Type 0
Fails (fault.Stopped stop) found = found ≡ Err stop
Fails fault.Memory found = Unit {0}

-- What is read and the spot after it, or the stop, unless an allocation failed.
abbrev pub Shows : {A B : Type 0} → (A → B × Spot) → Result A DerEnd → Result (B × Spot) Stop → Type 0
Shows view (Ok x) found = found ≡ Ok (view x)
Shows view (Err e) found = Fails e found

-- The parts of a SEQUENCE that are read and the spot after them, or the stop, unless an allocation failed. The flags state which
-- parts are present.
abbrev pub ShowsParts : Result Spot DerEnd → List Bool → List (Rose ValueLabel) → Result (List (Option (Rose ValueLabel)) × Spot) Stop → Type 0
ShowsParts (Ok r) flags vs found = (os : List (Option (Rose ValueLabel))) × (found ≡ Ok (os, r)) × (flags_of os ≡ flags) × (those_of os ≡ vs)
ShowsParts (Err e) flags vs found = Fails e found

-- A node with this identifier, and contents after it that are read by this reader.
abbrev pub behind_head : ℕ → List ℕ → Octets (Rose ValueLabel) → Octets (Rose ValueLabel)
behind_head depth head contents X s = expected_at head (entered_at (is_over depth) (over depth) (tagged_at head (sized_at contents))) X s

-- The place of a node's contents, whatever reads them, or why it is no such node.
abbrev pub ShowsHead : Result Window DerEnd → ℕ → List ℕ → List ℕ → Spot → Type 0
ShowsHead (Ok w) depth head X s = (contents : Octets (Rose ValueLabel)) → behind_head depth head contents X s ≡ contents (take w.end X) (spot w.at (s.nodes + 1))
ShowsHead (Err (fault.Stopped stop)) depth head X s = (contents : Octets (Rose ValueLabel)) → behind_head depth head contents X s ≡ Err stop
ShowsHead (Err fault.Memory) depth head X s = Unit {0}

-- The error that the caller gets for a fault.
abbrev pub error_of : DerEnd → DecodeError
error_of (fault.Stopped stop) = error.Bad stop.at stop.why
error_of fault.Memory = error.Memory
