-- What holds of a place in a value, and how far reading has come.
use Rattle.std.specs.Prelude.{◌≡◌, ℕ, ◌<◌, ◌≤◌, false, length, Result, IfOk, OnOk}
use Rattle.base_codecs.specs.declared.spots.Spot.{Spot}
use Rattle.base_trees.specs.Rose.{Rose, label_of}
use Rattle.base_flat_trees.specs.Zips.{Zip, added}
use Rattle.simple_types.specs.declared.labels.ValueLabel.{ValueLabel}
use Rattle.asn_types.specs.Modules.{IsModule}
use Rattle.asn_types.specs.Refs.{IsOf, resolve}
use Rattle.per_fields.specs.Nodes.{is_no_text}
use Rattle.der_fields.specs.FieldsReading.{Octets}
use Rattle.der_decode.specs.declared.faults.DerEnd.{DerEnd}
use Rattle.der_decode.specs.declared.places.Input.{Input}
use Rattle.der_decode.specs.declared.places.Place.{Place}
use Rattle.der_decode.specs.Private.Newest.{newest}
use Rattle.der_decode.specs.Private.Showing.{Shows}

-- The type of the node is one of the module's, and it was resolved in that module. The node is at most this deep.
pub record IsPlace (deepest : ℕ) (place : Place) : Type 0 where
  pub known : IsModule place.module.now
  pub of : IsOf place.module.now place.node.now
  pub resolved : place.found.now ≡ resolve place.module.now place.node.now
  pub few : place.depth ≤ deepest

module _ (input : Input) where
  -- After a node, reading is further on in the octets.
  abbrev pub IsAfter : Spot → Type 0
  IsAfter behind = (input.spot.at < behind.at) × (behind.at ≤ length input.octets.now)

  -- After contents, which may be empty, reading is no further back in the octets.
  abbrev pub IsFrom : Spot → Type 0
  IsFrom behind = (input.spot.at ≤ behind.at) × (behind.at ≤ length input.octets.now)

  -- The newest child of the open node, and the spot after it, are what this definition reads from the input.
  abbrev pub Gives : Result Spot DerEnd → Zip ValueLabel → Octets (Rose ValueLabel) → Type 0
  Gives result values read = Shows (λ behind. (newest values.kids, behind)) result (read input.octets.now input.spot)

-- A node that is not a text was read and appended, up to a spot of which this holds.
pub record Adds (IsReached : Spot → Type 0) (result : Result Spot DerEnd) (before after : Zip ValueLabel) : Type 0 where
  pub on : IfOk result IsReached
  pub pushed : OnOk result (after ≡ added (newest after.kids) before)
  pub text : OnOk result (is_no_text (label_of (newest after.kids)) ≡ false)
