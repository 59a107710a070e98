-- What holds of a place in a value, and what reading its fields leaves behind.
use Rattle.std.specs.Prelude.{◌≡◌, ℕ, ◌+◌, ◌≤◌, false, Result, OnOk}
use Rattle.base_texts.specs.declared.sources.Source as sources
use Rattle.base_trees.specs.Rose.{label_of, node_count}
use Rattle.base_flat_trees.specs.Zips.{Zip, added}
use Rattle.simple_types.specs.declared.labels.ValueLabel.{ValueLabel}
use Rattle.asn_types.specs.Refs.{IsOf, resolve}
use Rattle.asn_values.specs.Private.Placing.{FitKids}
use Rattle.per_fields.specs.declared.variants.Variant as variants
use Rattle.per_fields.specs.Nodes.{is_no_text}
use Rattle.per_decode.specs.declared.faults.PerEnd.{PerEnd}
use Rattle.per_decode.specs.declared.places.Place.{Place}
use Rattle.per_decode.specs.declared.run.Origin as origins
use Rattle.per_decode.specs.declared.run.Run.{Run}
use Rattle.per_decode.specs.Private.Bodies.{IsKnown}
use Rattle.per_decode.specs.Private.Newest.{newest}
use Rattle.per_decode.specs.Private.Reads.{Reads}

-- The type of the node is one of the module's, and it was resolved in that module. The node is at most this deep.
pub record IsPlace (deepest : ℕ) (place : Place) : Type 0 where
  pub known : IsKnown place.module.now
  pub of : IsOf place.module.now place.node.now
  pub resolved : place.found.now ≡ resolve place.module.now place.node.now
  pub few : place.depth ≤ deepest

-- The fields of a node that was counted were read, and its children. The node is appended. It fits the type at the place, except for
-- the rules of the node, and it is not a text.
module _ {S K V : Type 0} {s : sources.Ghosts S} {k : origins.Ghosts K} {v : variants.Ghosts V} where
  pub record AddsFields {A : Type 0} (place : Place) (old new : Run S K V s k v) (result : Result A PerEnd) (before after : Zip ValueLabel) : Type 0 where
    pub reads : Reads old new result
    pub pushed : OnOk result (after ≡ added (newest after.kids) before)
    pub count : OnOk result (new.nodes + 1 ≡ old.nodes + node_count (newest after.kids))
    pub fits : OnOk result (FitKids place.module.now place.depth place.found.now (newest after.kids))
    pub text : OnOk result (is_no_text (label_of (newest after.kids)) ≡ false)
