-- Contents that are octets, which are all that remain of a window.
use Rattle.std.specs.Prelude.{◌≡◌, ℕ, List, length, Result, Ok, Err}
use Rattle.std.specs.List.Sorted.{IsStrictlySortedBy}
use Rattle.std.specs.Ordering.{int_cmp}
use Rattle.base_trees.specs.Rose.{Rose}
use Rattle.simple_types.specs.declared.labels.ValueLabel.{ValueLabel}
use Rattle.simple_types.specs.Sound.{IsCounted}
use Rattle.asn_types.specs.declared.modules.Assignment.{Assignment}
use Rattle.asn_types.specs.declared.types.Form.{Form}
use Rattle.asn_types.specs.declared.types.Form.TheVariants as form
use Rattle.asn_types.specs.declared.types.TypeLabel.{TypeLabel}
use Rattle.base_codecs.specs.declared.spots.Spot.{Spot}
use Rattle.base_codecs.specs.Reading.{◌>>=◌}
use Rattle.der_fields.specs.declared.stops.Stop.{Stop}
use Rattle.der_fields.specs.FieldsReading.{Octets}
use Rattle.der_fields.specs.Encoding.{TaggedPlace}
use Rattle.der_fields.specs.Reading.{leaf_of, contents_at, owned_at}
use Rattle.der_decode.specs.declared.faults.DerEnd.{DerEnd}
use Rattle.der_decode.specs.declared.faults.DerEnd.TheVariants as fault

-- The form has no children and is not a reference, as in a module.
abbrev pub IsLeaf : Form → Type 0
IsLeaf form.Bool = Unit {0}
IsLeaf (form.Int least greatest) = Unit {0}
IsLeaf (form.Numbers numbers) = IsCounted (length numbers) × IsStrictlySortedBy int_cmp numbers
IsLeaf (form.Words identifiers words) = IsCounted (length words)
IsLeaf (form.Order identifiers) = IsCounted (length identifiers)
IsLeaf (form.Utf8 least most class) = Unit {0}
IsLeaf _ = ⊥

-- The form is one of these, but not a text.
abbrev pub IsPlain : Form → Type 0
IsPlain (form.Utf8 least most class) = ⊥
IsPlain f = IsLeaf f

-- The end of the window.
abbrev pub end_of : List ℕ → Spot → Spot
end_of X s = record { at = length X; nodes = s.nodes }

-- The result of a reader of all that remain.
abbrev pub Reads : Octets (Rose ValueLabel) → List ℕ → Spot → Result ValueLabel Stop → Type 0
Reads read X s (Ok label) = read X s ≡ Ok (leaf_of label, end_of X s)
Reads read X s (Err stop) = read X s ≡ Err stop

module _ (f : Form) (X : List ℕ) where
  -- The result of reading contents, whatever is around them.
  abbrev pub ReadsLeaf : Spot → Result ValueLabel Stop → Type 0
  ReadsLeaf s result = (M : List Assignment) (kid : TaggedPlace → Octets (Rose ValueLabel)) (begin : ℕ) (l : TypeLabel) (ts : List (Rose TypeLabel)) → Reads (contents_at M kid begin l ts f) X s result

  abbrev pub IsLeafAt : Spot → ValueLabel → Type 0
  IsLeafAt s label = ReadsLeaf s (Ok label)

  -- The contents stop, or the rule of the node does, which begins at an octet.
  abbrev pub StopsLeaf : ℕ → Spot → DerEnd → Type 0
  StopsLeaf begin s fault.Memory = Unit {0}
  StopsLeaf begin s (fault.Stopped stop) =
      (M : List Assignment) (kid : TaggedPlace → Octets (Rose ValueLabel)) (l : TypeLabel) (ts : List (Rose TypeLabel)) (t : Rose TypeLabel) → (contents_at M kid begin l ts f X s >>= owned_at M begin t) ≡ Err stop
