-- Values and their children, with only their types.
use Rattle.std.specs.Prelude.{ℕ, ◌+◌, ◌<◌, Bool, true, false, Option, Some, None, List, [], ◌∷◌, ◌++◌, length}
use Rattle.base_trees.specs.Rose.{Rose, roses_of, label_of, kids_of}
use Rattle.simple_types.specs.declared.labels.ValueLabel.{ValueLabel}
use Rattle.asn_types.specs.declared.modules.Assignment.{Assignment}
use Rattle.asn_types.specs.declared.types.Form.{Form}
use Rattle.asn_types.specs.declared.types.Form.TheVariants as form
use Rattle.asn_types.specs.declared.types.TypeLabel.{TypeLabel}
use Rattle.asn_values.specs.Values.{ComponentPlace, places, FitsAt, FitEach}
use Rattle.der_fields.specs.Encoding.{tags_of, tagged, contents, der, each_der}

-- The item with this number is among those of the type.
abbrev pub HasItem : Form → ℕ → Type 0
HasItem (form.Numbers numbers) i = i < length numbers
HasItem _ i = Unit {0}

module _ (M : List Assignment) where
  -- The value is one of the type, at some nesting depth.
  abbrev pub FitsSomewhere : Rose TypeLabel → Rose ValueLabel → Type 0
  FitsSomewhere t v = (depth : ℕ) × FitsAt M depth t v

  -- There is a flag and a type for each component, and a value for each that is present.
  abbrev pub PartsFit : List (Rose TypeLabel) → List Bool → List (Rose ValueLabel) → Type 0
  PartsFit (t ∷ ts) (true ∷ flags) (v ∷ vs) = FitsSomewhere t v × PartsFit ts flags vs
  PartsFit (t ∷ ts) (false ∷ flags) vs = PartsFit ts flags vs
  PartsFit ts [] [] = Unit {0}
  PartsFit _ _ _ = ⊥

  -- The octets of the components that are present, from the one with number i on.
  abbrev pub parts_octets : ℕ → List (Rose TypeLabel) → List Bool → List (Rose ValueLabel) → List ℕ
  parts_octets i (t ∷ ts) (true ∷ flags) (v ∷ vs) = der M (Some i) t v ++ parts_octets (i + 1) ts flags vs
  parts_octets i (t ∷ ts) (false ∷ flags) vs = parts_octets (i + 1) ts flags vs
  parts_octets _ _ _ _ = []

  -- Each value is an item of this type.
  abbrev pub ItemsFit : Rose TypeLabel → List (Rose ValueLabel) → Type 0
  ItemsFit t [] = Unit {0}
  ItemsFit t (v ∷ vs) = FitsSomewhere t v × ItemsFit t vs

  abbrev pub items_octets : Rose TypeLabel → List (Rose ValueLabel) → List ℕ
  items_octets t [] = []
  items_octets t (v ∷ vs) = der M None t v ++ items_octets t vs

  -- The children are at these places. `octets_at` are their octets with these tags.
  abbrev pub FitAt : ℕ → Option (List ComponentPlace) → List (Rose ValueLabel) → Type 0
  FitAt depth None vs = ⊥
  FitAt depth (Some ps) vs = FitEach M depth ps (roses_of vs)

  abbrev pub octets_at : List (Option ℕ) → Option (List ComponentPlace) → List (Rose ValueLabel) → List ℕ
  octets_at tags None vs = []
  octets_at tags (Some ps) vs = each_der M (tagged tags ps) (roses_of vs)

  -- The children have their places in the type, which is not a reference, and are of their types.
  abbrev pub KidsFit : Rose TypeLabel → Rose ValueLabel → Type 0
  KidsFit t v = (depth : ℕ) × FitAt depth (places t (label_of v) (length (kids_of v))) (kids_of v)

  abbrev pub resolved_octets : Rose TypeLabel → Rose ValueLabel → List ℕ
  resolved_octets t v =
      contents (label_of t).form (label_of v)
      (octets_at (tags_of (label_of v) (length (kids_of v))) (places t (label_of v) (length (kids_of v))) (kids_of v))
