-- Values and their children, with only their types.
use Rattle.std.specs.Prelude.{ℕ, Bool, true, false, Option, Some, None, List, [], ◌∷◌, length, map}
use Rattle.base_trees.specs.Rose.{Rose, label_of, kids_of}
use Rattle.simple_types.specs.declared.labels.ValueLabel.{ValueLabel}
use Rattle.asn_types.specs.declared.modules.Assignment.{Assignment}
use Rattle.asn_types.specs.declared.types.TypeLabel.{TypeLabel}
use Rattle.asn_values.specs.Values.{ComponentPlace, places, FitsAt}
use Rattle.per_fields.specs.Fields.{Writer}
use Rattle.per_fields.specs.Encoding.{node_bits, per}

-- The types of the components that are present.
abbrev pub chosen : List (Rose TypeLabel) → List Bool → List (Rose TypeLabel)
chosen (t ∷ ts) (true ∷ flags) = t ∷ chosen ts flags
chosen (t ∷ ts) (false ∷ flags) = chosen ts flags
chosen _ _ = []

abbrev pub types_of : List ComponentPlace → List (Rose TypeLabel)
types_of ps = map (λ p. p.type) ps

module _ (M : List Assignment) where
  -- The value is one of the type, at some nesting depth.
  abbrev pub FitsSomewhere : Rose TypeLabel → Rose ValueLabel → Type 0
  FitsSomewhere t v = (depth : ℕ) × FitsAt M depth t v

  -- There is a value for each type, which it fits.
  abbrev pub AllFit : List (Rose TypeLabel) → List (Rose ValueLabel) → Type 0
  AllFit [] [] = Unit {0}
  AllFit (t ∷ ts) (v ∷ vs) = FitsSomewhere t v × AllFit ts vs
  AllFit _ _ = ⊥

  abbrev pub FitAt : Option (List ComponentPlace) → List (Rose ValueLabel) → Type 0
  FitAt None vs = ⊥
  FitAt (Some ps) vs = AllFit (types_of ps) vs

  -- The children have their places in the type, which is not a reference, and are of their types.
  abbrev pub KidsFit : Rose TypeLabel → Rose ValueLabel → Type 0
  KidsFit t v = FitAt (places t (label_of v) (length (kids_of v))) (kids_of v)

module _ (aligned : Bool) (M : List Assignment) where
  -- The writers of these values, each of its type.
  abbrev pub writers : List (Rose TypeLabel) → List (Rose ValueLabel) → List Writer
  writers (t ∷ ts) (v ∷ vs) = per aligned M t v ∷ writers ts vs
  writers _ _ = []

  abbrev pub writers_at : Option (List ComponentPlace) → List (Rose ValueLabel) → List Writer
  writers_at None vs = []
  writers_at (Some ps) vs = writers (types_of ps) vs

  abbrev pub resolved_bits : Rose TypeLabel → Rose ValueLabel → Writer
  resolved_bits t v p = node_bits aligned (label_of t).form (label_of v) (writers_at (places t (label_of v) (length (kids_of v))) (kids_of v)) p
