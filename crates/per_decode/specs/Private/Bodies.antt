-- Parts of the reading of a node, as the code divides it.
use Rattle.std.specs.Prelude.{ℕ, Bool, Result, Option, Some, None, List, [], ◌∷◌, ◌++◌, slice_get, replicate, Ok}
use Rattle.base_trees.specs.Rose.{Rose, Roses, label_of, kids_of, node, none}
use Rattle.simple_types.specs.declared.labels.ValueLabel.{ValueLabel}
use Rattle.simple_types.specs.declared.labels.ValueLabel.TheVariants as value
use Rattle.asn_types.specs.declared.modules.Assignment.{Assignment}
use Rattle.asn_types.specs.declared.types.Component.{Component}
use Rattle.asn_types.specs.declared.types.Form.{Form}
use Rattle.asn_types.specs.declared.types.Form.TheVariants as form
use Rattle.asn_types.specs.declared.types.TypeLabel.{TypeLabel}
use Rattle.asn_types.specs.Bounds.{IsBounded}
use Rattle.asn_types.specs.Modules.{IsModule}
use Rattle.asn_values.specs.Values as values
use Rattle.asn_values.specs.Values.{ComponentPlace, FitEach, FitsAt, place_at}
use Rattle.base_codecs.specs.declared.spots.Spot.{Spot}
use Rattle.per_fields.specs.declared.stops.Stop.{Stop}
use Rattle.per_fields.specs.Reading.{◌>>=◌, Reader, each_at}
use Rattle.per_fields.specs.Nodes.{content_at, kept_at, part_at, owned_at, node_read, nothing_at, last_at}

-- What is known of each module.
abbrev pub IsKnown : List Assignment → Type 0
IsKnown M = IsModule M × IsBounded M

-- The form is neither a text nor a reference.
abbrev pub HasFields : Form → Type 0
HasFields (form.Utf8 least most class) = ⊥
HasFields (form.Ref to) = ⊥
HasFields _ = Unit {0}

-- The form is not a text.
abbrev pub IsNoText : Form → Type 0
IsNoText (form.Utf8 least most class) = ⊥
IsNoText _ = Unit {0}

-- The form is a text.
abbrev pub IsText : Form → Type 0
IsText (form.Utf8 least most class) = Unit {0}
IsText _ = ⊥

abbrev pub text_leaf : List ℕ → Rose ValueLabel
text_leaf octets = node (value.Utf8 octets) none

-- The octets of a text of a node that begins at a bit, and its rules.
module _ (M : List Assignment) (begin : ℕ) (t : Rose TypeLabel) where
  abbrev pub octets_kept : List ℕ × Spot → Result (Rose ValueLabel × Spot) Stop
  octets_kept x = owned_at M begin t (text_leaf x.0, x.1)

  abbrev pub kept_by : Reader (List ℕ) → Reader (Rose ValueLabel)
  kept_by octets X s = octets X s >>= octets_kept

module _ (aligned : Bool) (M : List Assignment) (depth : ℕ) where
  -- A part of a type at nesting depth `depth`: its node, and then its default or fixed value.
  abbrev pub part_read : Component → Rose TypeLabel → Reader (Rose ValueLabel)
  part_read part t X s = node_read aligned M depth t X s >>= kept_at M part t s.at

module _ (aligned : Bool) (M : List Assignment) (depth : ℕ) where
  -- A child of a node at nesting depth `depth`.
  abbrev pub kid_at : ComponentPlace → Reader (Rose ValueLabel)
  kid_at p = part_at M p (node_read aligned M (values.below p.role depth) p.type)

  abbrev pub fields_at : Rose TypeLabel → Reader (Rose ValueLabel)
  fields_at t X s = content_at aligned kid_at (label_of t) (kids_of t) (label_of t).form X s

  -- The fields of a node that begins at a bit, and its rules.
  abbrev pub body_at : ℕ → Rose TypeLabel → Reader (Rose ValueLabel)
  body_at begin t X s = fields_at t X s >>= λ v. owned_at M begin t v

  -- The children at these places.
  abbrev pub kids_read : Option (List ComponentPlace) → Reader (List (Rose ValueLabel))
  kids_read None X s = nothing_at X s
  kids_read (Some ps) X s = each_at kid_at ps X s

  -- One of several nodes of a type.
  abbrev pub node_of : Rose TypeLabel → ℕ → Reader (Rose ValueLabel)
  node_of t i X s = node_read aligned M depth t X s

  abbrev pub many_at : ℕ → Rose TypeLabel → Reader (List (Rose ValueLabel))
  many_at n t X s = each_at (node_of t) (replicate n 0) X s

  -- Several nodes of a type, after these.
  abbrev pub more_at : ℕ → Rose TypeLabel → List (Rose ValueLabel) → Reader (List (Rose ValueLabel))
  more_at n t front X s = many_at n t X s >>= λ vs. Ok (front ++ vs.0, vs.1)

module _ (M : List Assignment) (depth : ℕ) where
  abbrev pub FitSome : Option (List ComponentPlace) → Roses ValueLabel → Type 0
  FitSome None vs = ⊥
  FitSome (Some ps) vs = FitEach M depth ps vs

  -- The values are of the type.
  abbrev pub FitAll : Rose TypeLabel → List (Rose ValueLabel) → Type 0
  FitAll t [] = Unit {0}
  FitAll t (v ∷ vs) = FitsAt M depth t v × FitAll t vs

-- The place of the items.
abbrev pub item_place : Rose TypeLabel → Component → Option ComponentPlace
item_place t part = place_at (label_of t) 0 (Some part) (slice_get (kids_of t) 0)

-- A node and the end of its encoding.
abbrev pub complete_at : Bool → List Assignment → Rose TypeLabel → Reader (Rose ValueLabel)
complete_at aligned M t X s = do
  v ← node_read aligned M 1 t X s
  z ← last_at X v.1
  Ok (v.0, z.1)
