-- Parts of the reading of a node, as the code divides it.
use Rattle.std.specs.Prelude.{ℕ, Option, Some, None, List, slice_get}
use Rattle.std.specs.List.{position_from}
use Rattle.base_trees.specs.Rose.{Rose, label_of, kids_of}
use Rattle.simple_types.specs.declared.labels.ValueLabel.{ValueLabel}
use Rattle.asn_types.specs.declared.modules.Assignment.{Assignment}
use Rattle.asn_types.specs.declared.types.Component.{Component}
use Rattle.asn_types.specs.declared.types.Form.{Form}
use Rattle.asn_types.specs.declared.types.Form.TheVariants as form
use Rattle.asn_types.specs.declared.types.TypeLabel.{TypeLabel}
use Rattle.asn_values.specs.Values as values
use Rattle.asn_values.specs.Values.{ComponentPlace, place_at}
use Rattle.base_codecs.specs.Reading.{◌>>=◌, with_spot, entered_at}
use Rattle.der_fields.specs.FieldsReading.{Octets}
use Rattle.der_fields.specs.Encoding.{TaggedPlace, tagged_place}
use Rattle.der_fields.specs.Reading.{starts, parts_from, choice_of, nothing_at, contents_at, is_over, over, headed_at, kept_at, part_at, node_read}

-- The contents are not nodes.
abbrev pub HasNoKids : Form → Type 0
HasNoKids form.Bool = Unit {0}
HasNoKids (form.Int least greatest) = Unit {0}
HasNoKids (form.Numbers numbers) = Unit {0}
HasNoKids (form.Words identifiers words) = Unit {0}
HasNoKids (form.Order identifiers) = Unit {0}
HasNoKids (form.Utf8 least most class) = Unit {0}
HasNoKids _ = ⊥

-- The contents are nodes.
abbrev pub HasKids : Form → Type 0
HasKids (form.Sequence parts) = Unit {0}
HasKids (form.Choice parts) = Unit {0}
HasKids (form.SequenceOf part least most) = Unit {0}
HasKids _ = ⊥

abbrev pub IsChoice : Form → Type 0
IsChoice (form.Choice parts) = Unit {0}
IsChoice _ = ⊥

module _ (M : List Assignment) where
  -- The number of the first part whose identifier the octets begin with.
  abbrev pub first_start : TypeLabel → List Component → List (Rose TypeLabel) → List ℕ → Option ℕ
  first_start l parts ts xs = position_from (λ p. starts M p xs) 0 (parts_from l 0 parts ts)

module _ (M : List Assignment) (depth : ℕ) where
  -- A part with this tag at nesting depth `depth`: its node, and then its default or fixed value.
  abbrev pub part_read : Option ℕ → Component → Rose TypeLabel → Octets (Rose ValueLabel)
  part_read tag part t X s = node_read M depth tag t X s >>= kept_at M part t s.at

  -- A child of a node at nesting depth `depth`.
  abbrev pub kid_at : TaggedPlace → Octets (Rose ValueLabel)
  kid_at p = part_at M p.place (node_read M (values.below p.place.role depth) p.tag p.place.type)

  -- A child of a node that is entered before the child.
  abbrev pub entered_kid : TaggedPlace → Octets (Rose ValueLabel)
  entered_kid p = entered_at (is_over depth) (over depth) (kid_at p)

  -- A node of a type that is not a reference, without its rule.
  abbrev pub headed_read : Option ℕ → Rose TypeLabel → Octets (Rose ValueLabel)
  headed_read tag t X s = headed_at M kid_at depth tag (label_of t) (kids_of t) X s

  -- The contents of such a node, which begins at an octet.
  abbrev pub contents_read : ℕ → Rose TypeLabel → Octets (Rose ValueLabel)
  contents_read begin t X s = contents_at M kid_at begin (label_of t) (kids_of t) (label_of t).form X s

  -- The alternative with this number, which is here.
  abbrev pub alternative_read : ℕ → Option ComponentPlace → Octets (Rose ValueLabel)
  alternative_read i None X s = nothing_at X s
  alternative_read i (Some p) X s = kid_at (tagged_place (Some i) p) X s >>= λ a. with_spot (choice_of (i, a.0)) a.1

-- The place of an alternative.
abbrev pub alternative_place : Rose TypeLabel → List Component → ℕ → Option ComponentPlace
alternative_place t parts i = place_at (label_of t) i (slice_get parts i) (slice_get (kids_of t) i)

-- The place of the items.
abbrev pub item_place : Rose TypeLabel → Component → Option ComponentPlace
item_place t part = place_at (label_of t) 0 (Some part) (slice_get (kids_of t) 0)
