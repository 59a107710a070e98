-- Reading the nodes of a value from octets (X.690), up to the first fault. Nodes are read in the order of their first octets. The
-- list ends where the contents around a node end. For the root it ends where the input ends.
use Rattle.std.specs.Prelude.{ℕ, ℤ, pos, negsuc, zero, suc, ◌+◌, ◌&&◌, ◌||◌, ◌==◌, not, Bool, true, false, nat_lt, nat_le, Option, Some, None, List, [], ◌∷◌, length, slice_get, Result, Ok, Err, if◌then◌else◌}
use Rattle.std.specs.List.{position_from}
use Rattle.std.specs.Ordering.{int_eq}
use Rattle.base_trees.specs.Rose.{Rose, node, none, more, roses_of, label_of, kids_of}
use Rattle.simple_types.specs.declared.labels.ValueLabel.{ValueLabel}
use Rattle.simple_types.specs.declared.labels.ValueLabel.TheVariants as value
use Rattle.simple_types.specs.Lexical.{is_128_bits, is_from, is_to, is_at_most}
use Rattle.asn_types.specs.declared.modules.Assignment.{Assignment}
use Rattle.asn_types.specs.declared.types.Component.{Component}
use Rattle.asn_types.specs.declared.types.Form.{Form}
use Rattle.asn_types.specs.declared.types.Form.TheVariants as form
use Rattle.asn_types.specs.declared.types.TypeLabel.{TypeLabel}
use Rattle.asn_types.specs.Parts.{parts_of}
use Rattle.asn_types.specs.Refs.{resolve}
use Rattle.asn_values.specs.Values.{ComponentPlace, place_of, place_at, below}
use Rattle.base_codecs.specs.declared.spots.Spot.{Spot}
use Rattle.base_codecs.specs.Reading.{◌>>=◌, stop_if, with_spot, ended_at, left_at, entered_at}
use Rattle.base_codecs.specs.Codec.{most_nodes}
use Rattle.base_codecs.specs.Sequences.{items_at, parts_at, alternative_at}
use Rattle.der_fields.specs.declared.stops.Stop.{Stop}
use Rattle.der_fields.specs.declared.stops.Why.{Why}
use Rattle.der_fields.specs.declared.stops.Why.TheVariants.{Short, Missing, Tag, TooDeep, TooMany, NotShortest, Content, TooWide, Range, NotUtf8, DefaultWritten, NotAValue}
use Rattle.der_fields.specs.Octets.{signed_value, are_nine_equal, begins}
use Rattle.der_fields.specs.FieldsReading.{stop_at, Octets, sized_at, tagged_at, expected_at}
use Rattle.per_fields.specs.Nodes.{is_no_text, most_deep}
use Rattle.per_fields.specs.Owning.{owns, keeps, is_standard}
use Rattle.per_fields.specs.Levels.{levels_needed}
use Rattle.der_fields.specs.Encoding.{TaggedPlace, tagged_place, identifier, is_open}

-- A value without children.
abbrev pub leaf_of : ValueLabel → Rose ValueLabel
leaf_of l = node l none

abbrev pub node_of : ValueLabel → List (Rose ValueLabel) → Rose ValueLabel
node_of l vs = node l (roses_of vs)

-- CONTENTS THAT ARE OCTETS: all that remain.
abbrev pub bool_of : Spot → List ℕ × Spot → Result (Rose ValueLabel × Spot) Stop
bool_of s a = elim a.0 [
  | [] ↦ Err (stop_at s.at Content)
  | x ∷ xs ↦ elim xs [
    | [] ↦ stop_if (not (x == 0x00 || x == 0xFF)) (stop_at s.at Content) (Ok (leaf_of (value.Bool (x == 0xFF)), a.1))
    | y ∷ ys ↦ Err (stop_at s.at Content)
  ]
]

unfoldable pub bool_at : Octets (Rose ValueLabel)
bool_at X s = left_at X s >>= bool_of s

abbrev pub is_nothing : List ℕ → Bool
is_nothing [] = true
is_nothing (x ∷ xs) = false

-- A number of 128 bits.
abbrev pub whole_of : Spot → List ℕ × Spot → Result (ℤ × Spot) Stop
whole_of s a =
    stop_if (is_nothing a.0) (stop_at s.at Content)
    (stop_if (are_nine_equal a.0) (stop_at s.at NotShortest)
    (stop_if (not (is_128_bits (signed_value a.0))) (stop_at s.at TooWide)
    (with_spot (signed_value a.0) a.1)))

unfoldable pub whole_at : Octets ℤ
whole_at X s = left_at X s >>= whole_of s

-- A number within its bounds.
abbrev pub int_of : Option ℤ → Option ℤ → Spot → ℤ × Spot → Result (Rose ValueLabel × Spot) Stop
int_of least greatest s z = stop_if (not (is_from least z.0 && is_to greatest z.0)) (stop_at s.at Range) (Ok (leaf_of (value.Int z.0), z.1))

unfoldable pub int_at : Option ℤ → Option ℤ → Octets (Rose ValueLabel)
int_at least greatest X s = whole_at X s >>= int_of least greatest s

-- The item with a number, if there is one.
abbrev pub item_below : ℕ → ℤ → Option ℕ
item_below items (pos i) = if nat_lt i items then Some i else None
item_below items (negsuc i) = None

abbrev pub item_with : Form → ℤ → Option ℕ
item_with (form.Numbers numbers) z = position_from (λ n. int_eq n z) 0 numbers
item_with (form.Words identifiers words) z = item_below (length words) z
item_with (form.Order identifiers) z = item_below (length identifiers) z
item_with _ z = None

abbrev pub item_of : Form → Spot → ℤ × Spot → Result (ℕ × Spot) Stop
item_of f s z = elim (item_with f z.0) [ None ↦ Err (stop_at s.at Range) | Some i ↦ Ok (i, z.1) ]

unfoldable pub item_at : Form → Octets ℕ
item_at f X s = whole_at X s >>= item_of f s

unfoldable pub enum_at : Form → Octets (Rose ValueLabel)
enum_at f X s = item_at f X s >>= λ i. with_spot (leaf_of (value.Enum i.0)) i.1

unfoldable pub text_at : Octets (Rose ValueLabel)
text_at X s = left_at X s >>= λ a. with_spot (leaf_of (value.Utf8 a.0)) a.1

-- CONTENTS THAT ARE NODES. What is here is not one of the expected parts, or there is nothing.
abbrev pub unexpected : List ℕ → Spot → Stop
unexpected X s = stop_at s.at (if nat_lt s.at (length X) then Tag else Missing)

abbrev pub is_optional : TaggedPlace → Bool
is_optional p = p.place.part.optional

-- The octets begin as a part does. A part with a tag has an identifier, even if it is a CHOICE.
abbrev pub starts : List Assignment → TaggedPlace → List ℕ → Bool
starts M p xs = begins (identifier p.tag (label_of (resolve M p.place.type)).form) xs

-- All parts from the one with number i on, each with its number.
abbrev pub parts_from : TypeLabel → ℕ → List Component → List (Rose TypeLabel) → List TaggedPlace
parts_from l i (part ∷ parts) (t ∷ ts) = tagged_place (Some i) (place_of l i part t) ∷ parts_from l (i + 1) parts ts
parts_from _ _ _ _ = []

abbrev pub has_some : {A : Type 0} → Option A → Bool
has_some None = false
has_some (Some a) = true

-- The flags of the parts that are present, and their values.
abbrev pub flags_of : List (Option (Rose ValueLabel)) → List Bool
flags_of [] = []
flags_of (o ∷ os) = has_some o ∷ flags_of os

abbrev pub those_of : List (Option (Rose ValueLabel)) → List (Rose ValueLabel)
those_of [] = []
those_of (None ∷ os) = those_of os
those_of (Some v ∷ os) = v ∷ those_of os

abbrev pub sequence_of : List (Option (Rose ValueLabel)) → Rose ValueLabel
sequence_of os = node_of (value.Sequence (flags_of os)) (those_of os)

abbrev pub choice_of : ℕ × Rose ValueLabel → Rose ValueLabel
choice_of a = node (value.Choice a.0) (more a.1 none)

abbrev pub is_size : ℕ → Option ℕ → ℕ → Bool
is_size least most n = nat_le least n && is_at_most n most

-- The stop of an item after all octets of the list. It never occurs, because each item has an octet.
abbrev pub never : Spot → Stop
never s = stop_at s.at Short

-- What no module requires.
abbrev pub nothing_at : Octets (Rose ValueLabel)
nothing_at X s = Err (stop_at s.at NotAValue)

module _ (M : List Assignment) (kid : TaggedPlace → Octets (Rose ValueLabel)) where
  unfoldable pub sequence_at : TypeLabel → List (Rose TypeLabel) → List Component → Octets (Rose ValueLabel)
  sequence_at l ts parts X s = parts_at (starts M) is_optional unexpected kid (parts_from l 0 parts ts) X s >>= λ a. with_spot (sequence_of a.0) a.1

  unfoldable pub choice_at : TypeLabel → List (Rose TypeLabel) → List Component → Octets (Rose ValueLabel)
  choice_at l ts parts X s = alternative_at (starts M) is_optional unexpected kid (parts_from l 0 parts ts) X s >>= λ a. with_spot (choice_of a.0) a.1

-- A count outside its bounds is reported at the node, which begins at an octet.
unfoldable pub sequence_of_at : (TaggedPlace → Octets (Rose ValueLabel)) → ℕ → ℕ → Option ℕ → Option ComponentPlace → Octets (Rose ValueLabel)
sequence_of_at kid begin least most None X s = nothing_at X s
sequence_of_at kid begin least most (Some p) X s =
    items_at never (kid (tagged_place None p)) X s
    >>= λ a. stop_if (not (is_size least most (length a.0))) (stop_at begin Range) (with_spot (node_of value.SequenceOf a.0) a.1)

-- What fills the contents of a node that begins at an octet. Nothing follows the CHOICE of an explicit tag.
unfoldable pub contents_at : List Assignment → (TaggedPlace → Octets (Rose ValueLabel)) → ℕ → TypeLabel → List (Rose TypeLabel) → Form → Octets (Rose ValueLabel)
contents_at M kid begin l ts form.Bool X s = bool_at X s
contents_at M kid begin l ts (form.Int least greatest) X s = int_at least greatest X s
contents_at M kid begin l ts (form.Numbers numbers) X s = enum_at (form.Numbers numbers) X s
contents_at M kid begin l ts (form.Words identifiers words) X s = enum_at (form.Words identifiers words) X s
contents_at M kid begin l ts (form.Order identifiers) X s = enum_at (form.Order identifiers) X s
contents_at M kid begin l ts (form.Utf8 least most class) X s = text_at X s
contents_at M kid begin l ts (form.Sequence parts) X s = sequence_at M kid l ts parts X s
contents_at M kid begin l ts (form.Choice parts) X s = ended_at (λ r. stop_at r.at Tag) (choice_at M kid l ts parts) X s
contents_at M kid begin l ts (form.SequenceOf part least most) X s = sequence_of_at kid begin least most (place_at l 0 (Some part) (slice_get ts 0)) X s
contents_at M kid begin l ts (form.Ref to) X s = nothing_at X s

-- NODES. A node would be the 65th nested element, or one node too many. Only an element is ever too deep.
abbrev pub is_over : ℕ → Spot → Bool
is_over depth s = not (nat_le depth most_deep && nat_lt s.nodes most_nodes)

abbrev pub over : ℕ → Spot → Stop
over depth s = stop_at s.at (if nat_le depth most_deep then TooMany else TooDeep)

-- A node of a type that is not a reference: its identifier, whether one node more is allowed, its length and contents. A CHOICE
-- without a tag has the identifier of an alternative, and is entered before the alternative.
unfoldable pub headed_at : List Assignment → (TaggedPlace → Octets (Rose ValueLabel)) → ℕ → Option ℕ → TypeLabel → List (Rose TypeLabel) → Octets (Rose ValueLabel)
headed_at M kid depth tag l ts X s =
    if is_open tag l.form then choice_at M (λ p. entered_at (is_over depth) (over depth) (kid p)) l ts (parts_of l.form) X s
    else expected_at (identifier tag l.form) (entered_at (is_over depth) (over depth) (tagged_at (identifier tag l.form) (sized_at (contents_at M kid s.at l ts l.form)))) X s

module _ (M : List Assignment) where
  -- The rule of a node that begins at an octet, after all its contents.
  unfoldable pub owned_at : ℕ → Rose TypeLabel → Rose ValueLabel × Spot → Result (Rose ValueLabel × Spot) Stop
  owned_at begin t v =
      stop_if (is_no_text (label_of v.0)) (stop_at begin NotUtf8) (stop_if (not (owns M t v.0)) (stop_at begin NotAValue) (Ok v))

  -- Why a part may not be present with this value.
  abbrev pub unkept_why : Component → Rose TypeLabel → Rose ValueLabel → Why
  unkept_why part t v = if part.optional && is_standard M part t v then DefaultWritten else NotAValue

  -- The rule of a part that begins at an octet and was read.
  unfoldable pub kept_at : Component → Rose TypeLabel → ℕ → Rose ValueLabel × Spot → Result (Rose ValueLabel × Spot) Stop
  kept_at part t begin v = stop_if (not (keeps M part t v.0)) (stop_at begin (unkept_why part t v.0)) (Ok v)

  -- A part: its node, and then its default or fixed value.
  abbrev pub part_at : ComponentPlace → Octets (Rose ValueLabel) → Octets (Rose ValueLabel)
  part_at p read X s = read X s >>= kept_at p.part p.type s.at

  -- A node of a type, in which at most `levels` nodes are nested. In a module `levels_needed` are always enough, so the first case
  -- never occurs.
  unfoldable pub node_at : ℕ → ℕ → Option ℕ → Rose TypeLabel → Octets (Rose ValueLabel)
  node_at zero depth tag t X s = Err (stop_at s.at TooDeep)
  node_at (suc levels) depth tag t X s =
      headed_at M (λ p. part_at p.place (node_at levels (below p.place.role depth) p.tag p.place.type)) depth tag (label_of (resolve M t)) (kids_of (resolve M t)) X s
      >>= owned_at s.at (resolve M t)

-- A node of a type of a module.
abbrev pub node_read : List Assignment → ℕ → Option ℕ → Rose TypeLabel → Octets (Rose ValueLabel)
node_read M depth tag t X s = node_at M (levels_needed M depth t) depth tag t X s

abbrev pub start : Spot
start = record { at = 0; nodes = 0 }

-- The root, which isn't at the end of the input.
unfoldable pub root_at : List Assignment → Rose TypeLabel → Octets (Rose ValueLabel)
root_at M t X s = if nat_lt s.at (length X) then node_read M 1 None t X s else Err (stop_at s.at Short)
