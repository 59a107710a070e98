-- The field or node that stops first, where it begins and ends, and why (X.691). It has the first fault in the order of the fields.
-- The faults of a node's entry precede those of its fields and parts, and those of its rule follow them all. A part may not have a
-- value that its default or fixed value excludes: this fault follows the part's bits and precedes the next parts. What precedes the
-- fault is stated by the bits of values.
use Rattle.std.specs.Prelude.{◌≡◌, ℕ, zero, suc, ◌+◌, ◌-◌, ◌*◌, ◌<◌, ◌≤◌, ◌⊎◌, Bool, true, false, Option, Some, None, List, [], ◌∷◌, length, slice_get, replicate, nat_lt, IsUtf8}
use Rattle.base_codecs.specs.Bits.{octet_bits}
use Rattle.base_trees.specs.Rose.{Rose, node, label_of, kids_of, node_count, length_all}
use Rattle.simple_types.specs.declared.labels.ValueLabel.{ValueLabel}
use Rattle.simple_types.specs.declared.labels.ValueLabel.TheVariants as value
use Rattle.simple_types.specs.declared.standards.Standard.TheVariants.{Free, Default, Fixed}
use Rattle.asn_types.specs.declared.modules.Assignment.{Assignment}
use Rattle.asn_types.specs.declared.types.Component.{Component}
use Rattle.asn_types.specs.declared.types.Form.{Form}
use Rattle.asn_types.specs.declared.types.Form.TheVariants as form
use Rattle.asn_types.specs.declared.types.TypeLabel.{TypeLabel}
use Rattle.asn_types.specs.Refs.{resolve}
use Rattle.asn_types.specs.Spaces.{spelling}
use Rattle.asn_values.specs.Values.{ComponentPlace, place_at, alone, present_from, places, below, FitsAt, FitEach, Own, Kept}
use Rattle.base_codecs.specs.declared.spots.Spot.{Spot}
use Rattle.per_fields.specs.declared.stops.Stop.{Stop}
use Rattle.per_fields.specs.declared.stops.Why.TheVariants.{TooDeep, TooMany, NotUtf8, DefaultWritten, NotAValue}
use Rattle.per_fields.specs.Reading.{stop_at, moved}
use Rattle.per_fields.specs.Codec.{most_nodes, Came, AllOf}
use Rattle.per_fields.specs.Encoding.{flag_bits, per}
use Rattle.per_fields.specs.Fields.{Piece, Units, items_of, unit, number_bits}
use Rattle.per_fields.specs.Laws.{Present}
use Rattle.per_fields.specs.Nodes.{most_deep, start}
use Rattle.per_fields.specs.Faults.{NumberStops, WholeStops, CountStops, IsCount, FlagsStop, LastStops, EndsWithin}

-- FRAGMENTS of what follows general lengths (clause 11.9). `Stand` states that n things are between two spots, and `SomeStops` that
-- one of n things stops.
module _ (aligned : Bool) (X : List Bool) (Stand : ℕ → Spot → Spot → Type 0) (SomeStops : ℕ → Spot → Stop → Type 0) (least : ℕ) (most : Option ℕ) where
  -- After fragments with these numbers of units, a length stops, or what follows it.
  abbrev pub FragmentsStop : List ℕ → ℕ → ℕ → Spot → Stop → Type 0
  FragmentsStop [] before total s stop =
      CountStops X aligned least most before total s stop ⊎ ((n : Piece) × (r : Spot) × IsCount X aligned least most before total s n r × SomeStops (items_of n) r stop)
  FragmentsStop (k ∷ ks) before total s stop =
      (r : Spot) × (q : Spot) × IsCount X aligned least most before total s (Units k) r × Stand (k * unit) r q × FragmentsStop ks k (total + k * unit) q stop

  -- The first fragment may have any number of units.
  abbrev pub CountedStop : Spot → Stop → Type 0
  CountedStop s stop = (ks : List ℕ) × FragmentsStop ks 4 0 s stop

-- The n octets of a text are between two spots.
abbrev pub OctetsStand : List Bool → ℕ → Spot → Spot → Type 0
OctetsStand X n s r = (text : List ℕ) × (length text ≡ n) × AllOf (λ x. x < 256) text × Came X s r (octet_bits text) 0

-- The octets are one field, in which the input ends.
abbrev pub OctetsEnd : List Bool → ℕ → Spot → Stop → Type 0
OctetsEnd X n s stop = EndsWithin X (8 * n) s s.at stop

-- The octets of the text are not UTF-8.
abbrev pub IsNoText : ValueLabel → Type 0
IsNoText (value.Utf8 text) = IsUtf8 text → ⊥
IsNoText _ = ⊥

-- What is read of a text are octets.
abbrev pub HasOctets : ValueLabel → Type 0
HasOctets (value.Utf8 text) = AllOf (λ x. x < 256) text
HasOctets _ = Unit {0}

-- The node stops before its fields: it would be the 65th nested element, or one node too many. `depth` elements are nested down to
-- the node, including itself. A node that is not an element is in an element that was not too deep.
abbrev pub EntryStops : ℕ → Spot → Stop → Type 0
EntryStops depth s stop = ((most_deep < depth) × (stop ≡ stop_at s.at TooDeep s.at)) ⊎ ((depth ≤ most_deep) × (most_nodes ≤ s.nodes) × (stop ≡ stop_at s.at TooMany s.at))

-- The node doesn't stop before its fields.
abbrev pub Enters : ℕ → Spot → Type 0
Enters depth s = (depth ≤ most_deep) × (s.nodes < most_nodes)

-- The spelling of a default or fixed value.
abbrev pub part_text : Component → Option (List ℕ)
part_text part = elim part.standard [ Free ↦ None | Default text ↦ Some text | Fixed text ↦ Some text ]

module _ (aligned : Bool) (M : List Assignment) (X : List Bool) where
  -- The bits of a value of the type are between two spots, and its nodes are not too many.
  abbrev pub ValueStands : ℕ → Rose TypeLabel → Spot → Rose ValueLabel → Spot → Type 0
  ValueStands depth t s v r = FitsAt M depth t v × Came X s r (per aligned M t v s.at) (node_count v)

  -- The bits of a value of a part are between two spots, and its default or fixed value allows that value.
  abbrev pub PartStands : ℕ → ComponentPlace → Spot → Rose ValueLabel → Spot → Type 0
  PartStands depth p s v r = ValueStands (below p.role depth) p.type s v r × Kept M p.part p.type v

  -- The bits of values of these parts are between two spots, one after the other.
  abbrev pub ValuesStand : ℕ → List ComponentPlace → Spot → Spot → Type 0
  ValuesStand depth [] s r = s ≡ r
  ValuesStand depth (p ∷ ps) s r = (v : Rose ValueLabel) × (q : Spot) × PartStands depth p s v q × ValuesStand depth ps q r

  -- A part that may be absent has its default or fixed value.
  abbrev pub IsDefault : ComponentPlace → Rose ValueLabel → Type 0
  IsDefault p v = (part_text p.part ≡ Some (spelling M p.type v)) × (p.part.optional ≡ true)

  -- The bits of a value of a part are here, but its default or fixed value excludes that value. The fault extends from the part's
  -- first bit to its end.
  abbrev pub StandardStops : ℕ → ComponentPlace → Spot → Stop → Type 0
  StandardStops depth p s stop =
      (v : Rose ValueLabel) × (r : Spot) × ValueStands (below p.role depth) p.type s v r × (Kept M p.part p.type v → ⊥)
      × ((IsDefault p v × (stop ≡ stop_at s.at DefaultWritten r.at)) ⊎ ((IsDefault p v → ⊥) × (stop ≡ stop_at s.at NotAValue r.at)))

  module _ (depth : ℕ) (KidStops : ComponentPlace → Spot → Stop → Type 0) where
    -- One of the parts stops or has an excluded value, after the values of the parts before.
    abbrev pub PartStops : List ComponentPlace → Spot → Stop → Type 0
    PartStops [] s stop = ⊥
    PartStops (p ∷ ps) s stop =
        KidStops p s stop
        ⊎ StandardStops depth p s stop
        ⊎ ((v : Rose ValueLabel) × (r : Spot) × PartStands depth p s v r × PartStops ps r stop)

    -- A type of a module has all its parts, so the first case never occurs.
    abbrev pub IfPartStops : Option (List ComponentPlace) → Spot → Stop → Type 0
    IfPartStops None s stop = ⊥
    IfPartStops (Some ps) s stop = PartStops ps s stop

    -- SEQUENCE OF (clause 20) with a count that is a general length: the count stops, or one of the items.
    abbrev pub ItemsCounted : ComponentPlace → ℕ → Option ℕ → Spot → Stop → Type 0
    ItemsCounted p least most s stop = CountedStop aligned X (λ n s r. ValuesStand depth (replicate n p) s r) (λ n s stop. PartStops (replicate n p) s stop) least most s stop

    -- SEQUENCE OF with a count that is a number within its bounds: the count stops, or one of the items.
    abbrev pub ItemsNumbered : ComponentPlace → ℕ → ℕ → Spot → Stop → Type 0
    ItemsNumbered p least most s stop =
        NumberStops X aligned (most - least) s stop
        ⊎ ((n : ℕ) × (r : Spot) × (n ≤ most - least) × Came X s r (number_bits aligned (most - least) n s.at) 0 × PartStops (replicate (least + n) p) r stop)

    -- SEQUENCE OF: the count is a number within its bounds if the greatest is below 65,536, and otherwise a general length.
    abbrev pub ItemsStop : Option ComponentPlace → ℕ → Option ℕ → Spot → Stop → Type 0
    ItemsStop None least most s stop = ⊥
    ItemsStop (Some p) least None s stop = ItemsCounted p least None s stop
    ItemsStop (Some p) least (Some most) s stop = elim (nat_lt most 65536) [ true ↦ ItemsNumbered p least most s stop | false ↦ ItemsCounted p least (Some most) s stop ]

    -- A field or a part of a node stops (clauses 12 to 14, 19, 20, 23 and 30). The node's type has this label, these children and
    -- this form.
    abbrev pub ContentStops : TypeLabel → List (Rose TypeLabel) → Form → Spot → Stop → Type 0
    ContentStops l ts form.Bool s stop = EndsWithin X 1 s s.at stop
    ContentStops l ts (form.Int least greatest) s stop = WholeStops X aligned least greatest s stop
    ContentStops l ts (form.Numbers numbers) s stop = NumberStops X aligned (length numbers - 1) s stop
    ContentStops l ts (form.Words identifiers words) s stop = NumberStops X aligned (length words - 1) s stop
    ContentStops l ts (form.Order identifiers) s stop = NumberStops X aligned (length identifiers - 1) s stop
    ContentStops l ts (form.Utf8 least most class) s stop = CountedStop aligned X (OctetsStand X) (OctetsEnd X) 0 None s stop
    ContentStops l ts (form.Sequence parts) s stop =
        FlagsStop X parts s stop
        ⊎ ((flags : List Bool) × (r : Spot) × Present parts flags × Came X s r (flag_bits parts flags) 0 × IfPartStops (present_from l 0 parts ts flags) r stop)
    ContentStops l ts (form.Choice parts) s stop =
        NumberStops X aligned (length parts - 1) s stop
        ⊎ ((i : ℕ) × (r : Spot) × (i ≤ length parts - 1) × Came X s r (number_bits aligned (length parts - 1) i s.at) 0
        × IfPartStops (alone (place_at l i (slice_get parts i) (slice_get ts i))) r stop)
    ContentStops l ts (form.SequenceOf part least most) s stop = ItemsStop (place_at l 0 (Some part) (slice_get ts 0)) least most s stop
    ContentStops l ts (form.Ref to) s stop = ⊥

  -- All parts of a node fit, and its number, index or size is within bounds.
  abbrev pub PartsFit : ℕ → Rose TypeLabel → Rose ValueLabel → Type 0
  PartsFit depth t (node l vs) = elim (places (resolve M t) l (length_all vs)) [ None ↦ ⊥ | Some ps ↦ FitEach M depth ps vs ] × HasOctets l

  -- All fields and parts of a node were read, but its first node breaks a rule. The fault extends from its first bit to its end.
  abbrev pub RuleStops : ℕ → Rose TypeLabel → Spot → Stop → Type 0
  RuleStops depth t s stop =
      (v : Rose ValueLabel) × (r : Spot) × PartsFit depth t v × Came X s r (per aligned M t v s.at) (node_count v)
      × ((IsNoText (label_of v) × (stop ≡ stop_at s.at NotUtf8 r.at)) ⊎ ((IsNoText (label_of v) → ⊥) × (Own M t v → ⊥) × (stop ≡ stop_at s.at NotAValue r.at)))

  -- A node stops: before its fields, in them or in its parts, or after them all. At most `levels` nodes are nested from it down to
  -- the node that stops.
  unfoldable pub NodeStops : ℕ → ℕ → Rose TypeLabel → Spot → Stop → Type 0
  NodeStops zero depth t s stop = ⊥
  NodeStops (suc levels) depth t s stop =
      EntryStops depth s stop
      ⊎ (Enters depth s
      × ContentStops depth (λ p. NodeStops levels (below p.role depth) p.type) (label_of (resolve M t)) (kids_of (resolve M t)) (label_of (resolve M t)).form (moved s 0 1) stop)
      ⊎ (Enters depth s × RuleStops depth t s stop)

  -- The root stops, or the padding of the last octet after it.
  abbrev pub RootStops : Rose TypeLabel → Stop → Type 0
  RootStops t stop = ((levels : ℕ) × NodeStops levels 1 t start stop) ⊎ ((v : Rose ValueLabel) × (r : Spot) × ValueStands 1 t start v r × LastStops X r stop)

-- The bits stop first, for the type of assignment t, in one of the two variants.
abbrev pub StopsFirstBy : Bool → List Assignment → ℕ → List Bool → Stop → Type 0
StopsFirstBy aligned M t X stop = elim (slice_get M t) [ None ↦ ⊥ | Some a ↦ RootStops aligned M X a.body stop ]

-- The bits stop first, in the aligned variant.
abbrev pub StopsFirst : List Assignment → ℕ → List Bool → Stop → Type 0
StopsFirst = StopsFirstBy true
