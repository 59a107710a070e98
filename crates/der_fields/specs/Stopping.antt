-- Where octets stop first, and why (X.690). Nodes are read in the order of their first octets. The order at each node is its
-- identifier, whether one node more is allowed, its length, its contents, and its rule. What precedes the fault is stated by the
-- octets of values. The list ends where the contents around a node end.
use Rattle.std.specs.Prelude.{◌≡◌, ℕ, zero, suc, ◌+◌, ◌<◌, ◌≤◌, ◌⊎◌, true, false, Option, Some, None, List, [], length, take, drop, slice_get, IsUtf8}
use Rattle.base_trees.specs.Rose.{Rose, node, label_of, kids_of, node_count, length_all}
use Rattle.simple_types.specs.declared.labels.ValueLabel.{ValueLabel}
use Rattle.simple_types.specs.declared.labels.ValueLabel.TheVariants as value
use Rattle.simple_types.specs.declared.standards.Standard.TheVariants.{Free, Default, Fixed}
use Rattle.asn_types.specs.declared.modules.Assignment.{Assignment}
use Rattle.asn_types.specs.declared.types.Component.{Component}
use Rattle.asn_types.specs.declared.types.Form.{Form}
use Rattle.asn_types.specs.declared.types.Form.TheVariants as form
use Rattle.asn_types.specs.declared.types.TypeLabel.{TypeLabel}
use Rattle.asn_types.specs.Parts.{parts_of}
use Rattle.asn_types.specs.Refs.{resolve}
use Rattle.asn_types.specs.Spaces.{spelling}
use Rattle.asn_values.specs.Values.{ComponentPlace, place_at, places, below, FitsAt, FitEach, Own, Kept}
use Rattle.base_codecs.specs.declared.spots.Spot.{Spot}
use Rattle.base_codecs.specs.Reading.{moved}
use Rattle.base_codecs.specs.Codec.{most_nodes, Came}
use Rattle.base_codecs.specs.Sequences.{AllFit, all_write, all_weight, AlternativeFits, alternative_write}
use Rattle.base_codecs.specs.Stopping.{ItemsStop, PartsStop, AlternativeStops}
use Rattle.der_fields.specs.declared.stops.Stop.{Stop}
use Rattle.der_fields.specs.declared.stops.Why.{Why}
use Rattle.der_fields.specs.declared.stops.Why.TheVariants.{Short, Tag, TooDeep, TooMany, Range, NotUtf8, DefaultWritten, NotAValue}
use Rattle.der_fields.specs.Octets.{length_octets, begins}
use Rattle.der_fields.specs.FieldsReading.{stop_at}
use Rattle.per_fields.specs.Nodes.{most_deep}
use Rattle.der_fields.specs.Encoding.{TaggedPlace, tagged_place, identifier, is_open, der}
use Rattle.der_fields.specs.Reading.{unexpected, is_optional, starts, parts_from, is_size, start}
use Rattle.der_fields.specs.Faults.{LengthFault, BooleanFault, IntegerFault, EnumeratedFault}

-- The octets of the text are not UTF-8.
abbrev pub IsNoText : ValueLabel → Type 0
IsNoText (value.Utf8 text) = IsUtf8 text → ⊥
IsNoText _ = ⊥

-- The node would be the 65th nested element, or one node too many. `depth` elements are nested down to the node, including itself.
abbrev pub EntryStops : ℕ → Spot → Stop → Type 0
EntryStops depth s stop = ((most_deep < depth) × (stop ≡ stop_at s.at TooDeep)) ⊎ ((depth ≤ most_deep) × (most_nodes ≤ s.nodes) × (stop ≡ stop_at s.at TooMany))

-- The node is neither too deep nor one too many.
abbrev pub Enters : ℕ → Spot → Type 0
Enters depth s = (depth ≤ most_deep) × (s.nodes < most_nodes)

-- The spelling of a default or fixed value.
abbrev pub part_text : Component → Option (List ℕ)
part_text part = elim part.standard [ Free ↦ None | Default text ↦ Some text | Fixed text ↦ Some text ]

-- The octets that remain have a fault, which is reported where they begin.
abbrev pub LeftStops : List ℕ → (List ℕ → Why → Type 0) → Spot → Stop → Type 0
LeftStops X Fault s stop = (why : Why) × Fault (drop s.at X) why × (stop ≡ stop_at s.at why)

-- A length stops. Or the contents after it aren't all there, which is reported at the length. Or they stop, and end with the
-- length.
abbrev pub SizedStops : (List ℕ → Spot → Stop → Type 0) → List ℕ → Spot → Stop → Type 0
SizedStops Contents X s stop =
    LeftStops X LengthFault s stop
    ⊎ ((n : ℕ) × (r : Spot) × Came X s r (length_octets n) 0
    × (((length X < r.at + n) × (stop ≡ stop_at s.at Short)) ⊎ ((r.at + n ≤ length X) × Contents (take (r.at + n) X) r stop)))

module _ (M : List Assignment) where
  -- The octets of a value of the type are between two spots, and its nodes are not too many.
  abbrev pub ValueStands : ℕ → Option ℕ → Rose TypeLabel → List ℕ → Spot → Rose ValueLabel → Spot → Type 0
  ValueStands depth tag t X s v r = FitsAt M depth t v × Came X s r (der M tag t v) (node_count v)

  -- The value fits the part, whose default or fixed value allows it.
  abbrev pub FitsPart : ℕ → TaggedPlace → Rose ValueLabel → Type 0
  FitsPart depth p v = FitsAt M (below p.place.role depth) p.place.type v × Kept M p.place.part p.place.type v

  abbrev pub part_octets : TaggedPlace → Rose ValueLabel → ℕ → List ℕ
  part_octets p v n = der M p.tag p.place.type v

  -- A part that may be absent has its default or fixed value.
  abbrev pub IsDefault : ComponentPlace → Rose ValueLabel → Type 0
  IsDefault p v = (part_text p.part ≡ Some (spelling M p.type v)) × (p.part.optional ≡ true)

  -- The octets of a value of a part are here, but its default or fixed value excludes that value. The fault is reported at the
  -- part's first octet (clause 11.5).
  abbrev pub StandardStops : ℕ → TaggedPlace → List ℕ → Spot → Stop → Type 0
  StandardStops depth p X s stop =
      (v : Rose ValueLabel) × (r : Spot) × ValueStands (below p.place.role depth) p.tag p.place.type X s v r × (Kept M p.place.part p.place.type v → ⊥)
      × ((IsDefault p.place v × (stop ≡ stop_at s.at DefaultWritten)) ⊎ ((IsDefault p.place v → ⊥) × (stop ≡ stop_at s.at NotAValue)))

  module _ (depth : ℕ) (KidStops : TaggedPlace → List ℕ → Spot → Stop → Type 0) where
    -- A part stops, or has an excluded value.
    abbrev pub PartStops : List ℕ → TaggedPlace → Spot → Stop → Type 0
    PartStops X p s stop = KidStops p X s stop ⊎ StandardStops depth p X s stop

    abbrev pub SequenceStops : TypeLabel → List (Rose TypeLabel) → List Component → List ℕ → Spot → Stop → Type 0
    SequenceStops l ts parts X s stop = PartsStop (starts M) is_optional unexpected (FitsPart depth) node_count part_octets X (PartStops X) (parts_from l 0 parts ts) s stop

    -- The alternative of a CHOICE stops. `Alternative` states how one stops that is here.
    abbrev pub ChoiceStops : (TaggedPlace → Spot → Stop → Type 0) → TypeLabel → List (Rose TypeLabel) → List Component → List ℕ → Spot → Stop → Type 0
    ChoiceStops Alternative l ts parts X s stop = AlternativeStops (starts M) is_optional unexpected (FitsPart depth) node_count part_octets X Alternative (parts_from l 0 parts ts) s stop

    -- After the CHOICE of an explicit tag, which has this alternative and this value, there are more octets.
    abbrev pub MoreStands : TypeLabel → List (Rose TypeLabel) → List Component → List ℕ → Spot → Stop → Type 0
    MoreStands l ts parts X s stop =
        (i : ℕ) × (v : Rose ValueLabel) × (r : Spot) × AlternativeFits (FitsPart depth) (parts_from l 0 parts ts) i v
        × Came X s r (alternative_write part_octets (parts_from l 0 parts ts) i v s.at) (node_count v) × (r.at < length X) × (stop ≡ stop_at r.at Tag)

    -- An item stops, after the items before. Or their number is outside its bounds, which is reported at the node.
    abbrev pub ManyStop : ℕ → ℕ → Option ℕ → Option ComponentPlace → List ℕ → Spot → Stop → Type 0
    ManyStop begin least most None X s stop = ⊥
    ManyStop begin least most (Some p) X s stop =
        ((vs : List (Rose ValueLabel)) × ItemsStop (FitsPart depth (tagged_place None p)) node_count (part_octets (tagged_place None p)) X (PartStops X (tagged_place None p)) vs s stop)
        ⊎ ((vs : List (Rose ValueLabel)) × (r : Spot) × AllFit (FitsPart depth (tagged_place None p)) vs
        × Came X s r (all_write (part_octets (tagged_place None p)) vs s.at) (all_weight node_count vs) × (drop r.at X ≡ [])
        × (is_size least most (length vs) ≡ false) × (stop ≡ stop_at begin Range))

    -- The contents of a node stop, which fill the list from here on. Its type has this label, these children and this form.
    abbrev pub ContentStops : ℕ → TypeLabel → List (Rose TypeLabel) → Form → List ℕ → Spot → Stop → Type 0
    ContentStops begin l ts form.Bool X s stop = LeftStops X BooleanFault s stop
    ContentStops begin l ts (form.Int least greatest) X s stop = LeftStops X (IntegerFault least greatest) s stop
    ContentStops begin l ts (form.Numbers numbers) X s stop = LeftStops X (EnumeratedFault (form.Numbers numbers)) s stop
    ContentStops begin l ts (form.Words identifiers words) X s stop = LeftStops X (EnumeratedFault (form.Words identifiers words)) s stop
    ContentStops begin l ts (form.Order identifiers) X s stop = LeftStops X (EnumeratedFault (form.Order identifiers)) s stop
    ContentStops begin l ts (form.Utf8 least most class) X s stop = ⊥
    ContentStops begin l ts (form.Sequence parts) X s stop = SequenceStops l ts parts X s stop
    ContentStops begin l ts (form.Choice parts) X s stop = ChoiceStops (PartStops X) l ts parts X s stop ⊎ MoreStands l ts parts X s stop
    ContentStops begin l ts (form.SequenceOf part least most) X s stop = ManyStop begin least most (place_at l 0 (Some part) (slice_get ts 0)) X s stop
    ContentStops begin l ts (form.Ref to) X s stop = ⊥

    -- A node stops before its rule. A CHOICE without a tag has the identifier of an alternative, and is entered before the
    -- alternative.
    abbrev pub HeadedStops : Option ℕ → TypeLabel → List (Rose TypeLabel) → List ℕ → Spot → Stop → Type 0
    HeadedStops tag l ts X s stop =
        elim (is_open tag l.form) [
          | true ↦ ChoiceStops (λ p r stop. EntryStops depth r stop ⊎ (Enters depth r × PartStops X p (moved r 0 1) stop)) l ts (parts_of l.form) X s stop
          | false ↦
              ((begins (identifier tag l.form) (drop s.at X) ≡ false) × (stop ≡ stop_at s.at Tag))
              ⊎ ((begins (identifier tag l.form) (drop s.at X) ≡ true)
              × (EntryStops depth s stop ⊎ (Enters depth s × SizedStops (ContentStops s.at l ts l.form) X (moved s (length (identifier tag l.form)) 1) stop)))
        ]

  -- All parts of a node fit, and its number, index or size is within bounds.
  abbrev pub ContentFits : ℕ → Rose TypeLabel → Rose ValueLabel → Type 0
  ContentFits depth t (node l vs) = elim (places (resolve M t) l (length_all vs)) [ None ↦ ⊥ | Some ps ↦ FitEach M depth ps vs ]

  -- All contents of a node were read, but its first node breaks a rule. The fault is reported at its first octet.
  abbrev pub RuleStops : ℕ → Option ℕ → Rose TypeLabel → List ℕ → Spot → Stop → Type 0
  RuleStops depth tag t X s stop =
      (v : Rose ValueLabel) × (r : Spot) × (depth ≤ most_deep) × ContentFits depth t v × Came X s r (der M tag t v) (node_count v)
      × ((IsNoText (label_of v) × (stop ≡ stop_at s.at NotUtf8)) ⊎ ((IsNoText (label_of v) → ⊥) × (Own M t v → ⊥) × (stop ≡ stop_at s.at NotAValue)))

  -- A node stops. At most `levels` nodes are nested from it down to the node that stops.
  unfoldable pub NodeStops : ℕ → ℕ → Option ℕ → Rose TypeLabel → List ℕ → Spot → Stop → Type 0
  NodeStops zero depth tag t X s stop = ⊥
  NodeStops (suc levels) depth tag t X s stop =
      HeadedStops depth (λ p. NodeStops levels (below p.place.role depth) p.tag p.place.type) tag (label_of (resolve M t)) (kids_of (resolve M t)) X s stop
      ⊎ RuleStops depth tag t X s stop

  -- The root stops, or is missing.
  abbrev pub RootStops : Rose TypeLabel → List ℕ → Stop → Type 0
  RootStops t X stop = ((X ≡ []) × (stop ≡ stop_at 0 Short)) ⊎ ((0 < length X) × ((levels : ℕ) × NodeStops levels 1 None t X start stop))

-- Octets stop first, read as those of a value of the type of assignment t.
abbrev pub DerStop : List Assignment → ℕ → List ℕ → Stop → Type 0
DerStop M t X stop = elim (slice_get M t) [ None ↦ ⊥ | Some a ↦ RootStops M a.body X stop ]
