-- The parts of a node, and its fields before them, stop where reading them stops.
use Rattle.std.proofs.Common.{◌≡◌, ℕ, ◌+◌, ◌-◌, ◌<◌, ◌≤◌, Bool, true, false, eqb, ltb, List, [], ◌∷◌, length, refl, ap, ◌∙◌, subst, arith, Option, Some, None, Result, Ok, Err, inl, inr, ◌⊎◌}
use Rattle.std.specs.Prelude.{slice_get, replicate}
use Rattle.base_trees.specs.Rose.{Rose, node_count}
use Rattle.simple_types.specs.declared.labels.ValueLabel.{ValueLabel}
use Rattle.simple_types.specs.declared.labels.ValueLabel.TheVariants as value
use Rattle.asn_types.specs.declared.modules.Assignment.{Assignment}
use Rattle.asn_types.specs.declared.types.Component.{Component}
use Rattle.asn_types.specs.declared.types.Form.{Form}
use Rattle.asn_types.specs.declared.types.Form.TheVariants as form
use Rattle.asn_types.specs.declared.types.TypeLabel.{TypeLabel}
use Rattle.asn_types.specs.Modules.{IsForm}
use Rattle.asn_types.specs.Parts.{parts_of}
use Rattle.asn_types.specs.Refs.{target}
use Rattle.asn_values.specs.Values.{ComponentPlace, place_at, alone, present_from, below, FitsAt, Kept}
use Rattle.base_codecs.specs.declared.spots.Spot.{Spot}
use Rattle.base_codecs.specs.Reading.{with_spot}
use Rattle.base_codecs.proofs.Codecs.{bind_ok, ok_is}
use Rattle.base_codecs.proofs.Steps.{Iff, Told, Inside, none_stops, map_told}
use Rattle.per_fields.specs.declared.stops.Stop.{Stop}
use Rattle.per_fields.specs.Reading.{◌>>=◌, Reader, bits_at, octets_at, each_at}
use Rattle.per_fields.specs.Fields.{number_bits, number_at, whole_at, counted_at, sized_at, list_at}
use Rattle.per_fields.specs.Codec.{Came}
use Rattle.per_fields.specs.Encoding.{flag_bits, per}
use Rattle.per_fields.specs.Laws.{Present}
use Rattle.per_fields.specs.Nodes.{leaf_of, bool_at, int_at, enum_at, text_at, flag_at, node_of, kids_at, sequence_at, choice_at, items_at, content_at}
use Rattle.per_fields.proofs.NumberLaws.{number_field}
use Rattle.per_fields.proofs.Levels.{Each, EachKid, IfPlaces, IfPlace, present-each, kid-each, alone-each, copies-each}
use Rattle.per_fields.proofs.NodeLaws.{KidCodec, flags_field}
use Rattle.per_fields.specs.Faults.{NumberStops, FlagsStop}
use Rattle.per_fields.specs.Stopping.{OctetsStand, OctetsEnd, StandardStops, ValuesStand, PartStops, IfPartStops, ItemsCounted, ItemsNumbered, ItemsStop, ContentStops}
use Rattle.per_fields.proofs.Steps.{after, came, goes, then_both, bits_end}
use Rattle.per_fields.proofs.StopFields.{number_told, whole_told, flags_told}
use Rattle.per_fields.proofs.StopFragments.{AreRead, counted, octets_read}

-- the parts of a type with this form are there
pub record AreThere (l : TypeLabel) (ts : List (Rose TypeLabel)) (f : Form) : Type 0 where
  pub no_reference : target f ≡ None
  pub present : (flags : List Bool) → Present (parts_of f) flags → present_from l 0 (parts_of f) ts flags ≡ None → ⊥
  pub part : (i : ℕ) → i < length (parts_of f) → place_at l i (slice_get (parts_of f) i) (slice_get ts i) ≡ None → ⊥

-- What stops is told in one word, and follows from another.
module _ (aligned : Bool) (M : List Assignment) (X : List Bool) (depth : ℕ) (kid : ComponentPlace → Reader (Rose ValueLabel)) (Kid Kid' : ComponentPlace → Spot → Stop → Type 0) where
  -- the part is read where the bits of a value stand, and where it stops is known
  abbrev pub IsKnown : ComponentPlace → Type 0
  IsKnown p = KidCodec aligned M depth kid p × ((s : Spot) (stop : Stop) → Inside X s → Told (kid p X s ≡ Err stop) (Kid p s stop ⊎ StandardStops aligned M X depth p s stop) (Kid' p s stop ⊎ StandardStops aligned M X depth p s stop))

  -- its value fits, and its default or fixed value is kept
  abbrev Fitting : ComponentPlace → Rose ValueLabel → Type 0
  Fitting p v = FitsAt M (below p.role depth) p.type v × Kept M p.part p.type v

  each_told : (ps : List ComponentPlace) → Each IsKnown ps → (s : Spot) (stop : Stop) → Inside X s → Told (each_at kid ps X s ≡ Err stop) (PartStops aligned M X depth Kid ps s stop) (PartStops aligned M X depth Kid' ps s stop)
  unfolding each_at
  each_told [] known s stop inside = (λ e. none_stops [] s stop e, λ h. absurd h)
  each_told (p ∷ ps) known s stop inside = first (λ r in_. each_told ps known.1 r stop in_)
    where
      others : Rose ValueLabel × Spot → Result (List (Rose ValueLabel) × Spot) Stop
      others b = each_at kid ps X b.1 >>= λ bs. with_spot (b.0 ∷ bs.0) bs.1

      further : (v : Rose ValueLabel) (r : Spot) → Told (each_at kid ps X r ≡ Err stop) (PartStops aligned M X depth Kid ps r stop) (PartStops aligned M X depth Kid' ps r stop)
          → Told (others (v, r) ≡ Err stop) (PartStops aligned M X depth Kid ps r stop) (PartStops aligned M X depth Kid' ps r stop)
      further v r k = let m = map_told (each_at kid ps X r) (λ bs. v ∷ bs) stop in (λ e. k.0 (m.0 e), λ h. m.1 (k.1 h))

      One : (ComponentPlace → Spot → Stop → Type 0) → Type 0
      One K = K p s stop ⊎ StandardStops aligned M X depth p s stop

      Behind : (ComponentPlace → Spot → Stop → Type 0) → Type 0
      Behind K = (v : Rose ValueLabel) × (r : Spot) × Fitting p v × Came X s r (per aligned M p.type v s.at) (node_count v) × PartStops aligned M X depth K ps r stop

      forth : One Kid ⊎ Behind Kid → PartStops aligned M X depth Kid (p ∷ ps) s stop
      forth (inl (inl h)) = inl h
      forth (inl (inr h)) = inr (inl h)
      forth (inr k) = inr (inr (k.0, k.1, ((k.2.0, k.3), k.2.1), k.4))

      back : PartStops aligned M X depth Kid' (p ∷ ps) s stop → One Kid' ⊎ Behind Kid'
      back (inl h) = inl (inl h)
      back (inr (inl h)) = inl (inr h)
      back (inr (inr k)) = inr (k.0, k.1, (k.2.0.0, k.2.1), k.2.0.1, k.3)

      first : ((r : Spot) → Inside X r → Told (each_at kid ps X r ≡ Err stop) (PartStops aligned M X depth Kid ps r stop) (PartStops aligned M X depth Kid' ps r stop))
          → Told ((kid p X s >>= others) ≡ Err stop) (PartStops aligned M X depth Kid (p ∷ ps) s stop) (PartStops aligned M X depth Kid' (p ∷ ps) s stop)
      first rest =
          let told : Told ((kid p X s >>= others) ≡ Err stop) (One Kid ⊎ Behind Kid) (One Kid' ⊎ Behind Kid') =
          then_both X (Fitting p) node_count (per aligned M p.type) (kid p) known.0.0 others (One Kid) (One Kid')
          (λ v r. PartStops aligned M X depth Kid ps r stop) (λ v r. PartStops aligned M X depth Kid' ps r stop) s stop inside (known.0.1 s stop inside) (λ v r fits in_. further v r (rest r in_)) in
          (λ e. forth (told.0 e), λ h. told.1 (back h))

  each_stand : (ps : List ComponentPlace) → Each IsKnown ps → (s r : Spot) (vs : List (Rose ValueLabel)) → Inside X s → each_at kid ps X s ≡ Ok (vs, r) → ValuesStand aligned M X depth ps s r
  unfolding each_at
  each_stand [] known s r vs inside e = ap (λ (y : List (Rose ValueLabel) × Spot). y.1) (ok_is ([], s) (vs, r) e)
  each_stand (p ∷ ps) known s r vs inside e =
      let a = bind_ok (kid p X s) (λ b. each_at kid ps X b.1 >>= λ bs. with_spot (b.0 ∷ bs.0) bs.1) (vs, r) e in
      let c = came X (Fitting p) node_count (per aligned M p.type) (kid p) known.0.0 s a.0.0 a.0.1 inside a.1 in
      let b = bind_ok (each_at kid ps X a.0.1) (λ bs. with_spot (a.0.0 ∷ bs.0) bs.1) (vs, r) a.2 in
      let l = each_stand ps known.1 a.0.1 b.0.1 b.0.0 (after X s a.0.1 (per aligned M p.type a.0.0 s.at) (node_count a.0.0) inside c.1) b.1 in
      (a.0.0, a.0.1, ((c.0.0, c.1), c.0.1), subst (λ (y : List (Rose ValueLabel) × Spot). ValuesStand aligned M X depth ps a.0.1 y.1) (ok_is (a.0.0 ∷ b.0.0, b.0.1) (vs, r) b.2) l)

  each_goes : (ps : List ComponentPlace) → Each IsKnown ps → (s r : Spot) → Inside X s → ValuesStand aligned M X depth ps s r → (vs : List (Rose ValueLabel)) × (each_at kid ps X s ≡ Ok (vs, r))
  unfolding each_at
  each_goes [] known s r inside h = ([], ap (λ q. Ok ([], q)) h)
  each_goes (p ∷ ps) known s r inside h =
      let one = goes X (Fitting p) node_count (per aligned M p.type) (kid p) known.0.0 s h.0 h.1 inside (h.2.0.0, h.2.1) h.2.0.1 in
      let others = each_goes ps known.1 h.1 r (after X s h.1 (per aligned M p.type h.0 s.at) (node_count h.0) inside h.2.0.1) h.3 in
      (h.0 ∷ others.0, ap (λ q. q >>= λ b. each_at kid ps X b.1 >>= λ bs. with_spot (b.0 ∷ bs.0) bs.1) one ∙ ap (λ q. q >>= λ bs. with_spot (h.0 ∷ bs.0) bs.1) others.1)

  each_within : (ps : List ComponentPlace) (s r : Spot) → Inside X s → ValuesStand aligned M X depth ps s r → Inside X r × (s.at ≤ r.at)
  each_within [] s r inside h = (subst (Inside X) h inside, omega (arith, ap (λ q. q.at) h))
  each_within (p ∷ ps) s r inside h =
      let k = each_within ps h.1 r (after X s h.1 (per aligned M p.type h.0 s.at) (node_count h.0) inside h.2.0.1) h.3 in
      (k.0, omega (arith, k.1, h.2.0.1.taken.end))

  -- items are read where they stand
  items_read : (p : ComponentPlace) → IsKnown p
      → AreRead aligned X (λ n. each_at kid (replicate n p)) (λ n s r. ValuesStand aligned M X depth (replicate n p) s r) (λ n s stop. PartStops aligned M X depth Kid (replicate n p) s stop) (λ n s stop. PartStops aligned M X depth Kid' (replicate n p) s stop)
  items_read p known = record {
    stand = λ n s r vs inside e. each_stand (replicate n p) (copies-each IsKnown n p known) s r vs inside e;
    goes = λ n s r inside h. each_goes (replicate n p) (copies-each IsKnown n p known) s r inside h;
    within = λ n s r inside h. each_within (replicate n p) s r inside h;
    told = λ n s stop inside. each_told (replicate n p) (copies-each IsKnown n p known) s stop inside;
  }

  -- the parts of a node with a label
  kids_told : (l : ValueLabel) (o : Option (List ComponentPlace)) → IfPlaces IsKnown o → (o ≡ None → ⊥) → (s : Spot) (stop : Stop) → Inside X s
      → Told (kids_at kid l o X s ≡ Err stop) (IfPartStops aligned M X depth Kid o s stop) (IfPartStops aligned M X depth Kid' o s stop)
  unfolding kids_at
  kids_told l None known some s stop inside = absurd (some refl)
  kids_told l (Some ps) known some s stop inside =
      let k = each_told ps known s stop inside in
      let m = map_told (each_at kid ps X s) (node_of l) stop in
      (λ e. k.0 (m.0 e), λ h. m.1 (k.1 h))

  -- SEQUENCE OF
  counted_told : (p : ComponentPlace) → IsKnown p → (least : ℕ) (most : Option ℕ) (s : Spot) (stop : Stop) → Inside X s
      → Told (counted_at aligned least most (λ n. each_at kid (replicate n p)) X s ≡ Err stop) (ItemsCounted aligned M X depth Kid p least most s stop) (ItemsCounted aligned M X depth Kid' p least most s stop)
  counted_told p known least most s stop inside =
      counted aligned X (λ n. each_at kid (replicate n p)) (λ n s r. ValuesStand aligned M X depth (replicate n p) s r) (λ n s stop. PartStops aligned M X depth Kid (replicate n p) s stop) (λ n s stop. PartStops aligned M X depth Kid' (replicate n p) s stop)
      least most (items_read p known) s stop inside

  sized_told : (p : ComponentPlace) → IsKnown p → (least most : ℕ) (s : Spot) (stop : Stop) → Inside X s
      → Told (sized_at aligned least most (λ n. each_at kid (replicate n p)) X s ≡ Err stop) (ItemsNumbered aligned M X depth Kid p least most s stop) (ItemsNumbered aligned M X depth Kid' p least most s stop)
  unfolding sized_at
  sized_told p known least most s stop inside =
      then_both X (λ n. n ≤ most - least) (λ n. 0) (number_bits aligned (most - least)) (number_at aligned (most - least)) (number_field aligned (most - least)) (λ n. each_at kid (replicate (least + n.0) p) X n.1) (NumberStops X aligned (most - least) s stop) (NumberStops X aligned (most - least) s stop)
      (λ n r. PartStops aligned M X depth Kid (replicate (least + n) p) r stop) (λ n r. PartStops aligned M X depth Kid' (replicate (least + n) p) r stop) s stop inside (number_told X aligned (most - least) s stop inside)
      (λ n r le in_. each_told (replicate (least + n) p) (copies-each IsKnown (least + n) p known) r stop in_)

  list_told : (p : ComponentPlace) → IsKnown p → (least : ℕ) (most : Option ℕ) (s : Spot) (stop : Stop) → Inside X s
      → Told (list_at aligned least most (λ n. each_at kid (replicate n p)) X s ≡ Err stop) (ItemsStop aligned M X depth Kid (Some p) least most s stop) (ItemsStop aligned M X depth Kid' (Some p) least most s stop)
  unfolding list_at
  list_told p known least None s stop inside = counted_told p known least None s stop inside
  list_told p known least (Some most) s stop inside = by (ltb most 65536)
    where
      by : (b : Bool)
          → Told ((elim b as (λ _. Result (List (Rose ValueLabel) × Spot) Stop) [ true ↦ sized_at aligned least most (λ n. each_at kid (replicate n p)) X s | false ↦ counted_at aligned least (Some most) (λ n. each_at kid (replicate n p)) X s ]) ≡ Err stop)
          (elim b as (λ _. Type 0) [ true ↦ ItemsNumbered aligned M X depth Kid p least most s stop | false ↦ ItemsCounted aligned M X depth Kid p least (Some most) s stop ])
          (elim b as (λ _. Type 0) [ true ↦ ItemsNumbered aligned M X depth Kid' p least most s stop | false ↦ ItemsCounted aligned M X depth Kid' p least (Some most) s stop ])
      by true = sized_told p known least most s stop inside
      by false = counted_told p known least (Some most) s stop inside

  items_told : (o : Option ComponentPlace) → IfPlace IsKnown o → (o ≡ None → ⊥) → (least : ℕ) (most : Option ℕ) (s : Spot) (stop : Stop) → Inside X s
      → Told (items_at aligned kid least most o X s ≡ Err stop) (ItemsStop aligned M X depth Kid o least most s stop) (ItemsStop aligned M X depth Kid' o least most s stop)
  unfolding items_at
  items_told None known some least most s stop inside = absurd (some refl)
  items_told (Some p) known some least most s stop inside =
      let k = list_told p known least most s stop inside in
      let m = map_told (list_at aligned least most (λ n. each_at kid (replicate n p)) X s) (node_of value.SequenceOf) stop in
      (λ e. k.0 (m.0 e), λ h. m.1 (k.1 h))

  sequence_told : (l : TypeLabel) (ts : List (Rose TypeLabel)) (parts : List Component) → EachKid IsKnown l 0 parts ts → ((flags : List Bool) → Present parts flags → present_from l 0 parts ts flags ≡ None → ⊥)
      → (s : Spot) (stop : Stop) → Inside X s → Told (sequence_at kid l ts parts X s ≡ Err stop) (ContentStops aligned M X depth Kid l ts (form.Sequence parts) s stop) (ContentStops aligned M X depth Kid' l ts (form.Sequence parts) s stop)
  unfolding sequence_at
  sequence_told l ts parts known some s stop inside =
      then_both X (Present parts) (λ fs. 0) (λ fs p. flag_bits parts fs) (each_at flag_at parts) (flags_field parts) (λ fs. kids_at kid (value.Sequence fs.0) (present_from l 0 parts ts fs.0) X fs.1) (FlagsStop X parts s stop) (FlagsStop X parts s stop)
      (λ fs r. IfPartStops aligned M X depth Kid (present_from l 0 parts ts fs) r stop) (λ fs r. IfPartStops aligned M X depth Kid' (present_from l 0 parts ts fs) r stop) s stop inside (flags_told X parts s stop inside)
      (λ fs r present in_. kids_told (value.Sequence fs) (present_from l 0 parts ts fs) (present-each IsKnown l 0 parts ts fs known) (some fs present) r stop in_)

  choice_told : (l : TypeLabel) (ts : List (Rose TypeLabel)) (parts : List Component) → 0 < length parts → EachKid IsKnown l 0 parts ts → ((i : ℕ) → i < length parts → place_at l i (slice_get parts i) (slice_get ts i) ≡ None → ⊥)
      → (s : Spot) (stop : Stop) → Inside X s → Told (choice_at aligned kid l ts parts X s ≡ Err stop) (ContentStops aligned M X depth Kid l ts (form.Choice parts) s stop) (ContentStops aligned M X depth Kid' l ts (form.Choice parts) s stop)
  unfolding choice_at
  choice_told l ts parts some known there s stop inside =
      then_both X (λ i. i ≤ length parts - 1) (λ i. 0) (number_bits aligned (length parts - 1)) (number_at aligned (length parts - 1)) (number_field aligned (length parts - 1))
      (λ i. kids_at kid (value.Choice i.0) (alone (place_at l i.0 (slice_get parts i.0) (slice_get ts i.0))) X i.1) (NumberStops X aligned (length parts - 1) s stop) (NumberStops X aligned (length parts - 1) s stop)
      (λ i r. IfPartStops aligned M X depth Kid (alone (place_at l i (slice_get parts i) (slice_get ts i))) r stop) (λ i r. IfPartStops aligned M X depth Kid' (alone (place_at l i (slice_get parts i) (slice_get ts i))) r stop) s stop inside
      (number_told X aligned (length parts - 1) s stop inside)
      (λ i r le in_. kids_told (value.Choice i) (alone (place_at l i (slice_get parts i) (slice_get ts i)))
      (alone-each IsKnown (place_at l i (slice_get parts i) (slice_get ts i)) (kid-each IsKnown l 0 i i parts ts (omega arith) known))
      (not_alone (place_at l i (slice_get parts i) (slice_get ts i)) (there i (omega (arith, le, some)))) r stop in_)
    where
      not_alone : (o : Option ComponentPlace) → (o ≡ None → ⊥) → alone o ≡ None → ⊥
      not_alone None h e = h refl
      not_alone (Some p) h e = absurd cc

  enum_told : (items : ℕ) (s : Spot) (stop : Stop) → Inside X s → Iff (enum_at aligned items X s ≡ Err stop) (NumberStops X aligned (items - 1) s stop)
  unfolding enum_at
  enum_told items s stop inside =
      let k = number_told X aligned (items - 1) s stop inside in
      let m = map_told (number_at aligned (items - 1) X s) (λ i. leaf_of (value.Enum i)) stop in
      (λ e. k.0 (m.0 e), λ h. m.1 (k.1 h))

  pub content_told : (l : TypeLabel) (ts : List (Rose TypeLabel)) (f : Form) → IsForm M f → EachKid IsKnown l 0 (parts_of f) ts → AreThere l ts f → (s : Spot) (stop : Stop) → Inside X s
      → Told (content_at aligned kid l ts f X s ≡ Err stop) (ContentStops aligned M X depth Kid l ts f s stop) (ContentStops aligned M X depth Kid' l ts f s stop)
  unfolding content_at bool_at int_at text_at
  content_told l ts form.Bool is known there s stop inside =
      let k = bits_end X s.at 1 s stop in
      let m = map_told (bits_at s.at 1 X s) (λ b. leaf_of (value.Bool (eqb b 1))) stop in
      (λ e. k.0 (m.0 e), λ h. m.1 (k.1 h))
  content_told l ts (form.Int least greatest) is known there s stop inside =
      let k = whole_told X aligned least greatest s stop inside in
      let m = map_told (whole_at aligned least greatest X s) (λ z. leaf_of (value.Int z)) stop in
      (λ e. k.0 (m.0 e), λ h. m.1 (k.1 h))
  content_told l ts (form.Numbers numbers) is known there s stop inside = enum_told (length numbers) s stop inside
  content_told l ts (form.Words identifiers words) is known there s stop inside = enum_told (length words) s stop inside
  content_told l ts (form.Order identifiers) is known there s stop inside = enum_told (length identifiers) s stop inside
  content_told l ts (form.Utf8 least most class) is known there s stop inside =
      let k = counted aligned X octets_at (OctetsStand X) (OctetsEnd X) (OctetsEnd X) 0 None (octets_read aligned X) s stop inside in
      let m = map_told (counted_at aligned 0 None octets_at X s) (λ text. leaf_of (value.Utf8 text)) stop in
      (λ e. k.0 (m.0 e), λ h. m.1 (k.1 h))
  content_told l ts (form.Sequence parts) is known there s stop inside = sequence_told l ts parts known there.present s stop inside
  content_told l ts (form.Choice parts) is known there s stop inside = choice_told l ts parts is.0 known there.part s stop inside
  content_told l ts (form.SequenceOf part least most) is known there s stop inside =
      items_told (place_at l 0 (Some part) (slice_get ts 0)) (kid-each IsKnown l 0 0 0 (part ∷ []) ts (omega arith) known) (there.part 0 (omega arith)) least most s stop inside
  content_told l ts (form.Ref to) is known there s stop inside = absurd (no_target to there.no_reference)
    where
      no_target : (to : ℕ) → Some to ≡ None → ⊥
      no_target to e = absurd cc
