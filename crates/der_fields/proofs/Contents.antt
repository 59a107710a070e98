-- The contents of a node are read as they are written, where its kids are.
use Rattle.std.proofs.Common.{◌≡◌, ℕ, zero, suc, ◌+◌, ◌<◌, Bool, true, false, cond, eqb, ltb, not, ◌&&◌, ◌||◌, ℤ, pos, Option, Some, None, List, [], ◌∷◌, ◌++◌, length, refl, sym, ap, ◌∙◌, subst, arith, append_assoc, Result, Ok}
use Rattle.std.specs.Prelude.{slice_get, replicate}
use Rattle.std.proofs.lemmas.List.{append-nil}
use Rattle.std.proofs.lemmas.Bool.{lt-ltb, ltb-true, eqb-true, not-false}
use Rattle.base_trees.specs.Rose.{Rose, node, Roses, none, more, roses_of, list_of, label_of, node_count, count_all, length_all}
use Rattle.simple_types.specs.declared.labels.ValueLabel.{ValueLabel}
use Rattle.simple_types.specs.declared.labels.ValueLabel.TheVariants as value
use Rattle.simple_types.specs.Lexical.{is_128_bits, is_from, is_to}
use Rattle.asn_types.specs.declared.modules.Assignment.{Assignment}
use Rattle.asn_types.specs.declared.types.Component.{Component}
use Rattle.asn_types.specs.declared.types.Form.{Form}
use Rattle.asn_types.specs.declared.types.Form.TheVariants as form
use Rattle.asn_types.specs.declared.types.TypeLabel.{TypeLabel}
use Rattle.asn_types.specs.Bounds.{HasBounds}
use Rattle.asn_types.specs.Modules.{IsForm}
use Rattle.asn_types.specs.Parts.{parts_of}
use Rattle.asn_types.specs.Refs.{resolve}
use Rattle.asn_values.specs.Values.{ComponentPlace, place_of, put_first, present_from, place_at, alone, none_if, places_in, below, FitsAt, FitEach, Kept}
use Rattle.base_codecs.specs.declared.spots.Spot.{Spot}
use Rattle.base_codecs.specs.Reading.{Writer, stop_if, with_spot, left_at}
use Rattle.base_codecs.specs.Codec.{CodecBefore, Anything, Nothing, Codec, Filling}
use Rattle.base_codecs.specs.Sequences.{items_at, parts_at, alternative_at, AllFit, all_weight, all_write, PartsFit, parts_weight, parts_write, AlternativeFits, alternative_write, HasHead, IsApart, AreHeads, EachCodec}
use Rattle.base_codecs.proofs.Codecs.{stop_ok, stop_not, ok_is, check_codec, map_codec, other_words, never_codec, left_codec, ended_codec}
use Rattle.base_codecs.proofs.Sequences.{cond_true, items_codec, parts_codec, alternative_codec}
use Rattle.der_fields.specs.declared.stops.Stop.{Stop}
use Rattle.der_fields.specs.declared.stops.Why.TheVariants.{Tag, Content, Range}
use Rattle.der_fields.specs.Octets.{signed_octets, begins, context_identifier, form_bit, sevens}
use Rattle.der_fields.specs.FieldsReading.{stop_at, AreOctets, Octets}
use Rattle.der_fields.proofs.Heads.{begins_all, apart}
use Rattle.per_fields.proofs.Levels.{EachKid}
use Rattle.per_fields.proofs.NodeLaws.{below_of, roses_again, list_again}
use Rattle.der_fields.specs.Encoding.{TaggedPlace, tagged_place, tags_from, tags_of, tagged, is_constructed, item_number, contents, der, each_der}
use Rattle.der_fields.specs.Reading.{leaf_of, node_of, bool_of, bool_at, whole_at, int_of, int_at, item_at, enum_at, text_at, unexpected, is_optional, starts, parts_from, flags_of, those_of, sequence_of, choice_of, is_size, never, sequence_at, choice_at, sequence_of_at, contents_at}
use Rattle.der_fields.proofs.Numbers.{IsWhole, whole_codec, HasItems, numbers_items, words_items, order_items, item_codec}

list_long : (vs : Roses ValueLabel) → length (list_of vs) ≡ length_all vs
list_long none = refl
list_long (more v vs) = ap suc (list_long vs)

roses_long : (vs : List (Rose ValueLabel)) → length_all (roses_of vs) ≡ length vs
roses_long [] = refl
roses_long (v ∷ vs) = ap suc (roses_long vs)

module _ (M : List Assignment) (depth : ℕ) (kid : TaggedPlace → Octets (Rose ValueLabel)) where
  abbrev pub FitPart : ComponentPlace → Rose ValueLabel → Type 0
  FitPart p v = FitsAt M (below p.role depth) p.type v × Kept M p.part p.type v

  abbrev pub FitKid : TaggedPlace → Rose ValueLabel → Type 0
  FitKid p v = FitPart p.place v

  abbrev pub kid_write : TaggedPlace → Rose ValueLabel → Writer ℕ
  kid_write p v n = der M p.tag p.place.type v

  abbrev pub KidCodec : TaggedPlace → Type 0
  KidCodec p = Codec AreOctets (FitKid p) node_count (kid_write p) (kid p)

  -- it is read with any tag, and has octets
  abbrev pub IsKnown : ComponentPlace → Type 0
  IsKnown p = (tag : Option ℕ) → KidCodec (tagged_place tag p) × ((v : Rose ValueLabel) (n : ℕ) → FitPart p v → 0 < length (der M tag p.type v))

  abbrev pub FitPlaces : Option (List ComponentPlace) → Roses ValueLabel → Type 0
  FitPlaces o vs = elim o [ None ↦ ⊥ | Some ps ↦ FitEach M depth ps vs ]

  abbrev pub wrote : List (Option ℕ) → Option (List ComponentPlace) → Roses ValueLabel → List ℕ
  wrote tags o vs = elim o [ None ↦ [] | Some ps ↦ each_der M (tagged tags ps) vs ]

  abbrev pub Inner : TypeLabel → List (Rose TypeLabel) → Form → Rose ValueLabel → Type 0
  Inner l ts f v = FitPlaces (places_in l ts f (label_of v) (length_all (below_of v))) (below_of v)

  abbrev pub inner_octets : TypeLabel → List (Rose TypeLabel) → Form → Rose ValueLabel → List ℕ
  inner_octets l ts f v = contents f (label_of v) (wrote (tags_of (label_of v) (length_all (below_of v))) (places_in l ts f (label_of v) (length_all (below_of v))) (below_of v))

  abbrev pub inner_count : Rose ValueLabel → ℕ
  inner_count v = count_all (below_of v)

  abbrev pub InnerCodec : TypeLabel → List (Rose TypeLabel) → Form → Octets (Rose ValueLabel) → Type 0
  InnerCodec l ts f read = Filling AreOctets (Inner l ts f) inner_count (λ v n. inner_octets l ts f v) read

  no_kids : (v : Rose ValueLabel) → below_of v ≡ none → inner_count v ≡ 0
  no_kids v e = ap count_all e

  leaf_fits : (b : Bool) (vs : Roses ValueLabel) → FitPlaces (none_if b) vs → (b ≡ true) × (vs ≡ none)
  unfolding FitEach
  leaf_fits true none h = (refl, refl)
  leaf_fits true (more v vs) h = absurd h
  leaf_fits false vs h = absurd h

  fits_leaf : (b : Bool) → b ≡ true → FitPlaces (none_if b) none
  unfolding FitEach
  fits_leaf true e = tt
  fits_leaf false e = absurd cc

  when_fits : (b : Bool) (o : Option (List ComponentPlace)) (vs : Roses ValueLabel) → FitPlaces (cond b o None) vs → (b ≡ true) × FitPlaces o vs
  when_fits true o vs h = (refl, h)
  when_fits false o vs h = absurd h

  fits_when : (b : Bool) (o : Option (List ComponentPlace)) (vs : Roses ValueLabel) → b ≡ true → FitPlaces o vs → FitPlaces (cond b o None) vs
  fits_when true o vs e h = h
  fits_when false o vs e h = absurd cc

  module _ (l : TypeLabel) (ts : List (Rose TypeLabel)) where
    -- BOOLEAN
    eight : (x : ℕ) → not (eqb x 0x00 || eqb x 0xFF) ≡ false → contents form.Bool (value.Bool (eqb x 0xFF)) [] ≡ x ∷ []
    eight x e = by (eqb x 0) (eqb x 255) refl refl (not-false (eqb x 0 || eqb x 255) e)
      where
        by : (a b : Bool) → eqb x 0 ≡ a → eqb x 255 ≡ b → (eqb x 0 || eqb x 255) ≡ true → contents form.Bool (value.Bool (eqb x 255)) [] ≡ x ∷ []
        by true b f g h = let z : x ≡ 0 = eqb-true x 0 f in rw z refl
        by false true f g h = let z : x ≡ 255 = eqb-true x 255 g in rw z refl
        by false false f g h = absurd cc

    bool_empty : (v : Rose ValueLabel) → Inner l ts form.Bool v → below_of v ≡ none
    unfolding FitEach
    bool_empty (node (value.Bool b) none) h = refl
    bool_empty (node (value.Bool b) (more v vs)) h = absurd h
    bool_empty (node m vs) h = absurd h

    bool_codec : InnerCodec l ts form.Bool bool_at
    unfolding FitEach bool_at
    bool_codec =
        other_words AreOctets Nothing (Inner l ts form.Bool) (Inner l ts form.Bool) (λ v. 0) inner_count (λ v n. inner_octets l ts form.Bool v) (λ v n. inner_octets l ts form.Bool v) bool_at
        (check_codec AreOctets Nothing (λ xs. Unit {0}) (λ xs. 0) (λ xs p. xs) left_at (Inner l ts form.Bool) (inner_octets l ts form.Bool) bool_of (left_codec AreOctets) pass back)
        (λ v h. (h, no_kids v (bool_empty v h), λ p. refl))
        (λ v h. h)
      where
        pass : (s r : Spot) (v : Rose ValueLabel) → Inner l ts form.Bool v → Unit {0} × (bool_of s (inner_octets l ts form.Bool v, r) ≡ Ok (v, r))
        pass s r (node (value.Bool true) none) h = (tt, refl)
        pass s r (node (value.Bool false) none) h = (tt, refl)
        pass s r (node (value.Bool b) (more v vs)) h = absurd h
        pass s r (node m vs) h = absurd h

        back : (s : Spot) (x : List ℕ × Spot) (y : Rose ValueLabel × Spot) → Unit {0} → bool_of s x ≡ Ok y → Inner l ts form.Bool y.0 × (inner_octets l ts form.Bool y.0 ≡ x.0) × (y.1 ≡ x.1)
        back s ([], r) y u e = absurd cc
        back s (x ∷ z ∷ xs, r) y u e = absurd cc
        back s (x ∷ [], r) y u e =
            let g = stop_ok (not (eqb x 0 || eqb x 255)) (stop_at s.at Content) (Ok (leaf_of (value.Bool (eqb x 255)), r)) y e in
            subst (λ (z : Rose ValueLabel × Spot). Inner l ts form.Bool z.0 × (inner_octets l ts form.Bool z.0 ≡ x ∷ []) × (z.1 ≡ r)) (ok_is {S = Stop} (leaf_of (value.Bool (eqb x 255)), r) y g.1) (tt, eight x g.0, refl)

    -- INTEGER
    module _ (least greatest : Option ℤ) where
      abbrev is_in : ℤ → Bool
      is_in z = is_128_bits z && is_from least z && is_to greatest z

      abbrev int_in : ValueLabel → ℤ
      int_in (value.Int z) = z
      int_in _ = pos 0

      abbrev Ints : Rose ValueLabel → Type 0
      Ints v = Inner l ts (form.Int least greatest) v

      three : (a b c : Bool) → (a && b && c) ≡ true → (a ≡ true) × ((b && c) ≡ true)
      three true b c e = (refl, e)
      three false b c e = absurd cc

      of_three : (a b c : Bool) → a ≡ true → (b && c) ≡ true → (a && b && c) ≡ true
      of_three a b c e f = rw e f

      int_parts : (v : Rose ValueLabel) → Ints v → IsWhole (int_in (label_of v)) × ((is_from least (int_in (label_of v)) && is_to greatest (int_in (label_of v))) ≡ true) × (leaf_of (value.Int (int_in (label_of v))) ≡ v)
          × (below_of v ≡ none) × (inner_octets l ts (form.Int least greatest) v ≡ signed_octets (int_in (label_of v)))
      int_parts (node (value.Int z) vs) h =
          let f = leaf_fits (is_in z) vs h in
          let p = three (is_128_bits z) (is_from least z) (is_to greatest z) f.0 in
          (p.0, p.1, ap (λ ws. node (value.Int z) ws) (sym f.1), f.1, refl)
      int_parts (node m vs) h = absurd h

      int_codec : InnerCodec l ts (form.Int least greatest) (int_at least greatest)
      unfolding int_at
      int_codec =
          other_words AreOctets Nothing Ints Ints (λ v. 0) inner_count (λ v n. signed_octets (int_in (label_of v))) (λ v n. inner_octets l ts (form.Int least greatest) v) (int_at least greatest)
          (check_codec AreOctets Nothing IsWhole (λ z. 0) (λ z p. signed_octets z) whole_at Ints (λ v. int_in (label_of v)) (int_of least greatest) whole_codec pass back)
          (λ v h. let k = int_parts v h in (h, no_kids v k.3, λ p. k.4))
          (λ v h. h)
        where
          pass : (s r : Spot) (v : Rose ValueLabel) → Ints v → IsWhole (int_in (label_of v)) × (int_of least greatest s (int_in (label_of v), r) ≡ Ok (v, r))
          pass s r v h =
              let k = int_parts v h in
              let z = int_in (label_of v) in
              (k.0, stop_not (not (is_from least z && is_to greatest z)) (stop_at s.at Range) (with_spot (leaf_of (value.Int z)) r) (ap not k.1) ∙ ap (λ w. with_spot w r) k.2)

          back : (s : Spot) (x : ℤ × Spot) (y : Rose ValueLabel × Spot) → IsWhole x.0 → int_of least greatest s x ≡ Ok y → Ints y.0 × (int_in (label_of y.0) ≡ x.0) × (y.1 ≡ x.1)
          back s (z, r) y v e =
              let g = stop_ok (not (is_from least z && is_to greatest z)) (stop_at s.at Range) (with_spot (leaf_of (value.Int z)) r) y e in
              let both = of_three (is_128_bits z) (is_from least z) (is_to greatest z) v (not-false (is_from least z && is_to greatest z) g.0) in
              subst (λ (q : Rose ValueLabel × Spot). Ints q.0 × (int_in (label_of q.0) ≡ z) × (q.1 ≡ r)) (ok_is {S = Stop} (leaf_of (value.Int z), r) y g.1) (fits_leaf (is_in z) both, refl, refl)

    -- ENUMERATED
    abbrev enum_in : ValueLabel → ℕ
    enum_in (value.Enum i) = i
    enum_in _ = 0

    module _ (f : Form) (items : ℕ) (has : HasItems f items)
        (parts : (v : Rose ValueLabel) → Inner l ts f v → (enum_in (label_of v) < items) × (leaf_of (value.Enum (enum_in (label_of v))) ≡ v) × (below_of v ≡ none) × (inner_octets l ts f v ≡ signed_octets (item_number f (enum_in (label_of v)))))
        (fits : (i : ℕ) → i < items → Inner l ts f (leaf_of (value.Enum i))) where
      enum_codec : InnerCodec l ts f (enum_at f)
      unfolding enum_at
      enum_codec =
          other_words AreOctets Nothing (Inner l ts f) (Inner l ts f) (λ v. 0) inner_count (λ v n. signed_octets (item_number f (enum_in (label_of v)))) (λ v n. inner_octets l ts f v) (enum_at f)
          (map_codec AreOctets Nothing (λ i. i < items) (λ i. 0) (λ i p. signed_octets (item_number f i)) (item_at f) (Inner l ts f) (λ i. leaf_of (value.Enum i)) (λ v. enum_in (label_of v)) (item_codec f items has)
          (λ i h. (fits i h, refl))
          (λ v h. let k = parts v h in (k.0, k.1)))
          (λ v h. let k = parts v h in (h, no_kids v k.2, λ p. k.3))
          (λ v h. h)

    numbers_codec : (numbers : List ℤ) → HasItems (form.Numbers numbers) (length numbers) → InnerCodec l ts (form.Numbers numbers) (enum_at (form.Numbers numbers))
    numbers_codec numbers has = enum_codec (form.Numbers numbers) (length numbers) has parts (λ i h. fits_leaf (ltb i (length numbers)) (lt-ltb i (length numbers) h))
      where
        parts : (v : Rose ValueLabel) → Inner l ts (form.Numbers numbers) v → (enum_in (label_of v) < length numbers) × (leaf_of (value.Enum (enum_in (label_of v))) ≡ v) × (below_of v ≡ none)
            × (inner_octets l ts (form.Numbers numbers) v ≡ signed_octets (item_number (form.Numbers numbers) (enum_in (label_of v))))
        parts (node (value.Enum i) vs) h = let f = leaf_fits (ltb i (length numbers)) vs h in (ltb-true i (length numbers) f.0, ap (λ ws. node (value.Enum i) ws) (sym f.1), f.1, refl)
        parts (node m vs) h = absurd h

    words_codec : (identifiers words : List (List ℕ)) → HasItems (form.Words identifiers words) (length words) → InnerCodec l ts (form.Words identifiers words) (enum_at (form.Words identifiers words))
    words_codec identifiers words has = enum_codec (form.Words identifiers words) (length words) has parts (λ i h. fits_leaf (ltb i (length words)) (lt-ltb i (length words) h))
      where
        parts : (v : Rose ValueLabel) → Inner l ts (form.Words identifiers words) v → (enum_in (label_of v) < length words) × (leaf_of (value.Enum (enum_in (label_of v))) ≡ v) × (below_of v ≡ none)
            × (inner_octets l ts (form.Words identifiers words) v ≡ signed_octets (item_number (form.Words identifiers words) (enum_in (label_of v))))
        parts (node (value.Enum i) vs) h = let f = leaf_fits (ltb i (length words)) vs h in (ltb-true i (length words) f.0, ap (λ ws. node (value.Enum i) ws) (sym f.1), f.1, refl)
        parts (node m vs) h = absurd h

    order_codec : (identifiers : List (List ℕ)) → HasItems (form.Order identifiers) (length identifiers) → InnerCodec l ts (form.Order identifiers) (enum_at (form.Order identifiers))
    order_codec identifiers has = enum_codec (form.Order identifiers) (length identifiers) has parts (λ i h. fits_leaf (ltb i (length identifiers)) (lt-ltb i (length identifiers) h))
      where
        parts : (v : Rose ValueLabel) → Inner l ts (form.Order identifiers) v → (enum_in (label_of v) < length identifiers) × (leaf_of (value.Enum (enum_in (label_of v))) ≡ v) × (below_of v ≡ none)
            × (inner_octets l ts (form.Order identifiers) v ≡ signed_octets (item_number (form.Order identifiers) (enum_in (label_of v))))
        parts (node (value.Enum i) vs) h = let f = leaf_fits (ltb i (length identifiers)) vs h in (ltb-true i (length identifiers) f.0, ap (λ ws. node (value.Enum i) ws) (sym f.1), f.1, refl)
        parts (node m vs) h = absurd h

    -- UTF8String
    module _ (f : Form) (parts : (v : Rose ValueLabel) → Inner l ts f v → (leaf_of (value.Utf8 (inner_octets l ts f v)) ≡ v) × (below_of v ≡ none))
        (fits : (text : List ℕ) → Inner l ts f (leaf_of (value.Utf8 text))) where
      text_codec : InnerCodec l ts f text_at
      unfolding text_at
      text_codec =
          other_words AreOctets Nothing (Inner l ts f) (Inner l ts f) (λ v. 0) inner_count (λ v n. inner_octets l ts f v) (λ v n. inner_octets l ts f v) text_at
          (map_codec AreOctets Nothing (λ xs. Unit {0}) (λ xs. 0) (λ xs p. xs) left_at (Inner l ts f) (λ text. leaf_of (value.Utf8 text)) (inner_octets l ts f) (left_codec AreOctets)
          (λ text u. (fits text, refl))
          (λ v h. (tt, (parts v h).0)))
          (λ v h. (h, no_kids v (parts v h).1, λ p. refl))
          (λ v h. h)

  -- SEQUENCE OF
  module _ (l : TypeLabel) (t : Rose TypeLabel) (others : List (Rose TypeLabel)) (part : Component) (least : ℕ) (most : Option ℕ) where
    abbrev item : ComponentPlace
    item = place_of l 0 part t

    abbrev item_write : Rose ValueLabel → Writer ℕ
    item_write v n = der M None t v

    same_each : (vs : Roses ValueLabel) → FitEach M depth (replicate (length_all vs) item) vs → AllFit (FitPart item) (list_of vs)
    unfolding FitEach
    same_each none h = tt
    same_each (more v vs) h = (h.0, same_each vs h.1)

    each_same : (vs : List (Rose ValueLabel)) → AllFit (FitPart item) vs → FitEach M depth (replicate (length_all (roses_of vs)) item) (roses_of vs)
    unfolding FitEach
    each_same [] h = tt
    each_same (v ∷ vs) h = (h.0, each_same vs h.1)

    same_wrote : (vs : Roses ValueLabel) (n : ℕ) → each_der M (tagged (replicate (length_all vs) None) (replicate (length_all vs) item)) vs ≡ all_write item_write (list_of vs) n
    unfolding each_der
    same_wrote none n = refl
    same_wrote (more v vs) n = ap (λ m. der M None t v ++ m) (same_wrote vs (n + length (der M None t v)))

    same_count : (vs : Roses ValueLabel) → count_all vs ≡ all_weight node_count (list_of vs)
    same_count none = refl
    same_count (more v vs) = ap (λ m. node_count v + m) (same_count vs)

    abbrev kids_list : Rose ValueLabel → List (Rose ValueLabel)
    kids_list v = list_of (below_of v)

    abbrev Many : Rose ValueLabel → Type 0
    Many v = Inner l (t ∷ others) (form.SequenceOf part least most) v

    many_parts : (v : Rose ValueLabel) → Many v → (node_of value.SequenceOf (kids_list v) ≡ v) × (is_size least most (length (kids_list v)) ≡ true) × AllFit (FitPart item) (kids_list v)
        × ((n : ℕ) → inner_octets l (t ∷ others) (form.SequenceOf part least most) v ≡ all_write item_write (kids_list v) n)
    many_parts (node value.SequenceOf vs) h =
        let c = when_fits (is_size least most (length_all vs)) (Some (replicate (length_all vs) item)) vs h in (
          ap (node value.SequenceOf) (roses_again vs),
          ap (is_size least most) (list_long vs) ∙ c.0,
          same_each vs c.1,
          λ n. ap (λ o. wrote (replicate (length_all vs) None) o vs) (cond_true (is_size least most (length_all vs)) (Some (replicate (length_all vs) item)) None c.0) ∙ same_wrote vs n,
        )
    many_parts (node m vs) h = absurd h

    many_back : (vs : List (Rose ValueLabel)) → is_size least most (length vs) ≡ true → AllFit (FitPart item) vs → Many (node_of value.SequenceOf vs)
    many_back vs e f =
        fits_when (is_size least most (length_all (roses_of vs))) (Some (replicate (length_all (roses_of vs)) item)) (roses_of vs) (ap (is_size least most) (roses_long vs) ∙ e) (each_same vs f)

    abbrev counted_by : ℕ → Spot → List (Rose ValueLabel) × Spot → Result (Rose ValueLabel × Spot) Stop
    counted_by begin s a = stop_if (not (is_size least most (length a.0))) (stop_at begin Range) (with_spot (node_of value.SequenceOf a.0) a.1)

    many_codec : (begin : ℕ) → IsKnown item → InnerCodec l (t ∷ others) (form.SequenceOf part least most) (sequence_of_at kid begin least most (Some item))
    unfolding sequence_of_at
    many_codec begin known =
        other_words AreOctets Nothing Many Many (λ v. all_weight node_count (kids_list v)) inner_count (λ v n. all_write item_write (kids_list v) n) (λ v n. inner_octets l (t ∷ others) (form.SequenceOf part least most) v) (sequence_of_at kid begin least most (Some item))
        (check_codec AreOctets Nothing (AllFit (FitPart item)) (all_weight node_count) (all_write item_write) (items_at never (kid (tagged_place None item))) Many kids_list (counted_by begin)
        (items_codec AreOctets (FitPart item) node_count item_write (kid (tagged_place None item)) never (known None).0 (λ v n h. (known None).1 v n h))
        (λ s r v h.
        let k = many_parts v h in
        (k.2, stop_not (not (is_size least most (length (kids_list v)))) (stop_at begin Range) (with_spot (node_of value.SequenceOf (kids_list v)) r) (ap not k.1) ∙ ap (λ m. with_spot m r) k.0))
        (λ s x y f e.
        let g = stop_ok (not (is_size least most (length x.0))) (stop_at begin Range) (with_spot (node_of value.SequenceOf x.0) x.1) y e in
        subst (λ (z : Rose ValueLabel × Spot). Many z.0 × (kids_list z.0 ≡ x.0) × (z.1 ≡ x.1)) (ok_is {S = Stop} (node_of value.SequenceOf x.0, x.1) y g.1) (many_back x.0 (not-false (is_size least most (length x.0)) g.0) f, list_again x.0, refl)))
        (λ v h. (h, same_count (below_of v), λ n. (many_parts v h).3 n))
        (λ v h. h)

  -- SEQUENCE
  abbrev unflag : List Bool → List (Rose ValueLabel) → List (Option (Rose ValueLabel))
  unflag [] vs = []
  unflag (true ∷ fs) [] = None ∷ unflag fs []
  unflag (true ∷ fs) (v ∷ vs) = Some v ∷ unflag fs vs
  unflag (false ∷ fs) vs = None ∷ unflag fs vs

  unflag_again : (os : List (Option (Rose ValueLabel))) → unflag (flags_of os) (those_of os) ≡ os
  unflag_again [] = refl
  unflag_again (None ∷ os) = ap (λ m. None ∷ m) (unflag_again os)
  unflag_again (Some v ∷ os) = ap (λ m. Some v ∷ m) (unflag_again os)

  put_fits : (p : ComponentPlace) (v : Rose ValueLabel) (o : Option (List ComponentPlace)) (vs : Roses ValueLabel) → FitPart p v → FitPlaces o vs → FitPlaces (put_first p o) (more v vs)
  unfolding FitEach
  put_fits p v None vs f h = absurd h
  put_fits p v (Some ps) vs f h = (f, h)

  put_none : (p : ComponentPlace) (o : Option (List ComponentPlace)) → FitPlaces (put_first p o) none → ⊥
  unfolding FitEach
  put_none p None h = h
  put_none p (Some ps) h = h

  put_parts : (tag : Option ℕ) (tags : List (Option ℕ)) (p : ComponentPlace) (v : Rose ValueLabel) (o : Option (List ComponentPlace)) (vs : Roses ValueLabel) → FitPlaces (put_first p o) (more v vs)
      → FitPart p v × FitPlaces o vs × (wrote (tag ∷ tags) (put_first p o) (more v vs) ≡ der M tag p.type v ++ wrote tags o vs)
  unfolding FitEach each_der
  put_parts tag tags p v None vs h = absurd h
  put_parts tag tags p v (Some ps) vs h = (h.0, h.1, refl)

  seq_forth : (l : TypeLabel) (i : ℕ) (parts : List Component) (ts : List (Rose TypeLabel)) (os : List (Option (Rose ValueLabel))) → length ts ≡ length parts → PartsFit is_optional FitKid (parts_from l i parts ts) os
      → FitPlaces (present_from l i parts ts (flags_of os)) (roses_of (those_of os))
  unfolding FitEach
  seq_forth l i [] ts [] e h = tt
  seq_forth l i [] ts (o ∷ os) e h = absurd h
  seq_forth l i (c ∷ cs) [] os e h = absurd (omega (arith, e))
  seq_forth l i (c ∷ cs) (t ∷ ts) [] e h = absurd h
  seq_forth l i (c ∷ cs) (t ∷ ts) (Some v ∷ os) e h =
      put_fits (place_of l i c t) v (present_from l (i + 1) cs ts (flags_of os)) (roses_of (those_of os)) h.0 (seq_forth l (i + 1) cs ts os (omega (arith, e)) h.1)
  seq_forth l i (c ∷ cs) (t ∷ ts) (None ∷ os) e h =
      fits_when c.optional (present_from l (i + 1) cs ts (flags_of os)) (roses_of (those_of os)) h.0 (seq_forth l (i + 1) cs ts os (omega (arith, e)) h.1)

  record Parted (l : TypeLabel) (i : ℕ) (parts : List Component) (ts : List (Rose TypeLabel)) (fs : List Bool) (vs : Roses ValueLabel) : Type 0 where
    fit : PartsFit is_optional FitKid (parts_from l i parts ts) (unflag fs (list_of vs))
    flags : flags_of (unflag fs (list_of vs)) ≡ fs
    those : those_of (unflag fs (list_of vs)) ≡ list_of vs
    count : count_all vs ≡ parts_weight node_count (unflag fs (list_of vs))
    octets : (n : ℕ) → wrote (tags_from i fs) (present_from l i parts ts fs) vs ≡ parts_write kid_write (parts_from l i parts ts) (unflag fs (list_of vs)) n

  seq_back : (l : TypeLabel) (i : ℕ) (parts : List Component) (ts : List (Rose TypeLabel)) (fs : List Bool) (vs : Roses ValueLabel) → FitPlaces (present_from l i parts ts fs) vs → Parted l i parts ts fs vs
  unfolding FitEach each_der
  seq_back l i [] ts [] none h = record { fit = tt; flags = refl; those = refl; count = refl; octets = λ n. refl }
  seq_back l i [] ts [] (more v vs) h = absurd h
  seq_back l i [] ts (f ∷ fs) vs h = absurd h
  seq_back l i (c ∷ cs) [] [] vs h = absurd h
  seq_back l i (c ∷ cs) [] (f ∷ fs) vs h = absurd h
  seq_back l i (c ∷ cs) (t ∷ ts) [] vs h = absurd h
  seq_back l i (c ∷ cs) (t ∷ ts) (true ∷ fs) none h = absurd (put_none (place_of l i c t) (present_from l (i + 1) cs ts fs) h)
  seq_back l i (c ∷ cs) (t ∷ ts) (true ∷ fs) (more v vs) h =
      let k = put_parts (Some i) (tags_from (i + 1) fs) (place_of l i c t) v (present_from l (i + 1) cs ts fs) vs h in
      let r = seq_back l (i + 1) cs ts fs vs k.1 in
      record {
        fit = (k.0, r.fit);
        flags = ap (λ m. true ∷ m) r.flags;
        those = ap (λ m. v ∷ m) r.those;
        count = ap (λ m. node_count v + m) r.count;
        octets = λ n. k.2 ∙ ap (λ m. der M (Some i) t v ++ m) (r.octets (n + length (der M (Some i) t v)));
      }
  seq_back l i (c ∷ cs) (t ∷ ts) (false ∷ fs) vs h =
      let k = when_fits c.optional (present_from l (i + 1) cs ts fs) vs h in
      let r = seq_back l (i + 1) cs ts fs vs k.1 in
      record {
        fit = (k.0, r.fit);
        flags = ap (λ m. false ∷ m) r.flags;
        those = r.those;
        count = r.count;
        octets = λ n. ap (λ o. wrote (tags_from (i + 1) fs) o vs) (cond_true c.optional (present_from l (i + 1) cs ts fs) None k.0) ∙ r.octets n;
      }

  abbrev flags_in : ValueLabel → List Bool
  flags_in (value.Sequence fs) = fs
  flags_in _ = []

  abbrev options_of : Rose ValueLabel → List (Option (Rose ValueLabel))
  options_of v = unflag (flags_in (label_of v)) (list_of (below_of v))

  module _ (l : TypeLabel) (ts : List (Rose TypeLabel)) (parts : List Component) where
    abbrev Seq : Rose ValueLabel → Type 0
    Seq v = Inner l ts (form.Sequence parts) v

    seq_parts : (v : Rose ValueLabel) → Seq v → PartsFit is_optional FitKid (parts_from l 0 parts ts) (options_of v) × (sequence_of (options_of v) ≡ v) × (inner_count v ≡ parts_weight node_count (options_of v))
        × ((n : ℕ) → inner_octets l ts (form.Sequence parts) v ≡ parts_write kid_write (parts_from l 0 parts ts) (options_of v) n)
    seq_parts (node (value.Sequence fs) vs) h =
        let r = seq_back l 0 parts ts fs vs h in
        (r.fit, ap (λ m. node (value.Sequence m) (roses_of (those_of (unflag fs (list_of vs))))) r.flags ∙ ap (λ m. node (value.Sequence fs) (roses_of m)) r.those ∙ ap (node (value.Sequence fs)) (roses_again vs), r.count, r.octets)
    seq_parts (node m vs) h = absurd h

    options_again : (os : List (Option (Rose ValueLabel))) → options_of (sequence_of os) ≡ os
    options_again os = ap (unflag (flags_of os)) (list_again (those_of os)) ∙ unflag_again os

    sequence_codec : length ts ≡ length parts → EachCodec AreOctets Anything FitKid node_count kid_write kid (parts_from l 0 parts ts) → AreHeads (starts M) FitKid kid_write (parts_from l 0 parts ts)
        → InnerCodec l ts (form.Sequence parts) (sequence_at M kid l ts parts)
    unfolding sequence_at
    sequence_codec same each heads =
        other_words AreOctets Nothing Seq Seq (λ v. parts_weight node_count (options_of v)) inner_count (λ v n. parts_write kid_write (parts_from l 0 parts ts) (options_of v) n) (λ v n. inner_octets l ts (form.Sequence parts) v) (sequence_at M kid l ts parts)
        (map_codec AreOctets Nothing (PartsFit is_optional FitKid (parts_from l 0 parts ts)) (parts_weight node_count) (parts_write kid_write (parts_from l 0 parts ts)) (parts_at (starts M) is_optional unexpected kid (parts_from l 0 parts ts)) Seq sequence_of options_of
        (parts_codec (starts M) is_optional unexpected kid AreOctets FitKid node_count kid_write (parts_from l 0 parts ts) each heads)
        (λ os f. (seq_forth l 0 parts ts os same f, options_again os))
        (λ v h. let k = seq_parts v h in (k.0, k.1)))
        (λ v h. let k = seq_parts v h in (h, k.2, k.3))
        (λ v h. h)

  -- CHOICE, whose alternative may be read with more nodes than its own
  alt_forth : (l : TypeLabel) (j i k : ℕ) (parts : List Component) (ts : List (Rose TypeLabel)) (a : Rose ValueLabel) → k ≡ j + i → AlternativeFits FitKid (parts_from l j parts ts) i a
      → FitPlaces (alone (place_at l k (slice_get parts i) (slice_get ts i))) (more a none)
  unfolding FitEach
  alt_forth l j i k [] ts a e h = absurd h
  alt_forth l j i k (c ∷ cs) [] a e h = absurd h
  alt_forth l j zero k (c ∷ cs) (t ∷ ts) a e h = let same : k ≡ j = omega (arith, e) in subst (λ n. FitPlaces (Some (place_of l n c t ∷ [])) (more a none)) (sym same) (h, tt)
  alt_forth l j (suc i) k (c ∷ cs) (t ∷ ts) a e h = alt_forth l (j + 1) i k cs ts a (omega (arith, e)) h

  pub record Alone (l : TypeLabel) (j i k : ℕ) (parts : List Component) (ts : List (Rose TypeLabel)) (vs : Roses ValueLabel) : Type 0 where
    pub only : Rose ValueLabel
    pub is : vs ≡ more only none
    pub fits : AlternativeFits FitKid (parts_from l j parts ts) i only
    pub octets : (n : ℕ) → wrote (Some k ∷ []) (alone (place_at l k (slice_get parts i) (slice_get ts i))) vs ≡ alternative_write kid_write (parts_from l j parts ts) i only n

  no_part : (l : TypeLabel) (k : ℕ) (o : Option (Rose TypeLabel)) (vs : Roses ValueLabel) → FitPlaces (alone (place_at l k None o)) vs → ⊥
  no_part l k None vs h = h
  no_part l k (Some t) vs h = h

  no_type : (l : TypeLabel) (k : ℕ) (o : Option Component) (vs : Roses ValueLabel) → FitPlaces (alone (place_at l k o None)) vs → ⊥
  no_type l k None vs h = h
  no_type l k (Some c) vs h = h

  first_alone : (l : TypeLabel) (j : ℕ) (c : Component) (cs : List Component) (t : Rose TypeLabel) (ts : List (Rose TypeLabel)) (vs : Roses ValueLabel) → FitPlaces (Some (place_of l j c t ∷ [])) vs → Alone l j zero j (c ∷ cs) (t ∷ ts) vs
  unfolding FitEach each_der
  first_alone l j c cs t ts none h = absurd h
  first_alone l j c cs t ts (more v none) h = record { only = v; is = refl; fits = h.0; octets = λ n. append-nil (der M (Some j) t v) }
  first_alone l j c cs t ts (more v (more w ws)) h = absurd h.1

  pub alt_back : (l : TypeLabel) (j i k : ℕ) (parts : List Component) (ts : List (Rose TypeLabel)) (vs : Roses ValueLabel) → k ≡ j + i → FitPlaces (alone (place_at l k (slice_get parts i) (slice_get ts i))) vs → Alone l j i k parts ts vs
  alt_back l j i k [] ts vs e h = absurd (no_part l k (slice_get ts i) vs h)
  alt_back l j i k (c ∷ cs) [] vs e h = absurd (no_type l k (slice_get (c ∷ cs) i) vs h)
  alt_back l j zero k (c ∷ cs) (t ∷ ts) vs e h =
      let same : k ≡ j = omega (arith, e) in
      subst (λ n. FitPlaces (Some (place_of l n c t ∷ [])) vs → Alone l j zero n (c ∷ cs) (t ∷ ts) vs) (sym same) (first_alone l j c cs t ts vs) h
  alt_back l j (suc i) k (c ∷ cs) (t ∷ ts) vs e h =
      let r = alt_back l (j + 1) i k cs ts vs (omega (arith, e)) h in
      record { only = r.only; is = r.is; fits = r.fits; octets = r.octets }

  abbrev pub index_in : ValueLabel → ℕ
  index_in (value.Choice i) = i
  index_in _ = 0

  abbrev pub first_in : Roses ValueLabel → Rose ValueLabel
  first_in none = leaf_of value.SequenceOf
  first_in (more v vs) = v

  abbrev pub pair_of : Rose ValueLabel → ℕ × Rose ValueLabel
  pair_of v = (index_in (label_of v), first_in (below_of v))

  module _ (l : TypeLabel) (ts : List (Rose TypeLabel)) (parts : List Component) where
    abbrev pub Chosen : Rose ValueLabel → Type 0
    Chosen v = Inner l ts (form.Choice parts) v

    abbrev AltFit : ℕ × Rose ValueLabel → Type 0
    AltFit x = AlternativeFits FitKid (parts_from l 0 parts ts) x.0 x.1

    abbrev alt_write : ℕ × Rose ValueLabel → Writer ℕ
    alt_write x n = alternative_write kid_write (parts_from l 0 parts ts) x.0 x.1 n

    chosen_parts : (v : Rose ValueLabel) → Chosen v → AltFit (pair_of v) × (choice_of (pair_of v) ≡ v) × ((n : ℕ) → inner_octets l ts (form.Choice parts) v ≡ alt_write (pair_of v) n) × (inner_count v ≡ node_count (pair_of v).1)
    chosen_parts (node (value.Choice i) vs) h =
        let k = alt_back l 0 i i parts ts vs (omega arith) h in
        let first : first_in vs ≡ k.only = ap first_in k.is in (
          subst (AlternativeFits FitKid (parts_from l 0 parts ts) i) (sym first) k.fits,
          ap (λ m. node (value.Choice i) (more m none)) first ∙ ap (node (value.Choice i)) (sym k.is),
          λ n. k.octets n ∙ ap (λ m. alternative_write kid_write (parts_from l 0 parts ts) i m n) (sym first),
          ap count_all k.is ∙ (omega arith) ∙ ap node_count (sym first),
        )
    chosen_parts (node m vs) h = absurd h

    -- by a reader of each alternative, with a weight
    pub choice_codec : (Rest : List ℕ → Type 0) (w : Rose ValueLabel → ℕ) (read : TaggedPlace → Octets (Rose ValueLabel)) → EachCodec AreOctets Rest FitKid w kid_write read (parts_from l 0 parts ts)
        → AreHeads (starts M) FitKid kid_write (parts_from l 0 parts ts) → CodecBefore AreOctets Rest Chosen (λ v. w (pair_of v).1) (λ v n. inner_octets l ts (form.Choice parts) v) (choice_at M read l ts parts)
    unfolding choice_at
    choice_codec Rest w read each heads =
        other_words AreOctets Rest Chosen Chosen (λ v. w (pair_of v).1) (λ v. w (pair_of v).1) (λ v. alt_write (pair_of v)) (λ v n. inner_octets l ts (form.Choice parts) v) (choice_at M read l ts parts)
        (map_codec AreOctets Rest AltFit (λ (x : ℕ × Rose ValueLabel). w x.1) alt_write (alternative_at (starts M) is_optional unexpected read (parts_from l 0 parts ts)) Chosen choice_of pair_of
        (alternative_codec (starts M) is_optional unexpected read AreOctets FitKid w kid_write Rest (parts_from l 0 parts ts) each heads)
        (λ x f. (alt_forth l 0 x.0 x.0 parts ts x.1 (omega arith) f, refl))
        (λ v h. let k = chosen_parts v h in (k.0, k.1)))
        (λ v h. (h, refl, λ n. (chosen_parts v h).2 n))
        (λ v h. h)

    pub chosen_count : (v : Rose ValueLabel) → Chosen v → inner_count v ≡ node_count (pair_of v).1
    chosen_count v h = (chosen_parts v h).3

  -- THE HEADS of parts are apart
  context_some : (c : Bool) (i : ℕ) → begins (context_identifier c i) [] ≡ false
  context_some c i = by (ltb i 31)
    where
      by : (b : Bool) → begins (cond b ((128 + form_bit c + i) ∷ []) ((159 + form_bit c) ∷ sevens i)) [] ≡ false
      by true = refl
      by false = refl

  abbrev head_of : ℕ → Rose TypeLabel → List ℕ
  head_of i t = context_identifier (is_constructed (label_of (resolve M t)).form) i

  tagged_der : (i : ℕ) (t : Rose TypeLabel) (v : Rose ValueLabel) → (octets : List ℕ) × (der M (Some i) t v ≡ head_of i t ++ octets)
  unfolding der
  tagged_der i t (node l vs) = (_, refl)

  has_head : (i : ℕ) (p : ComponentPlace) → HasHead (starts M) FitKid kid_write (tagged_place (Some i) p)
  has_head i p = (
    context_some _ i,
    λ v n rest f.
        let k = tagged_der i p.type v in
        ap (λ m. begins (head_of i p.type) (m ++ rest)) k.1 ∙ ap (begins (head_of i p.type)) (append_assoc (head_of i p.type) k.0 rest) ∙ begins_all (head_of i p.type) (k.0 ++ rest),
  )

  apart_from : (l : TypeLabel) (i j : ℕ) (p : ComponentPlace) (parts : List Component) (ts : List (Rose TypeLabel)) → i < j → IsApart (starts M) FitKid kid_write (tagged_place (Some i) p) (parts_from l j parts ts)
  apart_from l i j p [] ts lt = tt
  apart_from l i j p (c ∷ cs) [] lt = tt
  apart_from l i j p (c ∷ cs) (u ∷ us) lt = (
    λ v n rest f.
        let k = tagged_der j u v in
        ap (λ m. begins (head_of i p.type) (m ++ rest)) k.1 ∙ ap (begins (head_of i p.type)) (append_assoc (head_of j u) k.0 rest)
        ∙ apart _ _ i j (k.0 ++ rest) (λ e. absurd (omega (arith, e, lt))),
    apart_from l i (j + 1) p cs us (omega (arith, lt)),
  )

  pub heads_from : (l : TypeLabel) (i : ℕ) (parts : List Component) (ts : List (Rose TypeLabel)) → AreHeads (starts M) FitKid kid_write (parts_from l i parts ts)
  heads_from l i [] ts = tt
  heads_from l i (c ∷ cs) [] = tt
  heads_from l i (c ∷ cs) (t ∷ ts) = (has_head i (place_of l i c t), apart_from l i (i + 1) (place_of l i c t) cs ts (omega arith), heads_from l (i + 1) cs ts)

  -- EACH FORM
  pub each_codec : (l : TypeLabel) (i : ℕ) (parts : List Component) (ts : List (Rose TypeLabel)) → EachKid IsKnown l i parts ts → EachCodec AreOctets Anything FitKid node_count kid_write kid (parts_from l i parts ts)
  each_codec l i [] ts h = tt
  each_codec l i (c ∷ cs) [] h = tt
  each_codec l i (c ∷ cs) (t ∷ ts) h = ((h.0 (Some i)).0, each_codec l (i + 1) cs ts h.1)

  no_items : (l : TypeLabel) (part : Component) (least : ℕ) (most : Option ℕ) (v : Rose ValueLabel) → Inner l [] (form.SequenceOf part least most) v → ⊥
  no_items l part least most (node value.SequenceOf vs) h = (when_fits (is_size least most (length_all vs)) None vs h).1
  no_items l part least most (node m vs) h = h

  text_parts : (l : TypeLabel) (ts : List (Rose TypeLabel)) (least : ℕ) (most : Option ℕ) (class : _) (v : Rose ValueLabel) → Inner l ts (form.Utf8 least most class) v
      → (leaf_of (value.Utf8 (inner_octets l ts (form.Utf8 least most class) v)) ≡ v) × (below_of v ≡ none)
  unfolding FitEach
  text_parts l ts least most class (node (value.Utf8 text) none) h = (refl, refl)
  text_parts l ts least most class (node (value.Utf8 text) (more v vs)) h = absurd h
  text_parts l ts least most class (node m vs) h = absurd h

  text_fits : (l : TypeLabel) (ts : List (Rose TypeLabel)) (least : ℕ) (most : Option ℕ) (class : _) (text : List ℕ) → Inner l ts (form.Utf8 least most class) (leaf_of (value.Utf8 text))
  unfolding FitEach
  text_fits l ts least most class text = tt

  no_reference : (l : TypeLabel) (ts : List (Rose TypeLabel)) (to : ℕ) (v : Rose ValueLabel) → Inner l ts (form.Ref to) v → ⊥
  no_reference l ts to (node m vs) h = h

  pub contents_codec : (begin : ℕ) (l : TypeLabel) (ts : List (Rose TypeLabel)) (f : Form) → IsForm M f → HasBounds f → length ts ≡ length (parts_of f) → EachKid IsKnown l 0 (parts_of f) ts
      → InnerCodec l ts f (contents_at M kid begin l ts f)
  unfolding contents_at sequence_of_at
  contents_codec begin l ts form.Bool is bounds same known = bool_codec l ts
  contents_codec begin l ts (form.Int least greatest) is bounds same known = int_codec l ts least greatest
  contents_codec begin l ts (form.Numbers numbers) is bounds same known = numbers_codec l ts numbers (numbers_items numbers is.1 bounds)
  contents_codec begin l ts (form.Words identifiers words) is bounds same known = words_codec l ts identifiers words (words_items identifiers words is.0.1)
  contents_codec begin l ts (form.Order identifiers) is bounds same known = order_codec l ts identifiers (order_items identifiers is.1)
  contents_codec begin l ts (form.Utf8 least most class) is bounds same known =
      text_codec l ts (form.Utf8 least most class) (text_parts l ts least most class) (text_fits l ts least most class)
  contents_codec begin l ts (form.Sequence parts) is bounds same known = sequence_codec l ts parts same (each_codec l 0 parts ts known) (heads_from l 0 parts ts)
  contents_codec begin l ts (form.Choice parts) is bounds same known =
      other_words AreOctets Nothing (Inner l ts (form.Choice parts)) (Inner l ts (form.Choice parts)) (λ v. node_count (pair_of v).1) inner_count (λ v n. inner_octets l ts (form.Choice parts) v) (λ v n. inner_octets l ts (form.Choice parts) v) (contents_at M kid begin l ts (form.Choice parts))
      (ended_codec AreOctets (Inner l ts (form.Choice parts)) (λ v. node_count (pair_of v).1) (λ v n. inner_octets l ts (form.Choice parts) v) (choice_at M kid l ts parts) (λ r. stop_at r.at Tag)
      (choice_codec l ts parts Anything node_count kid (each_codec l 0 parts ts known) (heads_from l 0 parts ts)))
      (λ v h. (h, chosen_count l ts parts v h, λ n. refl))
      (λ v h. h)
  contents_codec begin l [] (form.SequenceOf part least most) is bounds same known =
      never_codec AreOctets Nothing (Inner l [] (form.SequenceOf part least most)) inner_count (λ v n. inner_octets l [] (form.SequenceOf part least most) v) (contents_at M kid begin l [] (form.SequenceOf part least most)) (no_items l part least most) (λ X s x e. absurd cc)
  contents_codec begin l (t ∷ ts) (form.SequenceOf part least most) is bounds same known = many_codec l t ts part least most begin known.0
  contents_codec begin l ts (form.Ref to) is bounds same known =
      never_codec AreOctets Nothing (Inner l ts (form.Ref to)) inner_count (λ v n. inner_octets l ts (form.Ref to) v) (contents_at M kid begin l ts (form.Ref to)) (no_reference l ts to) (λ X s x e. absurd cc)
