-- The contents of a node stop where reading them stops.
use Rattle.std.proofs.Common.{◌≡◌, ℕ, ◌+◌, ◌<◌, Bool, true, false, not, ltb, List, [], ◌∷◌, length, drop, refl, ap, ◌∙◌, arith, Option, Some, None, Result, Ok, Err, inl, inr, ◌⊎◌}
use Rattle.std.proofs.lemmas.Bool.{lt-ltb, ltb-true}
use Rattle.base_trees.specs.Rose.{Rose, node_count}
use Rattle.simple_types.specs.declared.labels.ValueLabel.{ValueLabel}
use Rattle.simple_types.specs.declared.labels.ValueLabel.TheVariants as value
use Rattle.asn_types.specs.declared.modules.Assignment.{Assignment}
use Rattle.asn_types.specs.declared.types.Component.{Component}
use Rattle.asn_types.specs.declared.types.Form.{Form}
use Rattle.asn_types.specs.declared.types.Form.TheVariants as form
use Rattle.asn_types.specs.declared.types.TypeLabel.{TypeLabel}
use Rattle.asn_types.specs.Bounds.{HasBounds}
use Rattle.asn_types.specs.Modules.{IsForm}
use Rattle.asn_types.specs.Parts.{parts_of}
use Rattle.asn_types.specs.Refs.{target}
use Rattle.asn_values.specs.Values.{ComponentPlace, place_of}
use Rattle.base_codecs.specs.declared.spots.Spot.{Spot}
use Rattle.base_codecs.specs.Reading.{◌>>=◌, stop_if, with_spot, ended_at, left_at}
use Rattle.base_codecs.specs.Codec.{Came, Anything, Nothing, Codec}
use Rattle.base_codecs.specs.Sequences.{items_at, parts_at, alternative_at, AllFit, all_weight, all_write, AlternativeFits, alternative_write}
use Rattle.base_codecs.proofs.Codecs.{bind_ok, ok_is}
use Rattle.base_codecs.proofs.Sequences.{items_codec, alternative_codec}
use Rattle.base_codecs.proofs.Steps.{Iff, Told, Inside, bind_err, err_bind, stop_err, err_stop, none_stops, map_told, came, goes, then_told}
use Rattle.base_codecs.proofs.Told.{items_told, AreKnown, parts_told, AreTold, alternative_told}
use Rattle.der_fields.specs.declared.stops.Stop.{Stop}
use Rattle.der_fields.specs.declared.stops.Why.TheVariants.{Tag, Range}
use Rattle.der_fields.specs.FieldsReading.{stop_at, AreOctets, Octets}
use Rattle.per_fields.proofs.Levels.{EachKid}
use Rattle.der_fields.specs.Encoding.{TaggedPlace, tagged_place}
use Rattle.der_fields.specs.Reading.{node_of, text_at, unexpected, is_optional, starts, parts_from, sequence_of, choice_of, is_size, never, sequence_at, choice_at, sequence_of_at, contents_at}
use Rattle.der_fields.proofs.Numbers.{numbers_items, words_items, order_items}
use Rattle.der_fields.proofs.Contents.{FitKid, kid_write, IsKnown, each_codec, heads_from}
use Rattle.der_fields.specs.Stopping.{FitsPart, part_octets, PartStops, SequenceStops, ChoiceStops, MoreStands, ManyStop, ContentStops}
use Rattle.base_codecs.specs.Stopping.{ItemsStop}
use Rattle.der_fields.proofs.StopFields.{boolean_told, integer_told, enumerated_told}

-- What stops is told in one word, and follows from another.
module _ (M : List Assignment) (depth : ℕ) (kid : TaggedPlace → Octets (Rose ValueLabel)) (Kid Kid' : TaggedPlace → List ℕ → Spot → Stop → Type 0) where
  abbrev pub One : List ℕ → TaggedPlace → Spot → Stop → Type 0
  One Y p s stop = PartStops M depth Kid Y p s stop

  abbrev pub One' : List ℕ → TaggedPlace → Spot → Stop → Type 0
  One' Y p s stop = PartStops M depth Kid' Y p s stop

  -- a part is read with any tag, and where it stops is known
  abbrev pub PartKnown : ComponentPlace → Type 0
  PartKnown p = IsKnown M depth kid p
      × ((tag : Option ℕ) (Y : List ℕ) → AreOctets Y → (s : Spot) (stop : Stop) → Inside Y s → Told (kid (tagged_place tag p) Y s ≡ Err stop) (One Y (tagged_place tag p) s stop) (One' Y (tagged_place tag p) s stop))

  pub read_known : (l : TypeLabel) (i : ℕ) (parts : List Component) (ts : List (Rose TypeLabel)) → EachKid PartKnown l i parts ts → EachKid (IsKnown M depth kid) l i parts ts
  read_known l i [] ts h = tt
  read_known l i (c ∷ cs) [] h = tt
  read_known l i (c ∷ cs) (t ∷ ts) h = (h.0.0, read_known l (i + 1) cs ts h.1)

  module _ (X : List ℕ) (fine : AreOctets X) where
    are_known : (l : TypeLabel) (i : ℕ) (parts : List Component) (ts : List (Rose TypeLabel)) → EachKid PartKnown l i parts ts
        → AreKnown (starts M) is_optional unexpected kid AreOctets (FitsPart M depth) node_count (part_octets M) X fine (One X) (One' X) (parts_from l i parts ts)
    are_known l i [] ts h = tt
    are_known l i (c ∷ cs) [] h = tt
    are_known l i (c ∷ cs) (t ∷ ts) h = (((h.0.0 (Some i)).0, λ s d inside. h.0.1 (Some i) X fine s d inside), are_known l (i + 1) cs ts h.1)

    are_told : (l : TypeLabel) (i : ℕ) (parts : List Component) (ts : List (Rose TypeLabel)) (s : Spot) (stop : Stop) → Inside X s → EachKid PartKnown l i parts ts
        → AreTold (starts M) is_optional unexpected kid AreOctets (FitsPart M depth) node_count (part_octets M) X fine (One X) (One' X) (parts_from l i parts ts) s stop
    are_told l i [] ts s stop inside h = tt
    are_told l i (c ∷ cs) [] s stop inside h = tt
    are_told l i (c ∷ cs) (t ∷ ts) s stop inside h = (h.0.1 (Some i) X fine s stop inside, are_told l (i + 1) cs ts s stop inside h.1)

    sequence_told : (l : TypeLabel) (ts : List (Rose TypeLabel)) (parts : List Component) → EachKid PartKnown l 0 parts ts → (s : Spot) (stop : Stop) → Inside X s
        → Told (sequence_at M kid l ts parts X s ≡ Err stop) (SequenceStops M depth Kid l ts parts X s stop) (SequenceStops M depth Kid' l ts parts X s stop)
    unfolding sequence_at
    sequence_told l ts parts known s stop inside =
        let m = map_told {S = Stop} (parts_at (starts M) is_optional unexpected kid (parts_from l 0 parts ts) X s) sequence_of stop in
        let k = parts_told (starts M) is_optional unexpected kid AreOctets (FitsPart M depth) node_count (part_octets M) X fine (One X) (One' X) (parts_from l 0 parts ts) (are_known l 0 parts ts known) s stop inside in
        (λ e. k.0 (m.0 e), λ h. m.1 (k.1 h))

    -- CHOICE
    module _ (l : TypeLabel) (ts : List (Rose TypeLabel)) (parts : List Component) (known : EachKid PartKnown l 0 parts ts) (s : Spot) (stop : Stop) (inside : Inside X s) where
      abbrev ps : List TaggedPlace
      ps = parts_from l 0 parts ts

      abbrev chosen : Result ((ℕ × Rose ValueLabel) × Spot) Stop
      chosen = alternative_at (starts M) is_optional unexpected kid (parts_from l 0 parts ts) X s

      abbrev as_choice : (ℕ × Rose ValueLabel) × Spot → Result (Rose ValueLabel × Spot) Stop
      as_choice a = with_spot (choice_of a.0) a.1

      abbrev ended : Rose ValueLabel × Spot → Result (Rose ValueLabel × Spot) Stop
      ended a = stop_if (ltb a.1.at (length X)) (stop_at a.1.at Tag) (Ok a)

      abbrev AltFit : ℕ × Rose ValueLabel → Type 0
      AltFit x = AlternativeFits (FitKid M depth kid) (parts_from l 0 parts ts) x.0 x.1

      codec : Codec AreOctets AltFit (λ (x : ℕ × Rose ValueLabel). node_count x.1) (λ (x : ℕ × Rose ValueLabel) n. alternative_write (kid_write M depth kid) (parts_from l 0 parts ts) x.0 x.1 n) (alternative_at (starts M) is_optional unexpected kid (parts_from l 0 parts ts))
      codec =
          alternative_codec (starts M) is_optional unexpected kid AreOctets (FitKid M depth kid) node_count (kid_write M depth kid) Anything (parts_from l 0 parts ts)
          (each_codec M depth kid l 0 parts ts (read_known l 0 parts ts known)) (heads_from M depth kid l 0 parts ts)

      told : Told (chosen ≡ Err stop) (ChoiceStops M depth Kid (One X) l ts parts X s stop) (ChoiceStops M depth Kid' (One' X) l ts parts X s stop)
      told = alternative_told (starts M) is_optional unexpected kid AreOctets (FitsPart M depth) node_count (part_octets M) X fine (One X) (One' X) (parts_from l 0 parts ts) s stop (are_told l 0 parts ts s stop inside known)

      explicit_told : Told (ended_at (λ r. stop_at r.at Tag) (choice_at M kid l ts parts) X s ≡ Err stop) (ChoiceStops M depth Kid (One X) l ts parts X s stop ⊎ MoreStands M depth Kid l ts parts X s stop)
          (ChoiceStops M depth Kid' (One' X) l ts parts X s stop ⊎ MoreStands M depth Kid' l ts parts X s stop)
      unfolding ended_at choice_at
      explicit_told = (forth, back)
        where
          forth : ((chosen >>= as_choice) >>= ended) ≡ Err stop → ChoiceStops M depth Kid (One X) l ts parts X s stop ⊎ MoreStands M depth Kid l ts parts X s stop
          forth e = elim (bind_err (chosen >>= as_choice) ended stop e) [
            | inl h ↦ inl (told.0 ((map_told {S = Stop} chosen choice_of stop).0 h))
            | inr k ↦ (
                let a = bind_ok chosen as_choice k.0 k.1 in
                let same : (choice_of a.0.0, a.0.1) ≡ k.0 = ok_is {S = Stop} (choice_of a.0.0, a.0.1) k.0 a.2 in
                let c = came AreOctets Anything X fine AltFit (λ (x : ℕ × Rose ValueLabel). node_count x.1) (λ (x : ℕ × Rose ValueLabel) n. alternative_write (kid_write M depth kid) (parts_from l 0 parts ts) x.0 x.1 n) (alternative_at (starts M) is_optional unexpected kid (parts_from l 0 parts ts)) codec s a.0.0 a.0.1 inside a.1 in
                let g : ended (choice_of a.0.0, a.0.1) ≡ Err stop = ap ended same ∙ k.2 in
                elim (stop_err (ltb a.0.1.at (length X)) (stop_at a.0.1.at Tag) (with_spot (choice_of a.0.0) a.0.1) stop g) [
                  | inl m ↦ inr (a.0.0.0, a.0.0.1, a.0.1, c.0, c.1, ltb-true a.0.1.at (length X) m.0, m.1)
                  | inr m ↦ none_stops {S = Stop} (choice_of a.0.0) a.0.1 stop m.1
                ])
          ]

          back : ChoiceStops M depth Kid' (One' X) l ts parts X s stop ⊎ MoreStands M depth Kid' l ts parts X s stop → ((chosen >>= as_choice) >>= ended) ≡ Err stop
          back (inl h) = err_bind (chosen >>= as_choice) ended stop ((map_told {S = Stop} chosen choice_of stop).1 (told.1 h))
          back (inr k) =
              let r = k.2 in
              let g = goes AreOctets Anything X fine AltFit (λ (x : ℕ × Rose ValueLabel). node_count x.1) (λ (x : ℕ × Rose ValueLabel) n. alternative_write (kid_write M depth kid) (parts_from l 0 parts ts) x.0 x.1 n) (alternative_at (starts M) is_optional unexpected kid (parts_from l 0 parts ts)) codec s (k.0, k.1) r inside tt k.3 k.4 in
              ap (λ q. (q >>= as_choice) >>= ended) g ∙ err_stop (ltb r.at (length X)) (stop_at r.at Tag) stop (with_spot (choice_of (k.0, k.1)) r) (lt-ltb r.at (length X) k.5) k.6

    -- SEQUENCE OF
    module _ (begin least : ℕ) (most : Option ℕ) (p : ComponentPlace) (known : PartKnown p) (s : Spot) (stop : Stop) (inside : Inside X s) where
      abbrev q : TaggedPlace
      q = tagged_place None p

      abbrev check : List (Rose ValueLabel) × Spot → Result (Rose ValueLabel × Spot) Stop
      check a = stop_if (not (is_size least most (length a.0))) (stop_at begin Range) (with_spot (node_of value.SequenceOf a.0) a.1)

      not_true : (b : Bool) → not b ≡ true → b ≡ false
      not_true true e = absurd cc
      not_true false e = refl

      abbrev Next : List (Rose ValueLabel) → Spot → Type 0
      Next vs r = (is_size least most (length vs) ≡ false) × (stop ≡ stop_at begin Range)

      next_told : (vs : List (Rose ValueLabel)) (r : Spot) → Iff (check (vs, r) ≡ Err stop) (Next vs r)
      next_told vs r = (forth, λ h. err_stop (not (is_size least most (length vs))) (stop_at begin Range) stop (with_spot (node_of value.SequenceOf vs) r) (ap not h.0) h.1)
        where
          forth : check (vs, r) ≡ Err stop → Next vs r
          forth e = elim (stop_err (not (is_size least most (length vs))) (stop_at begin Range) (with_spot (node_of value.SequenceOf vs) r) stop e) [
            | inl h ↦ (not_true (is_size least most (length vs)) h.0, h.1)
            | inr h ↦ none_stops {S = Stop} (node_of value.SequenceOf vs) r stop h.1
          ]

      abbrev First : (TaggedPlace → Spot → Stop → Type 0) → Type 0
      First K = (vs : List (Rose ValueLabel)) × ItemsStop (FitsPart M depth q) node_count (part_octets M q) X (K q) vs s stop

      abbrev Behind : Type 0
      Behind =
          (vs : List (Rose ValueLabel)) × (r : Spot) × AllFit (FitsPart M depth q) vs × Came X s r (all_write (part_octets M q) vs s.at) (all_weight node_count vs) × (drop r.at X ≡ []) × Next vs r

      one : Codec AreOctets (FitsPart M depth q) node_count (part_octets M q) (kid q)
      one = (known.0 None).0

      some : (v : Rose ValueLabel) (n : ℕ) → FitsPart M depth q v → 0 < length (part_octets M q v n)
      some v n h = (known.0 None).1 v n h

      both : Told ((items_at never (kid q) X s >>= check) ≡ Err stop) (First (One X) ⊎ Behind) (First (One' X) ⊎ Behind)
      both =
          then_told AreOctets Nothing X fine (AllFit (FitsPart M depth q)) (all_weight node_count) (all_write (part_octets M q)) (items_at never (kid q)) (items_codec AreOctets (FitsPart M depth q) node_count (part_octets M q) (kid q) never one some) check
          (First (One X)) (First (One' X)) Next Next s stop inside
          (items_told AreOctets (FitsPart M depth q) node_count (part_octets M q) (kid q) one some never X fine (One X q) (One' X q) (λ s d in_. known.1 None X fine s d in_) s stop inside)
          (λ vs r fit in_. next_told vs r)

      many_told : Told (sequence_of_at kid begin least most (Some p) X s ≡ Err stop) (ManyStop M depth Kid begin least most (Some p) X s stop) (ManyStop M depth Kid' begin least most (Some p) X s stop)
      unfolding sequence_of_at
      many_told = (λ e. forth (both.0 e), λ h. both.1 (back h))
        where
          forth : First (One X) ⊎ Behind → ManyStop M depth Kid begin least most (Some p) X s stop
          forth (inl h) = inl h
          forth (inr k) = inr (k.0, k.1, k.2, k.3, k.4, k.5.0, k.5.1)

          back : ManyStop M depth Kid' begin least most (Some p) X s stop → First (One' X) ⊎ Behind
          back (inl h) = inl h
          back (inr k) = inr (k.0, k.1, k.2, k.3, k.4, (k.5, k.6))

    text_never : (s : Spot) (stop : Stop) → text_at X s ≡ Err stop → ⊥
    unfolding text_at left_at
    text_never s stop e = cc

    -- EACH FORM
    pub contents_told : (begin : ℕ) (l : TypeLabel) (ts : List (Rose TypeLabel)) (f : Form) → IsForm M f → HasBounds f → target f ≡ None → length ts ≡ length (parts_of f) → EachKid PartKnown l 0 (parts_of f) ts
        → (s : Spot) (stop : Stop) → Inside X s → Told (contents_at M kid begin l ts f X s ≡ Err stop) (ContentStops M depth Kid begin l ts f X s stop) (ContentStops M depth Kid' begin l ts f X s stop)
    unfolding contents_at
    contents_told begin l ts form.Bool is bounds none same known s stop inside = boolean_told X s stop
    contents_told begin l ts (form.Int least greatest) is bounds none same known s stop inside = integer_told X s stop least greatest inside fine
    contents_told begin l ts (form.Numbers numbers) is bounds none same known s stop inside = enumerated_told X s stop (form.Numbers numbers) (length numbers) (numbers_items numbers is.1 bounds) inside fine
    contents_told begin l ts (form.Words identifiers words) is bounds none same known s stop inside =
        enumerated_told X s stop (form.Words identifiers words) (length words) (words_items identifiers words is.0.1) inside fine
    contents_told begin l ts (form.Order identifiers) is bounds none same known s stop inside = enumerated_told X s stop (form.Order identifiers) (length identifiers) (order_items identifiers is.1) inside fine
    contents_told begin l ts (form.Utf8 least most class) is bounds none same known s stop inside = (λ e. text_never s stop e, λ h. absurd h)
    contents_told begin l ts (form.Sequence parts) is bounds none same known s stop inside = sequence_told l ts parts known s stop inside
    contents_told begin l ts (form.Choice parts) is bounds none same known s stop inside = explicit_told l ts parts known s stop inside
    contents_told begin l [] (form.SequenceOf part least most) is bounds none same known s stop inside = absurd (omega (arith, same))
    contents_told begin l (t ∷ ts) (form.SequenceOf part least most) is bounds none same known s stop inside = many_told begin least most (place_of l 0 part t) known.0 s stop inside
    contents_told begin l ts (form.Ref to) is bounds none same known s stop inside = absurd cc
