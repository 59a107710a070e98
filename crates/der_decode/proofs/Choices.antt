-- The alternatives of a CHOICE, as a loop looks for one.
use Rattle.std.proofs.Common.{◌≡◌, ℕ, zero, suc, ◌+◌, ◌<◌, ◌≤◌, Bool, true, false, cond, ltb, List, [], ◌∷◌, length, drop, refl, sym, ap, ◌∙◌, subst, arith, Option, Some, None, Result, Ok, Err}
use Rattle.std.specs.Prelude.{slice_get}
use Rattle.std.specs.List.{position_from}
use Rattle.std.proofs.lemmas.Bool.{lt-ltb, le-ltb}
use Rattle.std.proofs.lemmas.List.{drop_all}
use Rattle.base_trees.specs.Rose.{Rose, label_of, kids_of}
use Rattle.simple_types.specs.declared.labels.ValueLabel.{ValueLabel}
use Rattle.asn_types.specs.declared.modules.Assignment.{Assignment}
use Rattle.asn_types.specs.declared.types.Component.{Component}
use Rattle.asn_types.specs.declared.types.TypeLabel.{TypeLabel}
use Rattle.asn_types.specs.Roles.{role_of}
use Rattle.asn_values.specs.Values.{place_of, place_at, below}
use Rattle.base_codecs.specs.declared.spots.Spot.{Spot}
use Rattle.base_codecs.specs.Reading.{◌>>=◌, stop_if, ended_at}
use Rattle.base_codecs.specs.Sequences.{alternative_at}
use Rattle.base_codecs.proofs.Steps.{err_bind}
use Rattle.base_codecs.proofs.Sequences.{cond_true, cond_false}
use Rattle.der_fields.specs.declared.stops.Stop.{Stop}
use Rattle.der_fields.specs.declared.stops.Why.TheVariants.{Tag}
use Rattle.der_fields.specs.FieldsReading.{Octets, stop_at}
use Rattle.der_fields.specs.Encoding.{TaggedPlace, tagged_place}
use Rattle.der_fields.specs.Reading.{starts, is_optional, unexpected, parts_from, choice_of, choice_at, is_over, over}
use Rattle.der_decode.specs.declared.faults.DerEnd.{DerEnd}
use Rattle.der_decode.specs.declared.faults.DerEnd.TheVariants as fault
use Rattle.der_decode.specs.Private.Bodies.{first_start, part_read, kid_at, entered_kid, alternative_read, alternative_place}
use Rattle.der_decode.specs.Private.Showing.{Fails, spot}
use Rattle.der_decode.proofs.Heading.{enters, enters_not}
use Rattle.der_decode.proofs.Parts.{parts_split, got_within}

some_is : {A : Type 0} (x y : A) → Some x ≡ Some y → x ≡ y
some_is x y e = cc

-- a part with its place, by its number
from_some : (l : TypeLabel) (i k : ℕ) (parts : List Component) (ts : List (Rose TypeLabel)) (p : TaggedPlace) → slice_get (parts_from l i parts ts) k ≡ Some p
    → (part : Component) × (t : Rose TypeLabel) × (slice_get parts k ≡ Some part) × (slice_get ts k ≡ Some t) × (p ≡ tagged_place (Some (i + k)) (place_of l (i + k) part t))
from_some l i k [] ts p e = absurd cc
from_some l i k (c ∷ cs) [] p e = absurd cc
from_some l i zero (c ∷ cs) (t ∷ ts) p e =
    let n : i ≡ i + 0 = omega arith in
    (c, t, refl, refl, sym (some_is (tagged_place (Some i) (place_of l i c t)) p e) ∙ ap (λ n. tagged_place (Some n) (place_of l n c t)) n)
from_some l i (suc k) (c ∷ cs) (t ∷ ts) p e =
    let h = from_some l (i + 1) k cs ts p e in
    let n : i + 1 + k ≡ i + suc k = omega arith in
    (h.0, h.1, h.2, h.3, h.4 ∙ ap (λ n. tagged_place (Some n) (place_of l n h.0 h.1)) n)

abbrev numbered : ℕ → Rose ValueLabel × Spot → Result ((ℕ × Rose ValueLabel) × Spot) Stop
numbered k a = Ok ((k, a.0), a.1)

abbrev later : (ℕ × Rose ValueLabel) × Spot → Result ((ℕ × Rose ValueLabel) × Spot) Stop
later a = Ok ((suc a.0.0, a.0.1), a.1)

abbrev as_choice : (ℕ × Rose ValueLabel) × Spot → Result (Rose ValueLabel × Spot) Stop
as_choice a = Ok (choice_of a.0, a.1)

abbrev pub told_as : ℕ → Rose ValueLabel × Spot → Result (Rose ValueLabel × Spot) Stop
told_as i a = Ok (choice_of (i, a.0), a.1)

module _ (M : List Assignment) (X : List ℕ) (s : Spot) where
  abbrev begins_here : TaggedPlace → Bool
  begins_here p = starts M p (drop s.at X)

  abbrev look : (TaggedPlace → Octets (Rose ValueLabel)) → List TaggedPlace → Result ((ℕ × Rose ValueLabel) × Spot) Stop
  look kid ps = alternative_at (starts M) is_optional unexpected kid ps X s

  -- none begins so
  look_none : (kid : TaggedPlace → Octets (Rose ValueLabel)) (j : ℕ) (ps : List TaggedPlace) → position_from begins_here j ps ≡ None → look kid ps ≡ Err (unexpected X s)
  unfolding alternative_at
  look_none kid j [] e = refl
  look_none kid j (p ∷ ps) e = by (begins_here p) e (λ k. look_none kid (j + 1) ps k)
    where
      by : (b : Bool) → cond b (Some j) (position_from begins_here (j + 1) ps) ≡ None → (position_from begins_here (j + 1) ps ≡ None → look kid ps ≡ Err (unexpected X s))
          → cond b (kid p X s >>= numbered 0) (look kid ps >>= later) ≡ Err (unexpected X s)
      by true k further = absurd cc
      by false k further = err_bind (look kid ps) later (unexpected X s) (further k)

  -- this one is the first that does
  pub record Found (ps : List TaggedPlace) (k : ℕ) : Type 0 where
    pub place : TaggedPlace
    pub here : slice_get ps k ≡ Some place
    pub read : (kid : TaggedPlace → Octets (Rose ValueLabel)) → look kid ps ≡ (kid place X s >>= numbered k)

  one_more : (k : ℕ) (r : Result (Rose ValueLabel × Spot) Stop) → ((r >>= numbered k) >>= later) ≡ (r >>= numbered (suc k))
  one_more k (Ok a) = refl
  one_more k (Err e) = refl

  look_some : (j i : ℕ) (ps : List TaggedPlace) → position_from begins_here j ps ≡ Some i → (k : ℕ) × (i ≡ j + k) × Found ps k
  unfolding alternative_at
  look_some j i [] e = absurd cc
  look_some j i (p ∷ ps) e = by (begins_here p) refl e (λ k. look_some (j + 1) i ps k)
    where
      by : (b : Bool) → begins_here p ≡ b → cond b (Some j) (position_from begins_here (j + 1) ps) ≡ Some i → (position_from begins_here (j + 1) ps ≡ Some i → (k : ℕ) × (i ≡ (j + 1) + k) × Found ps k)
          → (k : ℕ) × (i ≡ j + k) × Found (p ∷ ps) k
      by true is k further =
          let same : j ≡ i = some_is j i k in (
            0,
            omega (arith, same),
            record { place = p; here = refl; read = λ kid. cond_true (begins_here p) (kid p X s >>= numbered 0) (look kid ps >>= later) is },
          )
      by false is k further =
          let h = further k in (
            suc h.0,
            omega (arith, h.1),
            record {
              place = h.2.place;
              here = h.2.here;
              read = λ kid. cond_false (begins_here p) (kid p X s >>= numbered 0) (look kid ps >>= later) is
                  ∙ ap (λ r. r >>= later) (h.2.read kid) ∙ one_more h.0 (kid h.2.place X s);
            },
          )

  module _ (l : TypeLabel) (parts : List Component) (ts : List (Rose TypeLabel)) where
    -- the first of those from number i on
    abbrev pub first_from : ℕ → Option ℕ
    first_from i = position_from begins_here i (parts_from l i (drop i parts) (drop i ts))

    module _ (i : ℕ) (part : Component) (t : Rose TypeLabel) (is_part : slice_get parts i ≡ Some part) (is_kid : slice_get ts i ≡ Some t) where
      turn : first_from i ≡ cond (begins_here (tagged_place (Some i) (place_of l i part t))) (Some i) (first_from (i + 1))
      turn = ap (position_from begins_here i) (parts_split l i parts ts part t is_part is_kid)

      pub first_here : begins_here (tagged_place (Some i) (place_of l i part t)) ≡ true → first_from i ≡ Some i
      first_here e = turn ∙ cond_true (begins_here (tagged_place (Some i) (place_of l i part t))) (Some i) (first_from (i + 1)) e

      pub first_later : begins_here (tagged_place (Some i) (place_of l i part t)) ≡ false → first_from i ≡ first_from (i + 1)
      first_later e = turn ∙ cond_false (begins_here (tagged_place (Some i) (place_of l i part t))) (Some i) (first_from (i + 1)) e

    pub first_nowhere : (i : ℕ) → length parts ≤ i → first_from i ≡ None
    first_nowhere i last = ap (λ cs. position_from begins_here i (parts_from l i cs (drop i ts))) (drop_all i parts last)

    -- what is read then
    choice-is : (kid : TaggedPlace → Octets (Rose ValueLabel)) → choice_at M kid l ts parts X s ≡ (look kid (parts_from l 0 parts ts) >>= as_choice)
    unfolding choice_at
    choice-is kid = refl

    pub choice_none : (kid : TaggedPlace → Octets (Rose ValueLabel)) → first_start M l parts ts (drop s.at X) ≡ None → choice_at M kid l ts parts X s ≡ Err (unexpected X s)
    choice_none kid e =
        choice-is kid ∙ err_bind (look kid (parts_from l 0 parts ts)) as_choice (unexpected X s) (look_none kid 0 (parts_from l 0 parts ts) e)

    pub record Chosen (i : ℕ) : Type 0 where
      pub part : Component
      pub type : Rose TypeLabel
      pub is_part : slice_get parts i ≡ Some part
      pub is_type : slice_get ts i ≡ Some type
      pub within : i < length parts
      pub read : (kid : TaggedPlace → Octets (Rose ValueLabel)) → choice_at M kid l ts parts X s ≡ (kid (tagged_place (Some i) (place_of l i part type)) X s >>= told_as i)

    choice_told : (i : ℕ) (r : Result (Rose ValueLabel × Spot) Stop) → ((r >>= numbered i) >>= as_choice) ≡ (r >>= told_as i)
    choice_told i (Ok a) = refl
    choice_told i (Err e) = refl

    pub chosen : (i : ℕ) → first_start M l parts ts (drop s.at X) ≡ Some i → Chosen i
    chosen i e =
        let h = look_some 0 i (parts_from l 0 parts ts) e in
        let same : h.0 ≡ i = omega (arith, h.1) in
        by i h.0 same h.2
      where
        by : (i k : ℕ) → k ≡ i → Found (parts_from l 0 parts ts) k → Chosen i
        by i k same f = subst Chosen same (
            let g = from_some l 0 k parts ts f.place f.here in
            let n : 0 + k ≡ k = omega arith in
            record {
              part = g.0;
              type = g.1;
              is_part = g.2;
              is_type = g.3;
              within = got_within parts k g.0 g.2;
              read = λ kid. choice-is kid ∙ ap (λ r. r >>= as_choice) (f.read kid) ∙ choice_told k (kid f.place X s)
                  ∙ ap (λ (p : TaggedPlace). kid p X s >>= told_as k) (g.4 ∙ ap (λ n. tagged_place (Some n) (place_of l n g.0 g.1)) n);
            })

-- BEHIND A CHOICE nothing stands
module _ (read : Octets (Rose ValueLabel)) (X : List ℕ) (s : Spot) where
  abbrev told_end : Rose ValueLabel × Spot → Result (Rose ValueLabel × Spot) Stop
  told_end a = stop_if (ltb a.1.at (length X)) (stop_at a.1.at Tag) (Ok a)

  ended-is : ended_at (λ r. stop_at r.at Tag) read X s ≡ (read X s >>= told_end)
  unfolding ended_at
  ended-is = refl

  pub ended_fails : (e : DerEnd) → Fails e (read X s) → Fails e (ended_at (λ r. stop_at r.at Tag) read X s)
  ended_fails (fault.Stopped stop) h = ended-is ∙ err_bind (read X s) told_end stop h
  ended_fails fault.Memory h = tt

  module _ (v : Rose ValueLabel) (r : Spot) (is : read X s ≡ Ok (v, r)) where
    pub ended_more : r.at < length X → ended_at (λ r. stop_at r.at Tag) read X s ≡ Err (stop_at r.at Tag)
    ended_more some = ended-is ∙ ap (λ k. k >>= told_end) is ∙ ap (λ b. stop_if b (stop_at r.at Tag) (Ok (v, r))) (lt-ltb r.at (length X) some)

    pub ended_all : length X ≤ r.at → ended_at (λ r. stop_at r.at Tag) read X s ≡ Ok (v, r)
    ended_all nothing = ended-is ∙ ap (λ k. k >>= told_end) is ∙ ap (λ b. stop_if b (stop_at r.at Tag) (Ok (v, r))) (le-ltb r.at (length X) nothing)

  pub ended_err : (stop : Stop) → read X s ≡ Err stop → ended_at (λ r. stop_at r.at Tag) read X s ≡ Err stop
  ended_err stop h = ended-is ∙ err_bind (read X s) told_end stop h

-- THE ALTERNATIVE, as the code reads it
module _ (M : List Assignment) (depth : ℕ) (u : Rose TypeLabel) (parts : List Component) (X : List ℕ) (i : ℕ) where
  place-is : (part : Component) (t : Rose TypeLabel) → slice_get parts i ≡ Some part → slice_get (kids_of u) i ≡ Some t → alternative_place u parts i ≡ Some (place_of (label_of u) i part t)
  place-is part t is_part is_type = ap (λ o. place_at (label_of u) i o (slice_get (kids_of u) i)) is_part ∙ ap (λ o. place_at (label_of u) i (Some part) o) is_type

  pub alternative-is : (inner : ℕ) (part : Component) (t : Rose TypeLabel) (s : Spot) → slice_get parts i ≡ Some part → slice_get (kids_of u) i ≡ Some t → inner ≡ below (role_of (label_of u) i part) depth
      → alternative_read M depth i (alternative_place u parts i) X s ≡ (part_read M inner (Some i) part t X s >>= told_as i)
  alternative-is inner part t s is_part is_type is_inner =
      ap (λ o. alternative_read M depth i o X s) (place-is part t is_part is_type) ∙ ap (λ n. part_read M n (Some i) part t X s >>= told_as i) (sym is_inner)

  module _ (s : Spot) (ch : Chosen M X s (label_of u) parts (kids_of u) i) where
    abbrev chosen_place : TaggedPlace
    chosen_place = tagged_place (Some i) (place_of (label_of u) i ch.part ch.type)

    pub as_alternative : choice_at M (kid_at M depth) (label_of u) (kids_of u) parts X s ≡ alternative_read M depth i (alternative_place u parts i) X s
    as_alternative = ch.read (kid_at M depth) ∙ sym (ap (λ o. alternative_read M depth i o X s) (place-is ch.part ch.type ch.is_part ch.is_type))

    pub as_entered : is_over depth s ≡ false → choice_at M (entered_kid M depth) (label_of u) (kids_of u) parts X s ≡ alternative_read M depth i (alternative_place u parts i) X (spot s.at (s.nodes + 1))
    as_entered e =
        ch.read (entered_kid M depth) ∙ ap (λ r. r >>= told_as i) (enters depth s (kid_at M depth chosen_place) X e)
        ∙ sym (ap (λ o. alternative_read M depth i o X (spot s.at (s.nodes + 1))) (place-is ch.part ch.type ch.is_part ch.is_type))

    pub not_entered : is_over depth s ≡ true → choice_at M (entered_kid M depth) (label_of u) (kids_of u) parts X s ≡ Err (over depth s)
    not_entered e = ch.read (entered_kid M depth) ∙ err_bind (entered_kid M depth chosen_place X s) (told_as i) (over depth s) (enters_not depth s (kid_at M depth chosen_place) X e)
