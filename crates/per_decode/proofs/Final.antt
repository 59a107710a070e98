-- What was read of the octets that a source began with, as the definitions of encodings and first stops have it.
use Rattle.std.proofs.Common.{◌≡◌, ℕ, ◌+◌, ◌-◌, ◌*◌, ◌/◌, ◌<◌, ◌≤◌, Bool, true, false, cond, leb, List, [], ◌++◌, length, refl, sym, ap, ◌∙◌, subst, arith, take, drop, Option, Some, None, Result, Ok, Err, inl, inr}
use Rattle.std.specs.Prelude.{slice_get, ◌&&◌}
use Rattle.std.specs.Option.{option_map}
use Rattle.std.proofs.lemmas.List.{length-take}
use Rattle.std.proofs.Math.Seq.{take-add}
use Rattle.std.proofs.lemmas.Bool.{le-leb, lt-leb}
use Rattle.base_codecs.specs.Bits.{octet_bits}
use Rattle.base_codecs.proofs.BitLemmas.{length-octet_bits, octet_bits-append}
use Rattle.base_trees.specs.Rose.{Rose, node_count}
use Rattle.simple_types.specs.declared.labels.ValueLabel.{ValueLabel}
use Rattle.asn_types.specs.declared.modules.Assignment.{Assignment}
use Rattle.asn_types.specs.Refs.{body_at}
use Rattle.asn_values.specs.Values.{FitsAt, In}
use Rattle.asn_types.proofs.Inside.{body-well_formed}
use Rattle.base_codecs.specs.declared.spots.Spot.{Spot}
use Rattle.base_codecs.proofs.Codecs.{bind_ok, ok_is}
use Rattle.per_fields.specs.declared.stops.Stop.{Stop}
use Rattle.per_fields.specs.declared.stops.Why.{Why}
use Rattle.per_fields.specs.declared.stops.Why.TheVariants as why
use Rattle.per_fields.specs.Reading.{◌>>=◌, stop_at}
use Rattle.per_fields.specs.Codec.{Taken, Codec}
use Rattle.per_fields.specs.Encoding.{per, complete_of, complete_by}
use Rattle.per_fields.specs.Levels.{levels_needed}
use Rattle.per_fields.specs.Nodes.{node_at, start, last_at, whole_of}
use Rattle.per_fields.specs.Laws.{BeginsBy, reading_by}
use Rattle.per_fields.proofs.Levels.{body-tall}
use Rattle.per_fields.proofs.Recursion.{body-bounded, node_codec}
use Rattle.per_fields.proofs.Law.{takes-last, not_both, one_value, whole_octets}
use Rattle.per_fields.specs.Stopping.{StopsFirstBy}
use Rattle.per_fields.proofs.StopLaw.{stops_as_read}
use Rattle.per_decode.specs.declared.errors.DecodeError.{DecodeError}
use Rattle.per_decode.specs.declared.errors.DecodeError.TheVariants as error
use Rattle.per_fields.specs.Stops.{is_short}
use Rattle.per_decode.specs.Answers.{Takes, fault_of, AnswersBy, Answer}
use Rattle.per_decode.specs.Private.Giving.{Halt, stopped, short, too_long, failed, memory, error_of, spot, input, end_of, IsRead, FailsAt, Ended}
use Rattle.per_decode.specs.Private.Bodies.{IsKnown, complete_at}
use Rattle.per_decode.proofs.Origins.{is_told, contents}

module _ (aligned : Bool) (M : List Assignment) (known : IsKnown M) (t : ℕ) (a : Assignment) (at : slice_get M t ≡ Some a) (assigned : t < length M) where
  body_is : body_at M t ≡ Some a.body
  body_is = ap (option_map (λ b. b.body)) at

  root_codec : Codec (FitsAt M 1 a.body) node_count (per aligned M a.body) (node_at aligned M (levels_needed M 1 a.body) 1 a.body)
  root_codec = node_codec aligned M known.0 known.1 (levels_needed M 1 a.body) 1 a.body (body-well_formed M known.0 t a.body body_is) (body-bounded M t a.body known.1 body_is) (body-tall M M t a.body body_is) (λ one. omega arith)

  abbrev fits_in : Rose ValueLabel → Option Assignment → Type 0
  fits_in v o = elim o [ None ↦ ⊥ | Some b ↦ FitsAt M 1 b.body v ]

  -- a value that fits
  pub in_module : (v : Rose ValueLabel) → FitsAt M 1 a.body v → node_count v ≤ 1048576 → In M t v
  in_module v fits few = (subst (fits_in v) (sym at) fits, few)

  complete_is : (v : Rose ValueLabel) → complete_by aligned M t v ≡ complete_of aligned M a.body v
  complete_is v = ap (λ (o : Option Assignment). elim o as (λ _. List Bool) [ None ↦ [] | Some b ↦ complete_of aligned M b.body v ]) at

  whole_is : (X : List Bool) → reading_by aligned M t X ≡ Some (complete_at aligned M a.body X (spot 0 0))
  unfolding whole_of
  whole_is X = ap (λ (o : Option Assignment). elim o as (λ _. Option (Result (Rose ValueLabel × Spot) Stop)) [ None ↦ None | Some b ↦ Some (whole_of aligned M b.body X) ]) at

  -- what is read is a value at the front
  begins : (X : List Bool) (v : Rose ValueLabel) (r : Spot) → complete_at aligned M a.body X (spot 0 0) ≡ Ok (v, r) → BeginsBy aligned M t X v × (r.at ≡ length (complete_by aligned M t v)) × (r.at ≤ length X)
  begins X v r e =
      let one = bind_ok (node_at aligned M (levels_needed M 1 a.body) 1 a.body X start) (λ v. last_at X v.1 >>= λ z. Ok (v.0, z.1)) (v, r) e in
      let two = bind_ok (last_at X one.0.1) (λ z. Ok (one.0.0, z.1)) (v, r) one.2 in
      let k = root_codec.takes X start one.0 tt (omega arith) one.1 in
      let l = takes-last X (per aligned M a.body one.0.0 0) one.0.1 two.0 k.0.taken two.1 in
      let same : (one.0.0, two.0.1) ≡ (v, r) = ok_is (one.0.0, two.0.1) (v, r) two.2 in
      let taken : Taken X 0 r.at (complete_of aligned M a.body v) = subst (λ (y : Rose ValueLabel × Spot). Taken X 0 y.1.at (complete_of aligned M a.body y.0)) same l in
      let fits : FitsAt M 1 a.body v = subst (λ (y : Rose ValueLabel × Spot). FitsAt M 1 a.body y.0) same k.1 in
      let few : node_count v ≤ 1048576 = subst (λ (y : Rose ValueLabel × Spot). node_count y.0 ≤ 1048576) same (omega (arith, k.0.nodes, k.0.few (omega arith))) in (
        record { rest = drop r.at X; is = taken.parts ∙ ap (λ m. m ++ drop r.at X) (sym (complete_is v)); value = in_module v fits few },
        omega (arith, taken.end, ap length (complete_is v)),
        taken.inside,
      )

  -- the answer that is told
  abbrev pub answer_of : Result (Rose ValueLabel × ℕ) DecodeError → Answer
  answer_of (Ok found) = Ok (record { value = found.0; octets = found.1 })
  answer_of (Err e) = Err e

  module _ (limit : ℕ) (left : List ℕ) where
    abbrev read : Result (Rose ValueLabel × Spot) Stop
    read = complete_at aligned M a.body (input limit left) (spot 0 0)

    stops-from : (stop : Stop) → read ≡ Err stop → StopsFirstBy aligned M t (input limit left) stop
    stops-from stop e = (stops_as_read aligned M t (take limit left) known.0 known.1 assigned stop).0 (whole_is (input limit left) ∙ ap (λ r. Some r) e)

    some_is : {A : Type 0} (x y : A) → Some x ≡ Some y → x ≡ y
    some_is x y e = cc

    stops-to : (stop : Stop) → StopsFirstBy aligned M t (input limit left) stop → read ≡ Err stop
    stops-to stop h = some_is read (Err stop) (sym (whole_is (input limit left)) ∙ (stops_as_read aligned M t (take limit left) known.0 known.1 assigned stop).1 h)

    not_both_here : (v : Rose ValueLabel) (stop : Stop) → BeginsBy aligned M t (input limit left) v → StopsFirstBy aligned M t (input limit left) stop → ⊥
    not_both_here v stop b s = not_both aligned M t (take limit left) known.0 known.1 assigned v stop b ((stops_as_read aligned M t (take limit left) known.0 known.1 assigned stop).1 s)

    -- where a value stands at the front, it is what is read
    read_is : (v : Rose ValueLabel) → BeginsBy aligned M t (input limit left) v → (r : Spot) × (read ≡ Ok (v, r)) × (r.at ≡ length (complete_by aligned M t v))
    read_is v b = by read refl
      where
        by : (r : Result (Rose ValueLabel × Spot) Stop) → read ≡ r → (r : Spot) × (read ≡ Ok (v, r)) × (r.at ≡ length (complete_by aligned M t v))
        by (Ok x) e =
            let g = begins (input limit left) x.0 x.1 e in
            let same : x.0 ≡ v = (one_value aligned M t (take limit left) known.0 known.1 assigned x.0 v g.0 b).0 in
            (x.1, e ∙ ap (λ w. Ok (w, x.1)) same, g.1 ∙ ap (λ w. length (complete_by aligned M t w)) same)
        by (Err stop) e = absurd (not_both_here v stop b (stops-from stop e))

    module _ (new : Option (List ℕ)) (taken : ℕ) (inside : taken ≤ length left) (limited : taken ≤ limit) (rest : new ≡ Some (drop taken left)) where
      up_to : 8 * taken ≤ end_of read + 7 → Takes aligned M t limit left new taken
      up_to h = record {
        inside = inside;
        limited = limited;
        rest = rest;
        value = λ v b. let g = read_is v b in omega (arith, h, ap end_of g.1, g.2, whole_octets aligned M t v);
        stop = λ stop k. omega (arith, h, ap end_of (stops-to stop k));
      }

      -- how many octets a value is told with
      abbrev told_with : Rose ValueLabel → ℕ → Answer
      told_with v n = Ok (record { value = v; octets = n })

      told_octets : (v : Rose ValueLabel) → 8 * taken ≡ length (complete_by aligned M t v) → told_with v taken ≡ told_with v (length (complete_by aligned M t v) / 8)
      told_octets v long = let e : taken ≡ length (complete_by aligned M t v) / 8 = omega (arith, long) in ap (told_with v) e

      ok_answers : (v : Rose ValueLabel) (r : Spot) → read ≡ Ok (v, r) → r.at ≡ 8 * taken → AnswersBy aligned M t limit left new (Ok (record { value = v; octets = taken }))
      ok_answers v r e end =
          let g = begins (input limit left) v r e in
          let long : 8 * taken ≡ length (complete_by aligned M t v) = sym end ∙ g.1 in
          record {
            count = taken;
            takes = up_to (omega (arith, ap end_of e, end));
            says = (g.0, long, refl);
            value = λ w b. inl (told_octets v long ∙ ap (λ (u : Rose ValueLabel). told_with u (length (complete_by aligned M t u) / 8)) (one_value aligned M t (take limit left) known.0 known.1 assigned v w g.0 b).0);
            stop = λ stop k. absurd (not_both_here v stop g.0 k);
          }

      -- an encoding in front of what was taken
      front_begins : (v : Rose ValueLabel) (n : ℕ) → n ≤ taken → In M t v → octet_bits (take n left) ≡ complete_by aligned M t v → BeginsBy aligned M t (input limit left) v
      front_begins v n few is e =
          let m : n + (limit - n) ≡ limit = omega (arith, few, limited) in
          record {
            rest = octet_bits (take (limit - n) (drop n left));
            is = ap (λ k. octet_bits (take k left)) (sym m) ∙ ap octet_bits (take-add n (limit - n) left) ∙ octet_bits-append (take n left) (take (limit - n) (drop n left)) ∙ ap (λ bs. bs ++ octet_bits (take (limit - n) (drop n left))) e;
            value = is;
          }

      failed_answers : 8 * taken ≤ end_of read + 7 → (IsRead read → 8 * taken < end_of read) → AnswersBy aligned M t limit left new (Err error.Failed)
      failed_answers h less = record {
        count = taken;
        takes = up_to h;
        says = λ v n few is e.
            let g = read_is v (front_begins v n few is e) in
            let r : IsRead read = subst IsRead (sym g.1) tt in
            omega (arith, less r, ap end_of g.1, g.2, sym (ap length e), length-octet_bits (take n left), length-take n left, few);
        value = λ v b. inr (inl refl);
        stop = λ stop k. inr (inl refl);
      }

      memory_answers : 8 * taken ≤ end_of read + 7 → AnswersBy aligned M t limit left new (Err error.Memory)
      memory_answers h = record { count = taken; takes = up_to h; says = tt; value = λ v b. inr (inr refl); stop = λ stop k. inr (inr refl) }

      err_is : (s u : Stop) → read ≡ Err s → read ≡ Err u → s ≡ u
      err_is s u e f = let k : Err s ≡ Err u = sym e ∙ f in cc

      bad_answers : (s : Stop) → read ≡ Err s → 8 * taken ≤ s.end + 7 → fault_of limit left s ≡ error.Bad s.bit s.why → (s.why ≡ why.Short → length left < limit) → AnswersBy aligned M t limit left new (Err (error.Bad s.bit s.why))
      bad_answers s e h told cut = record {
        count = taken;
        takes = up_to (omega (arith, h, ap end_of e));
        says = (s, stops-from s e, refl, refl, cut);
        value = λ v b. absurd (not_both_here v s b (stops-from s e));
        stop = λ u k. let same : s ≡ u = err_is s u e (stops-to u k) in inl (ap (λ f. Err f) (sym told ∙ ap (fault_of limit left) same));
      }

      long_answers : (s : Stop) → read ≡ Err s → 8 * taken ≤ s.end + 7 → s.why ≡ why.Short → fault_of limit left s ≡ error.TooLong → limit ≤ length left → AnswersBy aligned M t limit left new (Err error.TooLong)
      long_answers s e h is told full = record {
        count = taken;
        takes = up_to (omega (arith, h, ap end_of e));
        says = (s, stops-from s e, is, full);
        value = λ v b. absurd (not_both_here v s b (stops-from s e));
        stop = λ u k. let same : s ≡ u = err_is s u e (stops-to u k) in inl (ap (λ f. Err f) (sym told ∙ ap (fault_of limit left) same));
      }

    short_no : (w : Why) → is_short w ≡ false → w ≡ why.Short → length left < limit
    short_no w other is = let e : true ≡ false = sym (ap is_short is) ∙ other in absurd cc

    -- each answer of the code is that of the definitions
    err_answers : (new : Option (List ℕ)) (taken : ℕ) (inside : taken ≤ length left) (limited : taken ≤ limit) (rest : new ≡ Some (drop taken left)) (halt : Halt)
        → FailsAt limit left halt taken read → AnswersBy aligned M t limit left new (Err (error_of halt))
    err_answers new taken inside limited rest (stopped s) h =
        bad_answers new taken inside limited rest s h.0 h.1 (ap (λ b. cond (b && leb limit (length left)) error.TooLong (error.Bad s.bit s.why)) h.2) (short_no s.why h.2)
    err_answers new taken inside limited rest (short bit) h =
        bad_answers new taken inside limited rest (stop_at bit why.Short (8 * taken)) h.0 (omega arith) (ap (λ b. cond b error.TooLong (error.Bad bit why.Short)) (lt-leb limit (length left) h.1)) (λ _. h.1)
    err_answers new taken inside limited rest (too_long bit) h =
        long_answers new taken inside limited rest (stop_at bit why.Short (8 * taken)) h.0 (omega arith) refl (ap (λ b. cond b error.TooLong (error.Bad bit why.Short)) (le-leb limit (length left) h.1)) h.1
    err_answers new taken inside limited rest failed h = failed_answers new taken inside limited rest h.0 h.1
    err_answers new taken inside limited rest memory h = memory_answers new taken inside limited rest h

    pub answers : (new : Option (List ℕ)) (r : Result (Rose ValueLabel × ℕ) DecodeError) → Ended limit left (λ found. found.0) (λ found. found.1) r new (complete_at aligned M a.body) → AnswersBy aligned M t limit left new (answer_of r)
    answers new (Ok found) h =
        subst (λ n. AnswersBy aligned M t limit left new (Ok (record { value = found.0; octets = n }))) (sym h.octets.1) (ok_answers new h.taken h.inside h.limited h.rest found.0 h.end h.gives h.octets.0)
    answers new (Err e) h = subst (λ f. AnswersBy aligned M t limit left new (Err f)) h.gives.1 (err_answers new h.taken h.inside h.limited h.rest h.gives.0 h.gives.2)

  pub answers_told : (limit : ℕ) (left : List ℕ) (old new : Option (List ℕ)) (r : Result (Rose ValueLabel × ℕ) DecodeError) → old ≡ Some left → (is_told old ≡ true → Ended limit (contents old) (λ found. found.0) (λ found. found.1) r new (complete_at aligned M a.body))
      → AnswersBy aligned M t limit left new (answer_of r)
  answers_told limit left old new r is h =
      let told : is_told old ≡ true = ap is_told is in
      let same : contents old ≡ left = ap contents is in
      answers limit left new r (subst (λ ys. Ended limit ys (λ found. found.0) (λ found. found.1) r new (complete_at aligned M a.body)) same (h told))
