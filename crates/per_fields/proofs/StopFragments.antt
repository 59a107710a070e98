-- Fragments stop where reading them stops, whatever stands behind their lengths.
use Rattle.std.proofs.Common.{◌≡◌, ℕ, zero, suc, ◌+◌, ◌*◌, ◌<◌, ◌≤◌, Bool, false, ltb, drop, List, [], ◌∷◌, ◌++◌, length, refl, sym, ap, ◌∙◌, arith, Option, Result, Ok, Err, inl, inr, map}
use Rattle.std.proofs.lemmas.Bool.{lt-ltb, ltb-true}
use Rattle.std.proofs.lemmas.List.{length-append}
use Rattle.base_codecs.specs.Bits.{octet_bits}
use Rattle.base_codecs.proofs.BitLemmas.{length-bits}
use Rattle.base_codecs.specs.declared.spots.Spot.{Spot}
use Rattle.base_codecs.specs.Reading.{with_spot}
use Rattle.base_codecs.proofs.Codecs.{other_words}
use Rattle.base_codecs.proofs.Lists.{weighs_nothing}
use Rattle.base_codecs.proofs.Steps.{Iff, Told, Inside, bind_err, err_bind, ok_bind, stop_err, err_stop, none_stops, map_told}
use Rattle.per_fields.specs.declared.stops.Stop.{Stop}
use Rattle.per_fields.specs.declared.stops.Why.TheVariants.{Short}
use Rattle.per_fields.specs.Reading.{◌>>=◌, Reader, stop_at, moved, stop_if, octets_at, octets_from}
use Rattle.per_fields.specs.Fields.{gap_bits, in_turn, unit, Piece, Last, Units, IsPiece, piece_bits, head_bits, items_of, is_out, count_at, fragments_at, counted_at}
use Rattle.per_fields.specs.Codec.{Came, Anything, Field, AllOf, total_of}
use Rattle.per_fields.specs.Encoding.{octet_writer}
use Rattle.per_fields.proofs.Fragments.{count_field, octets_codec, run_octets}
use Rattle.per_fields.specs.Faults.{IsCount}
use Rattle.per_fields.specs.Stopping.{FragmentsStop, CountedStop, OctetsStand, OctetsEnd}
use Rattle.per_fields.proofs.Steps.{after, came, goes}
use Rattle.per_fields.proofs.StopFields.{count_told}

module _ (aligned : Bool) (X : List Bool) {A : Type 0} (items : ℕ → Reader (List A)) (Stand : ℕ → Spot → Spot → Type 0) (SomeStops SomeStops' : ℕ → Spot → Stop → Type 0) where
  -- so many are read where they stand, and stop where one of them stops
  pub record AreRead : Type 0 where
    pub stand : (n : ℕ) (s r : Spot) (xs : List A) → Inside X s → items n X s ≡ Ok (xs, r) → Stand n s r
    pub goes : (n : ℕ) (s r : Spot) → Inside X s → Stand n s r → (xs : List A) × (items n X s ≡ Ok (xs, r))
    pub within : (n : ℕ) (s r : Spot) → Inside X s → Stand n s r → Inside X r × (s.at ≤ r.at)
    pub told : (n : ℕ) (s : Spot) (stop : Stop) → Inside X s → Told (items n X s ≡ Err stop) (SomeStops n s stop) (SomeStops' n s stop)

  module _ (least : ℕ) (most : Option ℕ) (are : AreRead) where
    abbrev behind : ℕ → ℕ → Piece → Spot → Result (List A × Spot) Stop
    behind turns total n r =
        elim n as (λ _. Result (List A × Spot) Stop) [
          | Last k ↦ items k X r
          | Units k ↦ items (k * unit) X r >>= λ a. fragments_at aligned least most items turns k (total + k * unit) X a.1 >>= λ b. with_spot (a.0 ++ b.0) b.1
        ]

    forward : (n : Piece) (s r : Spot) → Came X s r (head_bits aligned n s.at) 0 → (k : ℕ) → n ≡ Units k → s.at < r.at
    forward n s r c k e =
        let l : length (head_bits aligned n s.at) ≡ length (gap_bits aligned s.at) + length (piece_bits n) = length-append (gap_bits aligned s.at) (piece_bits n) in
        let o : length (piece_bits n) ≡ 8 = ap (λ m. length (piece_bits m)) e ∙ length-bits 8 (192 + k) in
        omega (arith, c.taken.end, l, o)

    is_count : (before total : ℕ) (s : Spot) (n : Piece) (r : Spot) → (IsPiece before n × (is_out least most total n ≡ false)) × Came X s r (head_bits aligned n s.at) 0 → IsCount X aligned least most before total s n r
    is_count before total s n r c = (c.0.0, c.0.1, c.1)

    abbrev Stops : ℕ → ℕ → Spot → Stop → Type 0
    Stops before total s stop = (ks : List ℕ) × FragmentsStop aligned X Stand SomeStops least most ks before total s stop

    stopped : (turns before total : ℕ) (s : Spot) (stop : Stop) → Inside X s → length X < s.at + turns → fragments_at aligned least most items turns before total X s ≡ Err stop → Stops before total s stop
    unfolding fragments_at
    stopped zero before total s stop inside enough e = absurd (omega (arith, inside.0, enough))
    stopped (suc turns) before total s stop inside enough e =
        elim (bind_err (count_at aligned least most before total X s) (λ n. behind turns total n.0 n.1) stop e) [
          | inl h ↦ ([], inl ((count_told X before aligned least most total s stop inside).0 h))
          | inr k ↦ (
              let c = came X (λ n. IsPiece before n × (is_out least most total n ≡ false)) (λ n. 0) (head_bits aligned) (count_at aligned least most before total) (count_field aligned least most before total) s k.0.0 k.0.1 inside k.1 in
              by k.0.0 k.0.1 c (after X s k.0.1 (head_bits aligned k.0.0 s.at) 0 inside c.1) k.2 (stopped turns))
        ]
      where
        by : (n : Piece) (r : Spot) → (IsPiece before n × (is_out least most total n ≡ false)) × Came X s r (head_bits aligned n s.at) 0 → Inside X r → behind turns total n r ≡ Err stop
            → ((before total : ℕ) (s : Spot) (stop : Stop) → Inside X s → length X < s.at + turns → fragments_at aligned least most items turns before total X s ≡ Err stop → Stops before total s stop)
            → Stops before total s stop
        by (Last k) r c in_ e further = ([], inr (Last k, r, is_count before total s (Last k) r c, (are.told k r stop in_).0 e))
        by (Units k) r c in_ e further =
            elim (bind_err (items (k * unit) X r) (λ a. fragments_at aligned least most items turns k (total + k * unit) X a.1 >>= λ b. with_spot (a.0 ++ b.0) b.1) stop e) [
              | inl h ↦ ([], inr (Units k, r, is_count before total s (Units k) r c, (are.told (k * unit) r stop in_).0 h))
              | inr j ↦ (
                  let stand = are.stand (k * unit) r j.0.1 j.0.0 in_ j.1 in
                  let w = are.within (k * unit) r j.0.1 in_ stand in
                  let rest = further k (total + k * unit) j.0.1 stop w.0 (omega (arith, enough, w.1, forward (Units k) s r c.1 k refl))
                  ((map_told (fragments_at aligned least most items turns k (total + k * unit) X j.0.1) (λ ys. j.0.0 ++ ys) stop).0 j.2) in
                  (k ∷ rest.0, (r, j.0.1, is_count before total s (Units k) r c, stand, rest.1)))
            ]

    counts : (before total : ℕ) (s : Spot) (n : Piece) (r : Spot) → Inside X s → IsCount X aligned least most before total s n r → count_at aligned least most before total X s ≡ Ok (n, r)
    counts before total s n r inside c =
        goes X (λ n. IsPiece before n × (is_out least most total n ≡ false)) (λ n. 0) (head_bits aligned) (count_at aligned least most before total) (count_field aligned least most before total) s n r inside (c.0, c.1) c.2

    stops : (turns : ℕ) (ks : List ℕ) (before total : ℕ) (s : Spot) (stop : Stop) → Inside X s → length X < s.at + turns → FragmentsStop aligned X Stand SomeStops' least most ks before total s stop
        → fragments_at aligned least most items turns before total X s ≡ Err stop
    unfolding fragments_at
    stops zero ks before total s stop inside enough h = absurd (omega (arith, inside.0, enough))
    stops (suc turns) [] before total s stop inside enough (inl h) =
        err_bind (count_at aligned least most before total X s) (λ n. behind turns total n.0 n.1) stop ((count_told X before aligned least most total s stop inside).1 h)
    stops (suc turns) [] before total s stop inside enough (inr k) =
        ok_bind (count_at aligned least most before total X s) (λ n. behind turns total n.0 n.1) (k.0, k.1) stop (counts before total s k.0 k.1 inside k.2)
        (by k.0 k.1 (after X s k.1 (head_bits aligned k.0 s.at) 0 inside k.2.2) k.3)
      where
        by : (n : Piece) (r : Spot) → Inside X r → SomeStops' (items_of n) r stop → behind turns total n r ≡ Err stop
        by (Last j) r in_ h = (are.told j r stop in_).1 h
        by (Units j) r in_ h =
            err_bind (items (j * unit) X r) (λ a. fragments_at aligned least most items turns j (total + j * unit) X a.1 >>= λ b. with_spot (a.0 ++ b.0) b.1) stop ((are.told (j * unit) r stop in_).1 h)
    stops (suc turns) (j ∷ ks) before total s stop inside enough k =
        let r = k.0 in
        let q = k.1 in
        let in_r = after X s r (head_bits aligned (Units j) s.at) 0 inside k.2.2 in
        let w = are.within (j * unit) r q in_r k.3 in
        let g = are.goes (j * unit) r q in_r k.3 in
        let rest = stops turns ks j (total + j * unit) q stop w.0 (omega (arith, enough, w.1, forward (Units j) s r k.2.2 j refl)) k.4 in
        ok_bind (count_at aligned least most before total X s) (λ n. behind turns total n.0 n.1) (Units j, r) stop (counts before total s (Units j) r inside k.2)
        (ok_bind (items (j * unit) X r) (λ a. fragments_at aligned least most items turns j (total + j * unit) X a.1 >>= λ b. with_spot (a.0 ++ b.0) b.1) (g.0, q) stop g.1
        ((map_told (fragments_at aligned least most items turns j (total + j * unit) X q) (λ ys. g.0 ++ ys) stop).1 rest))

    pub counted : (s : Spot) (stop : Stop) → Inside X s → Told (counted_at aligned least most items X s ≡ Err stop) (CountedStop aligned X Stand SomeStops least most s stop) (CountedStop aligned X Stand SomeStops' least most s stop)
    counted s stop inside = (
      λ e. stopped (suc (length X)) 4 0 s stop inside (omega arith) e,
      λ h. stops (suc (length X)) h.0 4 0 s stop inside (omega arith) h.1,
    )

-- THE OCTETS OF A TEXT
text_codec : (n : ℕ) → Field (λ text. (length text ≡ n) × AllOf (λ x. x < 256) text) (λ text p. octet_bits text) (octets_at n)
text_codec n =
    other_words Anything Anything (λ text. (length text ≡ n) × AllOf (λ x. x < 256) text) (λ text. (length text ≡ n) × AllOf (λ x. x < 256) text) (total_of (λ x. 0)) (λ text. 0)
    (λ text. in_turn (map octet_writer text)) (λ text p. octet_bits text) (octets_at n) (octets_codec n)
    (λ text v. (v, sym (weighs_nothing text), λ p. sym (run_octets text p))) (λ text v. v)

module _ (aligned : Bool) (X : List Bool) where
  octets_end : (n : ℕ) (s : Spot) (stop : Stop) → Iff (octets_at n X s ≡ Err stop) (OctetsEnd X n s stop)
  unfolding octets_at
  octets_end n s stop = (forth, back)
    where
      forth : stop_if (ltb (length X) (s.at + 8 * n)) (stop_at s.at Short (length X)) (with_spot (octets_from n (drop s.at X)) (moved s (8 * n) 0)) ≡ Err stop → OctetsEnd X n s stop
      forth e = elim (stop_err (ltb (length X) (s.at + 8 * n)) (stop_at s.at Short (length X)) (with_spot (octets_from n (drop s.at X)) (moved s (8 * n) 0)) stop e) [
        | inl h ↦ (ltb-true (length X) (s.at + 8 * n) h.0, h.1)
        | inr h ↦ none_stops (octets_from n (drop s.at X)) (moved s (8 * n) 0) stop h.1
      ]

      back : OctetsEnd X n s stop → stop_if (ltb (length X) (s.at + 8 * n)) (stop_at s.at Short (length X)) (with_spot (octets_from n (drop s.at X)) (moved s (8 * n) 0)) ≡ Err stop
      back h =
          err_stop (ltb (length X) (s.at + 8 * n)) (stop_at s.at Short (length X)) stop (with_spot (octets_from n (drop s.at X)) (moved s (8 * n) 0)) (lt-ltb (length X) (s.at + 8 * n) h.0) h.1

  pub octets_read : AreRead aligned X octets_at (OctetsStand X) (OctetsEnd X) (OctetsEnd X)
  octets_read = record {
    stand = λ n s r text inside e. let c = came X (λ text. (length text ≡ n) × AllOf (λ x. x < 256) text) (λ text. 0) (λ text p. octet_bits text) (octets_at n) (text_codec n) s text r inside e in (text, c.0.0, c.0.1, c.1);
    goes = λ n s r inside k. (k.0, goes X (λ text. (length text ≡ n) × AllOf (λ x. x < 256) text) (λ text. 0) (λ text p. octet_bits text) (octets_at n) (text_codec n) s k.0 r inside (k.1, k.2) k.3);
    within = λ n s r inside k. (after X s r (octet_bits k.0) 0 inside k.3, omega (arith, k.3.taken.end));
    told = λ n s stop inside. octets_end n s stop;
  }
