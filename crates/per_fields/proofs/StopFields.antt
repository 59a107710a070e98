-- Each field stops where reading it stops.
use Rattle.std.proofs.Common.{◌≡◌, ℕ, ◌+◌, ◌-◌, ◌*◌, ◌<◌, ◌≤◌, ◌^◌, Bool, true, false, cond, not, eqb, ltb, ◌&&◌, ◌||◌, List, [], ◌∷◌, length, refl, sym, ap, ◌∙◌, arith, take, drop, Option, Some, None, Result, Ok, Err, inl, inr, ◌⊎◌, ℤ}
use Rattle.std.proofs.lemmas.Bool.{cases_lt, lt-ltb, le-ltb, ltb-true, ltb-false, eqb-true, eqb-false, eq-eqb, ne_eqb}
use Rattle.base_codecs.specs.Bits.{bits, number, gap, padding}
use Rattle.simple_types.specs.Lexical.{is_128_bits, is_to}
use Rattle.asn_types.specs.declared.types.Component.{Component}
use Rattle.base_codecs.specs.declared.spots.Spot.{Spot}
use Rattle.base_codecs.specs.Reading.{with_spot}
use Rattle.base_codecs.proofs.Steps.{Iff, Inside, err_is, err_bind, stop_err, err_stop, err_later, none_stops, map_told, lacking, no_fact}
use Rattle.per_fields.specs.declared.stops.Stop.{Stop}
use Rattle.per_fields.specs.declared.stops.Why.{Why}
use Rattle.per_fields.specs.declared.stops.Why.TheVariants.{Short, Padding, NotShortest, Range, TooWide}
use Rattle.per_fields.specs.Widths.{width_of, more_of, distance, raised, more_signed, signed_of}
use Rattle.per_fields.specs.Reading.{◌>>=◌, Reader, stop_at, moved, stop_if, bits_at, align_at, each_at}
use Rattle.per_fields.specs.Fields.{then_bits, skip_at, gap_bits, length_bits, within_at, aligned_at, large_octets_at, large_at, number_at, Piece, Last, Units, IsPiece, piece_bits, length_from, length_here, is_out, count_here, count_at, octet_count_here, octet_count_at, from_octets_at, from_at, signed_octets_at, signed_at, ranged_at, whole_at}
use Rattle.per_fields.specs.Codec.{Came}
use Rattle.per_fields.specs.Nodes.{flag_at, last_by, last_at}
use Rattle.per_fields.proofs.Codecs.{align_field}
use Rattle.per_fields.proofs.WidthLaws.{width_fits}
use Rattle.per_fields.proofs.NumberLaws.{within_field}
use Rattle.per_fields.proofs.Fragments.{length_field}
use Rattle.per_fields.proofs.WholeLaws.{check_count, octet_count_field}
use Rattle.per_fields.specs.Faults.{IsOne, IsAbove, FitsFewer, LargeFault, AboveFault, SignedFault, UnitsFault, CountFault, optional_count, AreBits, EndsWithin, BitsStop, PaddingStops, AlignedStops, GapStops, LargeStops, NumberStops, LengthStops, CountStops, OctetCountStops, OctetsStop, WholeStops, FlagsStop, LastStops}
use Rattle.per_fields.proofs.Steps.{then_told, bits_end, bits_then}

-- A TEST OF A NUMBER finds just the faults
abbrev pub Finds : {B : Type 0} → (ℕ → Why → Type 0) → ℕ → (ℕ × Spot → Result B Stop) → Type 0
Finds Fault begin check = (x : ℕ) (r : Spot) (stop : Stop) → Iff (check (x, r) ≡ Err stop) ((why : Why) × Fault x why × (stop ≡ stop_at begin why r.at))

one_test : {B : Type 0} (b : Bool) (P : Type 0) (why : Why) (begin : ℕ) (y : B) (r : Spot) (stop : Stop) → Iff (b ≡ true) P
    → Iff (stop_if b (stop_at begin why r.at) (with_spot y r) ≡ Err stop) ((w : Why) × (P × (w ≡ why)) × (stop ≡ stop_at begin w r.at))
one_test b P why begin y r stop means = (forth, back)
  where
    forth : stop_if b (stop_at begin why r.at) (with_spot y r) ≡ Err stop → (w : Why) × (P × (w ≡ why)) × (stop ≡ stop_at begin w r.at)
    forth e = elim (stop_err b (stop_at begin why r.at) (with_spot y r) stop e) [
      | inl h ↦ (why, (means.0 h.0, refl), h.1)
      | inr h ↦ none_stops y r stop h.1
    ]

    back : (w : Why) × (P × (w ≡ why)) × (stop ≡ stop_at begin w r.at) → stop_if b (stop_at begin why r.at) (with_spot y r) ≡ Err stop
    back k = err_stop b (stop_at begin why r.at) stop (with_spot y r) (means.1 k.1.0) (k.2 ∙ ap (λ w. stop_at begin w r.at) k.1.1)

pub two_tests : {B : Type 0} (b c : Bool) (P N Q : Type 0) (why worse : Why) (begin : ℕ) (y : B) (r : Spot) (stop : Stop) → Iff (b ≡ true) P → Iff (b ≡ false) N → Iff (c ≡ true) Q
    → Iff (stop_if b (stop_at begin why r.at) (stop_if c (stop_at begin worse r.at) (with_spot y r)) ≡ Err stop)
    ((w : Why) × ((P × (w ≡ why)) ⊎ (N × Q × (w ≡ worse))) × (stop ≡ stop_at begin w r.at))
two_tests b c P N Q why worse begin y r stop means lacks also = (forth, back)
  where
    forth : stop_if b (stop_at begin why r.at) (stop_if c (stop_at begin worse r.at) (with_spot y r)) ≡ Err stop
        → (w : Why) × ((P × (w ≡ why)) ⊎ (N × Q × (w ≡ worse))) × (stop ≡ stop_at begin w r.at)
    forth e = elim (stop_err b (stop_at begin why r.at) (stop_if c (stop_at begin worse r.at) (with_spot y r)) stop e) [
      | inl h ↦ (why, inl (means.0 h.0, refl), h.1)
      | inr h ↦ elim (stop_err c (stop_at begin worse r.at) (with_spot y r) stop h.1) [
        | inl k ↦ (worse, inr (lacks.0 h.0, also.0 k.0, refl), k.1)
        | inr k ↦ none_stops y r stop k.1
      ]
    ]

    by : (w : Why) → (P × (w ≡ why)) ⊎ (N × Q × (w ≡ worse)) → stop ≡ stop_at begin w r.at → stop_if b (stop_at begin why r.at) (stop_if c (stop_at begin worse r.at) (with_spot y r)) ≡ Err stop
    by w (inl h) e = err_stop b (stop_at begin why r.at) stop (stop_if c (stop_at begin worse r.at) (with_spot y r)) (means.1 h.0) (e ∙ ap (λ w. stop_at begin w r.at) h.1)
    by w (inr h) e =
        err_later b (stop_at begin why r.at) stop (stop_if c (stop_at begin worse r.at) (with_spot y r)) (lacks.1 h.0)
        (err_stop c (stop_at begin worse r.at) stop (with_spot y r) (also.1 h.1) (e ∙ ap (λ w. stop_at begin w r.at) h.2))

    back : (w : Why) × ((P × (w ≡ why)) ⊎ (N × Q × (w ≡ worse))) × (stop ≡ stop_at begin w r.at) → stop_if b (stop_at begin why r.at) (stop_if c (stop_at begin worse r.at) (with_spot y r)) ≡ Err stop
    back k = by k.0 k.1 k.2

above : (a b : ℕ) → Iff (ltb a b ≡ true) (a < b)
above a b = (λ e. ltb-true a b e, λ h. lt-ltb a b h)

not_above : (a b : ℕ) → Iff (ltb a b ≡ false) (b ≤ a)
not_above a b = (λ e. ltb-false a b e, λ h. le-ltb a b h)

fewer : (more x : ℕ) → Iff (ltb 0 more && ltb x (2 ^ (8 * more)) ≡ true) (FitsFewer more x)
fewer more x = (λ e. parts (ltb 0 more) (ltb x (2 ^ (8 * more))) (ltb-true 0 more) (ltb-true x (2 ^ (8 * more))) e, λ h. joined (ltb 0 more) (ltb x (2 ^ (8 * more))) (lt-ltb 0 more h.0) (lt-ltb x (2 ^ (8 * more)) h.1))
  where
    parts : (a b : Bool) {P Q : Type 0} → (a ≡ true → P) → (b ≡ true → Q) → (a && b) ≡ true → P × Q
    parts true true p q e = (p refl, q refl)
    parts true false p q e = absurd cc
    parts false b p q e = absurd cc

    joined : (a b : Bool) → a ≡ true → b ≡ true → (a && b) ≡ true
    joined a b e f = rw (e, f) refl

module _ (X : List Bool) where
  -- bits with a test behind them
  bits_tested : {B : Type 0} (n : ℕ) (Fault : ℕ → Why → Type 0) (s : Spot) (check : ℕ × Spot → Result B Stop) (stop : Stop) → Inside X s → Finds Fault s.at check
      → Iff ((bits_at s.at n X s >>= check) ≡ Err stop) (BitsStop X n Fault s stop)
  bits_tested n Fault s check stop inside finds = (λ e. forth (told.0 e), λ h. told.1 (back h))
    where
      told : Iff ((bits_at s.at n X s >>= check) ≡ Err stop) (EndsWithin X n s s.at stop ⊎ ((x : ℕ) × (r : Spot) × AreBits X n s x r × ((why : Why) × Fault x why × (stop ≡ stop_at s.at why r.at))))
      told = bits_then X s.at n check (λ x r. (why : Why) × Fault x why × (stop ≡ stop_at s.at why r.at)) s stop inside (λ x r in_. finds x r stop)

      forth : EndsWithin X n s s.at stop ⊎ ((x : ℕ) × (r : Spot) × AreBits X n s x r × ((why : Why) × Fault x why × (stop ≡ stop_at s.at why r.at))) → BitsStop X n Fault s stop
      forth (inl h) = inl h
      forth (inr k) = inr (k.0, k.3.0, k.1, k.2, k.3.1, k.3.2)

      back : BitsStop X n Fault s stop → EndsWithin X n s s.at stop ⊎ ((x : ℕ) × (r : Spot) × AreBits X n s x r × ((why : Why) × Fault x why × (stop ≡ stop_at s.at why r.at)))
      back (inl h) = inl h
      back (inr k) = inr (k.0, k.2, k.3, (k.1, k.4, k.5))

  -- PADDING
  pub padding_told : (s : Spot) (stop : Stop) → Inside X s → Iff (align_at X s ≡ Err stop) (PaddingStops X s stop)
  unfolding align_at
  padding_told s stop inside = bits_tested (gap s.at) IsOne s (λ n. cond (eqb n.0 0) (Ok n) (Err (stop_at s.at Padding n.1.at))) stop inside (λ x r stop. finds (eqb x 0) x r stop (λ e. eqb-true x 0 e) (λ e. eqb-false x 0 e))
    where
      finds : (b : Bool) (x : ℕ) (r : Spot) (stop : Stop) → (b ≡ true → x ≡ 0) → (b ≡ false → x ≡ 0 → ⊥)
          → Iff (cond b (with_spot x r) (Err (stop_at s.at Padding r.at)) ≡ Err stop) ((why : Why) × ((0 < x) × (why ≡ Padding)) × (stop ≡ stop_at s.at why r.at))
      finds true x r stop nought some = (λ e. none_stops x r stop e, λ k. absurd (omega (arith, nought refl, k.1.0)))
      finds false x r stop nought some =
          (λ e. (Padding, (omega (arith, some refl), refl), cc), λ k. ap (λ w. Err (stop_at s.at w r.at)) (sym k.1.1) ∙ ap Err (sym k.2))

  aligned_told : {B : Type 0} (f : Spot → Result B Stop) (Field : Spot → Stop → Type 0) (s : Spot) (stop : Stop) → Inside X s → ((r : Spot) → Inside X r → Iff (f r ≡ Err stop) (Field r stop))
      → Iff ((align_at X s >>= λ a. f a.1) ≡ Err stop) (AlignedStops X Field s stop)
  aligned_told f Field s stop inside field = (λ e. forth (told.0 e), λ h. told.1 (back h))
    where
      told : Iff ((align_at X s >>= λ a. f a.1) ≡ Err stop) (PaddingStops X s stop ⊎ ((x : ℕ) × (r : Spot) × (x ≡ 0) × Came X s r (padding s.at) 0 × Field r stop))
      told = then_told X (λ x. x ≡ 0) (λ x. 0) (λ x p. padding p) align_at align_field (λ a. f a.1) (PaddingStops X s stop) (λ x r. Field r stop) s stop inside (padding_told s stop inside) (λ x r e in_. field r in_)

      forth : PaddingStops X s stop ⊎ ((x : ℕ) × (r : Spot) × (x ≡ 0) × Came X s r (padding s.at) 0 × Field r stop) → AlignedStops X Field s stop
      forth (inl h) = inl h
      forth (inr k) = inr (k.1, k.3, k.4)

      back : AlignedStops X Field s stop → PaddingStops X s stop ⊎ ((x : ℕ) × (r : Spot) × (x ≡ 0) × Came X s r (padding s.at) 0 × Field r stop)
      back (inl h) = inl h
      back (inr k) = inr (0, k.0, refl, k.1, k.2)

  -- a field that begins at an octet, or right here
  gap_told : {B : Type 0} (aligned : Bool) (f : Spot → Result B Stop) (Field : Spot → Stop → Type 0) (s : Spot) (stop : Stop) → Inside X s → ((r : Spot) → Inside X r → Iff (f r ≡ Err stop) (Field r stop))
      → Iff ((skip_at aligned X s >>= λ a. f a.1) ≡ Err stop) (GapStops X aligned Field s stop)
  gap_told true f Field s stop inside field = aligned_told f Field s stop inside field
  gap_told false f Field s stop inside field = field s inside

  -- NUMBERS
  within_told : (top n : ℕ) (s : Spot) (stop : Stop) → Inside X s → Iff (within_at top n X s ≡ Err stop) (BitsStop X n (IsAbove top) s stop)
  unfolding within_at
  within_told top n s stop inside =
      bits_tested n (IsAbove top) s (λ x. stop_if (ltb top x.0) (stop_at s.at Range x.1.at) (Ok x)) stop inside (λ x r stop. one_test (ltb top x) (top < x) Range s.at x r stop (above top x))

  aligned_number_told : (top n : ℕ) (s : Spot) (stop : Stop) → Inside X s → Iff (aligned_at top n X s ≡ Err stop) (AlignedStops X (λ r stop. BitsStop X n (IsAbove top) r stop) s stop)
  unfolding aligned_at
  aligned_number_told top n s stop inside = aligned_told (λ r. within_at top n X r) (λ r stop. BitsStop X n (IsAbove top) r stop) s stop inside (λ r in_. within_told top n r stop in_)

  large_octets_told : (top more : ℕ) (s : Spot) (stop : Stop) → Inside X s → Iff (large_octets_at top more X s ≡ Err stop) (BitsStop X (8 * (more + 1)) (LargeFault top more) s stop)
  unfolding large_octets_at
  large_octets_told top more s stop inside =
      bits_tested (8 * (more + 1)) (LargeFault top more) s
      (λ x. stop_if (ltb 0 more && ltb x.0 (2 ^ (8 * more))) (stop_at s.at NotShortest x.1.at) (stop_if (ltb top x.0) (stop_at s.at Range x.1.at) (Ok x))) stop inside
      (λ x r stop. two_tests (ltb 0 more && ltb x (2 ^ (8 * more))) (ltb top x) (FitsFewer more x) (FitsFewer more x → ⊥) (top < x) NotShortest Range s.at x r stop (fewer more x)
      (lacking (ltb 0 more && ltb x (2 ^ (8 * more))) (FitsFewer more x) (fewer more x)) (above top x))

  large_told : (top : ℕ) (s : Spot) (stop : Stop) → Inside X s → Iff (large_at top X s ≡ Err stop) (LargeStops X top s stop)
  unfolding large_at
  large_told top s stop inside =
      then_told X (λ m. m ≤ more_of top) (λ m. 0) (λ m p. bits (width_of (more_of top)) m) (within_at (more_of top) (width_of (more_of top))) (within_field (more_of top) (width_of (more_of top)) (width_fits (more_of top)))
      (λ more. align_at X more.1 >>= λ a. large_octets_at top more.0 X a.1) (BitsStop X (width_of (more_of top)) (IsAbove (more_of top)) s stop)
      (λ more r. AlignedStops X (λ q stop. BitsStop X (8 * (more + 1)) (LargeFault top more) q stop) r stop) s stop inside (within_told (more_of top) (width_of (more_of top)) s stop inside)
      (λ more r le in_. aligned_told (λ q. large_octets_at top more X q) (λ q stop. BitsStop X (8 * (more + 1)) (LargeFault top more) q stop) r stop in_ (λ q in_q. large_octets_told top more q stop in_q))

  pub number_told : (aligned : Bool) (top : ℕ) (s : Spot) (stop : Stop) → Inside X s → Iff (number_at aligned top X s ≡ Err stop) (NumberStops X aligned top s stop)
  unfolding number_at
  number_told false top s stop inside = by (eqb top 0) (λ e. eqb-true top 0 e) (λ e. eqb-false top 0 e)
    where
      told : Iff (within_at top (width_of top) X s ≡ Err stop) (BitsStop X (width_of top) (IsAbove top) s stop)
      told = within_told top (width_of top) s stop inside

      by : (none : Bool) → (none ≡ true → top ≡ 0) → (none ≡ false → top ≡ 0 → ⊥) → Iff (cond none (with_spot {A = ℕ} 0 s) (within_at top (width_of top) X s) ≡ Err stop) (NumberStops X false top s stop)
      by true is_none some = (λ e. none_stops 0 s stop e, λ k. absurd (omega (arith, is_none refl, k.0)))
      by false is_none some = (λ e. (omega (arith, some refl), told.0 e), λ k. told.1 k.1)
  number_told true top s stop inside =
      by (eqb top 0) (ltb top 255) (ltb top 256) (ltb top 65536) (λ e. eqb-true top 0 e) (λ e. eqb-false top 0 e) (λ e. ltb-true top 255 e) (λ e. ltb-false top 255 e) (λ e. ltb-true top 256 e) (λ e. ltb-false top 256 e)
      (λ e. ltb-true top 65536 e) (λ e. ltb-false top 65536 e)
    where
      read_by : Bool → Bool → Bool → Bool → Result (ℕ × Spot) Stop
      read_by none few octet two = cond none (with_spot {A = ℕ} 0 s) (cond few (within_at top (width_of top) X s) (cond octet (aligned_at top 8 X s) (cond two (aligned_at top 16 X s) (large_at top X s))))

      by : (none few octet two : Bool) → (none ≡ true → top ≡ 0) → (none ≡ false → top ≡ 0 → ⊥) → (few ≡ true → top < 255) → (few ≡ false → 255 ≤ top) → (octet ≡ true → top < 256) → (octet ≡ false → 256 ≤ top)
          → (two ≡ true → top < 65536) → (two ≡ false → 65536 ≤ top) → Iff (read_by none few octet two ≡ Err stop) (NumberStops X true top s stop)
      by true few octet two is_none some f f' o o' t t' = (λ e. none_stops 0 s stop e, back)
        where
          back : NumberStops X true top s stop → with_spot {A = ℕ} 0 s ≡ Err stop
          back (inl k) = absurd (omega (arith, is_none refl, k.0))
          back (inr (inl k)) = absurd (omega (arith, is_none refl, k.0))
          back (inr (inr (inl k))) = absurd (omega (arith, is_none refl, k.0))
          back (inr (inr (inr k))) = absurd (omega (arith, is_none refl, k.0))
      by false true octet two n some f f' o o' t t' = (λ e. inl (omega (arith, some refl), f refl, told.0 e), back)
        where
          told : Iff (within_at top (width_of top) X s ≡ Err stop) (BitsStop X (width_of top) (IsAbove top) s stop)
          told = within_told top (width_of top) s stop inside

          back : NumberStops X true top s stop → within_at top (width_of top) X s ≡ Err stop
          back (inl k) = told.1 k.2
          back (inr (inl k)) = absurd (omega (arith, f refl, k.0))
          back (inr (inr (inl k))) = absurd (omega (arith, f refl, k.0))
          back (inr (inr (inr k))) = absurd (omega (arith, f refl, k.0))
      by false false true two n some f f' o o' t t' = (λ e. inr (inl (omega (arith, f' refl, o refl), told.0 e)), back)
        where
          told : Iff (aligned_at top 8 X s ≡ Err stop) (AlignedStops X (λ r stop. BitsStop X 8 (IsAbove top) r stop) s stop)
          told = aligned_number_told top 8 s stop inside

          back : NumberStops X true top s stop → aligned_at top 8 X s ≡ Err stop
          back (inl k) = absurd (omega (arith, f' refl, k.1))
          back (inr (inl k)) = told.1 k.1
          back (inr (inr (inl k))) = absurd (omega (arith, o refl, k.0))
          back (inr (inr (inr k))) = absurd (omega (arith, o refl, k.0))
      by false false false true n some f f' o o' t t' = (λ e. inr (inr (inl (omega (arith, o' refl), t refl, told.0 e))), back)
        where
          told : Iff (aligned_at top 16 X s ≡ Err stop) (AlignedStops X (λ r stop. BitsStop X 16 (IsAbove top) r stop) s stop)
          told = aligned_number_told top 16 s stop inside

          back : NumberStops X true top s stop → aligned_at top 16 X s ≡ Err stop
          back (inl k) = absurd (omega (arith, f' refl, k.1))
          back (inr (inl k)) = absurd (omega (arith, o' refl, k.0))
          back (inr (inr (inl k))) = told.1 k.2
          back (inr (inr (inr k))) = absurd (omega (arith, t refl, k.0))
      by false false false false n some f f' o o' t t' = (λ e. inr (inr (inr (t' refl, told.0 e))), back)
        where
          told : Iff (large_at top X s ≡ Err stop) (LargeStops X top s stop)
          told = large_told top s stop inside

          back : NumberStops X true top s stop → large_at top X s ≡ Err stop
          back (inl k) = absurd (omega (arith, f' refl, k.1))
          back (inr (inl k)) = absurd (omega (arith, o' refl, k.0))
          back (inr (inr (inl k))) = absurd (omega (arith, t' refl, k.1))
          back (inr (inr (inr k))) = told.1 k.1

  -- LENGTHS
  or_is : (a b : Bool) {P Q : Type 0} → Iff (a ≡ true) P → Iff (b ≡ true) Q → Iff (a || b ≡ true) (P ⊎ Q)
  or_is true b p q = (λ e. inl (p.0 refl), λ h. refl)
  or_is false true p q = (λ e. inr (q.0 refl), λ h. refl)
  or_is false false {P = P} {Q = Q} p q = (λ e. absurd cc, λ h. by h)
    where
      by : P ⊎ Q → false ≡ true
      by (inl h) = p.1 h
      by (inr h) = q.1 h

  -- behind the first octet of a length
  abbrev Behind : ℕ → Spot → Stop → ℕ → Spot → Type 0
  Behind before s stop x r =
      ((why : Why) × UnitsFault before x why × (stop ≡ stop_at s.at why r.at))
      ⊎ ((128 ≤ x) × (x < 192) × (EndsWithin X 8 r s.at stop ⊎ ((y : ℕ) × (q : Spot) × AreBits X 8 r y q × ((x - 128) * 256 + y < 128) × (stop ≡ stop_at s.at NotShortest q.at))))

  from_told : (before : ℕ) (s : Spot) (stop : Stop) (x : ℕ) (r : Spot) → Inside X r → Iff (length_from before s.at x X r ≡ Err stop) (Behind before s stop x r)
  unfolding length_from
  from_told before s stop x r inside = by (ltb x 128) (ltb x 192) (above x 128) (not_above x 128) (above x 192) (not_above x 192)
    where
      second : Result (Piece × Spot) Stop
      second = bits_at s.at 8 X r >>= λ y. stop_if (ltb ((x - 128) * 256 + y.0) 128) (stop_at s.at NotShortest y.1.at) (Ok (Last ((x - 128) * 256 + y.0), y.1))

      units : Result (Piece × Spot) Stop
      units = stop_if (ltb before 4) (stop_at s.at NotShortest r.at) (stop_if (ltb (x - 192) 1 || ltb 4 (x - 192)) (stop_at s.at Range r.at) (Ok (Units (x - 192), r)))

      second_told : Iff (second ≡ Err stop) (EndsWithin X 8 r s.at stop ⊎ ((y : ℕ) × (q : Spot) × AreBits X 8 r y q × (((x - 128) * 256 + y < 128) × (stop ≡ stop_at s.at NotShortest q.at))))
      second_told =
          bits_then X s.at 8 (λ y. stop_if (ltb ((x - 128) * 256 + y.0) 128) (stop_at s.at NotShortest y.1.at) (Ok (Last ((x - 128) * 256 + y.0), y.1)))
          (λ y q. ((x - 128) * 256 + y < 128) × (stop ≡ stop_at s.at NotShortest q.at)) r stop inside (λ y q in_. short y q)
        where
          short : (y : ℕ) (q : Spot) → Iff (stop_if (ltb ((x - 128) * 256 + y) 128) (stop_at s.at NotShortest q.at) (with_spot (Last ((x - 128) * 256 + y)) q) ≡ Err stop) (((x - 128) * 256 + y < 128) × (stop ≡ stop_at s.at NotShortest q.at))
          short y q =
              let t = one_test (ltb ((x - 128) * 256 + y) 128) ((x - 128) * 256 + y < 128) NotShortest s.at (Last ((x - 128) * 256 + y)) q stop (above ((x - 128) * 256 + y) 128) in
              (λ e. let k = t.0 e in (k.1.0, k.2 ∙ ap (λ w. stop_at s.at w q.at) k.1.1), λ k. t.1 (NotShortest, (k.0, refl), k.1))

      -- a fragment of none or over 4
      many : 192 ≤ x → Iff (ltb (x - 192) 1 || ltb 4 (x - 192) ≡ true) ((x ≡ 192) ⊎ (196 < x))
      many le = or_is (ltb (x - 192) 1) (ltb 4 (x - 192)) (λ e. omega (arith, le, ltb-true (x - 192) 1 e), λ h. lt-ltb (x - 192) 1 (omega (arith, h))) (λ e. omega (arith, le, ltb-true 4 (x - 192) e), λ h. lt-ltb 4 (x - 192) (omega (arith, h)))

      units_told : 192 ≤ x → Iff (units ≡ Err stop) ((w : Why) × (((before < 4) × (w ≡ NotShortest)) ⊎ ((4 ≤ before) × ((x ≡ 192) ⊎ (196 < x)) × (w ≡ Range))) × (stop ≡ stop_at s.at w r.at))
      units_told le =
          two_tests (ltb before 4) (ltb (x - 192) 1 || ltb 4 (x - 192)) (before < 4) (4 ≤ before) ((x ≡ 192) ⊎ (196 < x)) NotShortest Range s.at (Units (x - 192)) r stop (above before 4) (not_above before 4) (many le)

      by : (small two : Bool) → Iff (small ≡ true) (x < 128) → Iff (small ≡ false) (128 ≤ x) → Iff (two ≡ true) (x < 192) → Iff (two ≡ false) (192 ≤ x)
          → Iff (cond small (with_spot (Last x) r) (cond two second units) ≡ Err stop) (Behind before s stop x r)
      by true two a b c d = (λ e. none_stops (Last x) r stop e, back)
        where
          back : Behind before s stop x r → with_spot (Last x) r ≡ Err stop
          back (inl k) = absurd (omega (arith, a.0 refl, k.1.0))
          back (inr k) = absurd (omega (arith, a.0 refl, k.0))
      by false true a b c d = (λ e. inr (b.0 refl, c.0 refl, repack (second_told.0 e)), back)
        where
          repack : EndsWithin X 8 r s.at stop ⊎ ((y : ℕ) × (q : Spot) × AreBits X 8 r y q × (((x - 128) * 256 + y < 128) × (stop ≡ stop_at s.at NotShortest q.at)))
              → EndsWithin X 8 r s.at stop ⊎ ((y : ℕ) × (q : Spot) × AreBits X 8 r y q × ((x - 128) * 256 + y < 128) × (stop ≡ stop_at s.at NotShortest q.at))
          repack (inl h) = inl h
          repack (inr k) = inr (k.0, k.1, k.2, k.3.0, k.3.1)

          unpack : EndsWithin X 8 r s.at stop ⊎ ((y : ℕ) × (q : Spot) × AreBits X 8 r y q × ((x - 128) * 256 + y < 128) × (stop ≡ stop_at s.at NotShortest q.at))
              → EndsWithin X 8 r s.at stop ⊎ ((y : ℕ) × (q : Spot) × AreBits X 8 r y q × (((x - 128) * 256 + y < 128) × (stop ≡ stop_at s.at NotShortest q.at)))
          unpack (inl h) = inl h
          unpack (inr k) = inr (k.0, k.1, k.2, (k.3, k.4))

          back : Behind before s stop x r → second ≡ Err stop
          back (inl k) = absurd (omega (arith, c.0 refl, k.1.0))
          back (inr k) = second_told.1 (unpack k.2)
      by false false a b c d = (λ e. let k = (units_told (d.0 refl)).0 e in inl (k.0, (d.0 refl, k.1), k.2), back)
        where
          back : Behind before s stop x r → units ≡ Err stop
          back (inl k) = (units_told (d.0 refl)).1 (k.0, k.1.1, k.2)
          back (inr k) = absurd (omega (arith, d.0 refl, k.1))

  length_told : (before : ℕ) (s : Spot) (stop : Stop) → Inside X s → Iff (length_here before X s ≡ Err stop) (LengthStops X before s stop)
  unfolding length_here
  length_told before s stop inside = (λ e. forth (told.0 e), λ h. told.1 (back h))
    where
      told : Iff ((bits_at s.at 8 X s >>= λ x. length_from before s.at x.0 X x.1) ≡ Err stop) (EndsWithin X 8 s s.at stop ⊎ ((x : ℕ) × (r : Spot) × AreBits X 8 s x r × Behind before s stop x r))
      told = bits_then X s.at 8 (λ x. length_from before s.at x.0 X x.1) (Behind before s stop) s stop inside (λ x r in_. from_told before s stop x r in_)

      forth : EndsWithin X 8 s s.at stop ⊎ ((x : ℕ) × (r : Spot) × AreBits X 8 s x r × Behind before s stop x r) → LengthStops X before s stop
      forth (inl h) = inl (inl h)
      forth (inr k) = elim (k.3) [ inl f ↦ inl (inr (k.0, f.0, k.1, k.2, f.1, f.2)) | inr g ↦ inr (k.0, k.1, k.2, g.0, g.1, g.2) ]

      back : LengthStops X before s stop → EndsWithin X 8 s s.at stop ⊎ ((x : ℕ) × (r : Spot) × AreBits X 8 s x r × Behind before s stop x r)
      back (inl (inl h)) = inl h
      back (inl (inr k)) = inr (k.0, k.2, k.3, inl (k.1, k.4, k.5))
      back (inr k) = inr (k.0, k.1, k.2, inr (k.3, k.4, k.5))

  module _ (before : ℕ) (aligned : Bool) (least : ℕ) (most : Option ℕ) (total : ℕ) where
    -- the length is read, but the count is outside
    abbrev CountOut : Spot → Stop → Type 0
    CountOut r stop = (n : Piece) × (q : Spot) × IsPiece before n × Came X r q (piece_bits n) 0 × (is_out least most total n ≡ true) × (stop ≡ stop_at r.at Range q.at)

    count_here_told : (s : Spot) (stop : Stop) → Inside X s → Iff (count_here least most before total X s ≡ Err stop) (LengthStops X before s stop ⊎ CountOut s stop)
    unfolding count_here
    count_here_told s stop inside = (λ e. forth (told.0 e), λ h. told.1 (back h))
      where
        Rest : Piece → Spot → Type 0
        Rest n q = (is_out least most total n ≡ true) × (stop ≡ stop_at s.at Range q.at)

        check : Piece × Spot → Result (Piece × Spot) Stop
        check n = stop_if (is_out least most total n.0) (stop_at s.at Range n.1.at) (Ok n)

        tested : (n : Piece) (q : Spot) → Iff (stop_if (is_out least most total n) (stop_at s.at Range q.at) (with_spot n q) ≡ Err stop) (Rest n q)
        tested n q = (
          λ e. elim (stop_err (is_out least most total n) (stop_at s.at Range q.at) (with_spot n q) stop e) [ inl h ↦ h | inr h ↦ none_stops n q stop h.1 ],
          λ h. err_stop (is_out least most total n) (stop_at s.at Range q.at) stop (with_spot n q) h.0 h.1,
        )

        told : Iff ((length_here before X s >>= check) ≡ Err stop) (LengthStops X before s stop ⊎ ((n : Piece) × (q : Spot) × IsPiece before n × Came X s q (piece_bits n) 0 × Rest n q))
        told = then_told X (IsPiece before) (λ n. 0) (λ n p. piece_bits n) (length_here before) (length_field before) check (LengthStops X before s stop) Rest s stop inside (length_told before s stop inside) (λ n q v in_. tested n q)

        forth : LengthStops X before s stop ⊎ ((n : Piece) × (q : Spot) × IsPiece before n × Came X s q (piece_bits n) 0 × Rest n q) → LengthStops X before s stop ⊎ CountOut s stop
        forth (inl h) = inl h
        forth (inr k) = inr (k.0, k.1, k.2, k.3, k.4.0, k.4.1)

        back : LengthStops X before s stop ⊎ CountOut s stop → LengthStops X before s stop ⊎ ((n : Piece) × (q : Spot) × IsPiece before n × Came X s q (piece_bits n) 0 × Rest n q)
        back (inl h) = inl h
        back (inr k) = inr (k.0, k.1, k.2, k.3, (k.4, k.5))

    pub count_told : (s : Spot) (stop : Stop) → Inside X s → Iff (count_at aligned least most before total X s ≡ Err stop) (CountStops X aligned least most before total s stop)
    unfolding count_at
    count_told s stop inside =
        gap_told aligned (λ r. count_here least most before total X r) (λ r stop. LengthStops X before r stop ⊎ CountOut r stop) s stop inside (λ r in_. count_here_told r stop in_)

  -- WHOLE NUMBERS
  abbrev CountBad : Spot → Stop → Type 0
  CountBad r stop = (n : Piece) × (why : Why) × (q : Spot) × IsPiece 4 n × Came X r q (piece_bits n) 0 × CountFault n why × (stop ≡ stop_at r.at why q.at)

  octet_count_here_told : (s : Spot) (stop : Stop) → Inside X s → Iff (octet_count_here X s ≡ Err stop) (LengthStops X 4 s stop ⊎ CountBad s stop)
  unfolding octet_count_here
  octet_count_here_told s stop inside = (λ e. forth (told.0 e), λ h. told.1 (back h))
    where
      Rest : Piece → Spot → Type 0
      Rest n q = (why : Why) × CountFault n why × (stop ≡ stop_at s.at why q.at)

      tested : (n : Piece) (q : Spot) → Iff (check_count s (n, q) ≡ Err stop) (Rest n q)
      tested (Units k) q = (λ e. (TooWide, refl, cc), λ h. ap (λ w. Err (stop_at s.at w q.at)) (sym h.1) ∙ ap Err (sym h.2))
      tested (Last k) q =
          let t = two_tests (eqb k 0) (ltb 16 k) (k ≡ 0) (k ≡ 0 → ⊥) (16 < k) Range TooWide s.at (k - 1) q stop (λ e. eqb-true k 0 e, λ e. eq-eqb k 0 e) (λ e. eqb-false k 0 e, λ h. ne_eqb k 0 h) (above 16 k) in
          (λ e. let h = t.0 e in (h.0, fault h.0 h.1, h.2), λ h. t.1 (h.0, again h.0 h.1, h.2))
        where
          fault : (w : Why) → ((k ≡ 0) × (w ≡ Range)) ⊎ ((k ≡ 0 → ⊥) × (16 < k) × (w ≡ TooWide)) → CountFault (Last k) w
          fault w (inl h) = inl h
          fault w (inr h) = inr (h.1, h.2)

          again : (w : Why) → CountFault (Last k) w → ((k ≡ 0) × (w ≡ Range)) ⊎ ((k ≡ 0 → ⊥) × (16 < k) × (w ≡ TooWide))
          again w (inl h) = inl h
          again w (inr h) = inr (λ e. omega (arith, e, h.0), h.0, h.1)

      told : Iff ((length_here 4 X s >>= check_count s) ≡ Err stop) (LengthStops X 4 s stop ⊎ ((n : Piece) × (q : Spot) × IsPiece 4 n × Came X s q (piece_bits n) 0 × Rest n q))
      told = then_told X (IsPiece 4) (λ n. 0) (λ n p. piece_bits n) (length_here 4) (length_field 4) (check_count s) (LengthStops X 4 s stop) Rest s stop inside (length_told 4 s stop inside) (λ n q v in_. tested n q)

      forth : LengthStops X 4 s stop ⊎ ((n : Piece) × (q : Spot) × IsPiece 4 n × Came X s q (piece_bits n) 0 × Rest n q) → LengthStops X 4 s stop ⊎ CountBad s stop
      forth (inl h) = inl h
      forth (inr k) = inr (k.0, k.4.0, k.1, k.2, k.3, k.4.1, k.4.2)

      back : LengthStops X 4 s stop ⊎ CountBad s stop → LengthStops X 4 s stop ⊎ ((n : Piece) × (q : Spot) × IsPiece 4 n × Came X s q (piece_bits n) 0 × Rest n q)
      back (inl h) = inl h
      back (inr k) = inr (k.0, k.2, k.3, k.4, (k.1, k.5, k.6))

  octet_count_told : (aligned : Bool) (s : Spot) (stop : Stop) → Inside X s → Iff (octet_count_at aligned X s ≡ Err stop) (OctetCountStops X aligned s stop)
  unfolding octet_count_at
  octet_count_told aligned s stop inside = gap_told aligned (λ r. octet_count_here X r) (λ r stop. LengthStops X 4 r stop ⊎ CountBad r stop) s stop inside (λ r in_. octet_count_here_told r stop in_)

  -- the length of a number, and its octets
  counted_told : (aligned : Bool) (Fault : ℕ → ℕ → Why → Type 0) (read : ℕ → Reader ℤ) (s : Spot) (stop : Stop) → Inside X s
      → ((more : ℕ) (r : Spot) → Inside X r → Iff (read more X r ≡ Err stop) (BitsStop X (8 * (more + 1)) (Fault more) r stop))
      → Iff ((octet_count_at aligned X s >>= λ more. read more.0 X more.1) ≡ Err stop) (OctetsStop X aligned Fault s stop)
  counted_told aligned Fault read s stop inside octets =
      then_told X (λ more. more < 16) (λ more. 0) (λ more p. then_bits (gap_bits aligned p) (λ q. length_bits (more + 1)) p) (octet_count_at aligned) (octet_count_field aligned) (λ more. read more.0 X more.1) (OctetCountStops X aligned s stop)
      (λ more r. BitsStop X (8 * (more + 1)) (Fault more) r stop) s stop inside (octet_count_told aligned s stop inside) (λ more r lt in_. octets more r in_)

  from_octets_told : (least : ℤ) (more : ℕ) (s : Spot) (stop : Stop) → Inside X s → Iff (from_octets_at least more X s ≡ Err stop) (BitsStop X (8 * (more + 1)) (AboveFault least more) s stop)
  unfolding from_octets_at
  from_octets_told least more s stop inside =
      bits_tested (8 * (more + 1)) (AboveFault least more) s
      (λ x. stop_if (ltb 0 more && ltb x.0 (2 ^ (8 * more))) (stop_at s.at NotShortest x.1.at) (stop_if (not (is_128_bits (raised least x.0))) (stop_at s.at TooWide x.1.at) (with_spot (raised least x.0) x.1))) stop inside
      (λ x r stop. two_tests (ltb 0 more && ltb x (2 ^ (8 * more))) (not (is_128_bits (raised least x))) (FitsFewer more x) (FitsFewer more x → ⊥) (is_128_bits (raised least x) ≡ false) NotShortest TooWide s.at (raised least x) r stop (fewer more x)
      (lacking (ltb 0 more && ltb x (2 ^ (8 * more))) (FitsFewer more x) (fewer more x)) (no_fact (is_128_bits (raised least x))))

  signed_octets_told : (greatest : Option ℤ) (more : ℕ) (s : Spot) (stop : Stop) → Inside X s → Iff (signed_octets_at greatest more X s ≡ Err stop) (BitsStop X (8 * (more + 1)) (SignedFault greatest more) s stop)
  unfolding signed_octets_at
  signed_octets_told greatest more s stop inside =
      bits_tested (8 * (more + 1)) (SignedFault greatest more) s
      (λ x. let z = signed_of (8 * (more + 1)) x.0 in stop_if (ltb (more_signed z) more) (stop_at s.at NotShortest x.1.at) (stop_if (not (is_to greatest z)) (stop_at s.at Range x.1.at) (with_spot z x.1))) stop inside
      (λ x r stop. let z = signed_of (8 * (more + 1)) x in
      two_tests (ltb (more_signed z) more) (not (is_to greatest z)) (more_signed z < more) (more ≤ more_signed z) (is_to greatest z ≡ false) NotShortest Range s.at z r stop (above (more_signed z) more) (not_above (more_signed z) more) (no_fact (is_to greatest z)))

  pub whole_told : (aligned : Bool) (least greatest : Option ℤ) (s : Spot) (stop : Stop) → Inside X s → Iff (whole_at aligned least greatest X s ≡ Err stop) (WholeStops X aligned least greatest s stop)
  unfolding whole_at ranged_at from_at signed_at
  whole_told aligned (Some least) (Some greatest) s stop inside =
      let n = number_told aligned (distance least greatest) s stop inside in
      let m = map_told (number_at aligned (distance least greatest) X s) (raised least) stop in
      (λ e. n.0 (m.0 e), λ h. m.1 (n.1 h))
  whole_told aligned (Some least) None s stop inside = counted_told aligned (AboveFault least) (from_octets_at least) s stop inside (λ more r in_. from_octets_told least more r stop in_)
  whole_told aligned None greatest s stop inside = counted_told aligned (SignedFault greatest) (signed_octets_at greatest) s stop inside (λ more r in_. signed_octets_told greatest more r stop in_)

  -- PRESENCE BITS
  bits_fit : (begin n : ℕ) (s : Spot) → s.at + n ≤ length X → bits_at begin n X s ≡ with_spot (number (take n (drop s.at X))) (moved s n 0)
  unfolding bits_at
  bits_fit begin n s le = ap (λ b. stop_if b (stop_at begin Short (length X)) (with_spot (number (take n (drop s.at X))) (moved s n 0))) (le-ltb (length X) (s.at + n) le)

  at_end : (b n : ℕ) (stop : Stop) → b ≡ n → Iff (stop ≡ stop_at b Short n) (stop ≡ stop_at n Short n)
  at_end b n stop e = (λ h. h ∙ ap (λ m. stop_at m Short n) e, λ h. h ∙ ap (λ m. stop_at m Short n) (sym e))

  pub flags_told : (parts : List Component) (s : Spot) (stop : Stop) → Inside X s → Iff (each_at flag_at parts X s ≡ Err stop) (FlagsStop X parts s stop)
  unfolding each_at flag_at
  flags_told [] s stop inside = (λ e. none_stops [] s stop e, λ h. absurd (omega (arith, h.0, inside.0)))
  flags_told (part ∷ parts) s stop inside = by part.optional (flags_told parts)
    where
      others : Bool × Spot → Result (List Bool × Spot) Stop
      others b = each_at flag_at parts X b.1 >>= λ bs. with_spot (b.0 ∷ bs.0) bs.1

      bit : Result (Bool × Spot) Stop
      bit = bits_at s.at 1 X s >>= λ b. with_spot (eqb b.0 1) b.1

      by : (b : Bool) → ((s : Spot) (stop : Stop) → Inside X s → Iff (each_at flag_at parts X s ≡ Err stop) (FlagsStop X parts s stop))
          → Iff (((elim b as (λ _. Result (Bool × Spot) Stop) [ true ↦ bit | false ↦ with_spot true s ]) >>= others) ≡ Err stop)
          ((length X < s.at + (elim b as (λ _. ℕ) [ true ↦ 1 + optional_count parts | false ↦ optional_count parts ])) × (stop ≡ stop_at (length X) Short (length X)))
      by false further =
          let n = further s stop inside in
          let m = map_told (each_at flag_at parts X s) (λ bs. true ∷ bs) stop in
          (λ e. n.0 (m.0 e), λ h. m.1 (n.1 h))
      by true further = elim (cases_lt (length X) (s.at + 1)) [
        | inl lt ↦ (
            let e : s.at ≡ length X = omega (arith, lt, inside.0) in
            let none : bits_at s.at 1 X s ≡ Err (stop_at s.at Short (length X)) = (bits_end X s.at 1 s (stop_at s.at Short (length X))).1 (lt, refl) in
            let all : (bit >>= others) ≡ Err (stop_at s.at Short (length X)) =
            err_bind bit others (stop_at s.at Short (length X)) (err_bind (bits_at s.at 1 X s) (λ b. with_spot (eqb b.0 1) b.1) (stop_at s.at Short (length X)) none) in
            let k = at_end s.at (length X) stop e in
            (λ f. (omega (arith, lt), k.0 (sym (err_is (bit >>= others) (stop_at s.at Short (length X)) stop all f))), λ h. all ∙ ap Err (sym (k.1 h.1))))
        | inr le ↦ (
            let flag = eqb (number (take 1 (drop s.at X))) 1 in
            let is : bit ≡ with_spot flag (moved s 1 0) = ap (λ r. r >>= λ b. with_spot (eqb b.0 1) b.1) (bits_fit s.at 1 s le) in
            let all : (bit >>= others) ≡ others (flag, moved s 1 0) = ap (λ r. r >>= others) is in
            let n = further (moved s 1 0) stop (omega (arith, le), omega (arith, inside.1)) in
            let m = map_told (each_at flag_at parts X (moved s 1 0)) (λ bs. flag ∷ bs) stop in
            (λ e. let h = n.0 (m.0 (sym all ∙ e)) in (omega (arith, h.0), h.1), λ h. all ∙ m.1 (n.1 (omega (arith, h.0), h.1))))
      ]

  -- THE END
  octet_told : (s : Spot) (stop : Stop) → Inside X s → Iff ((bits_at s.at 8 X s >>= λ z. stop_if (not (eqb z.0 0)) (stop_at s.at Padding z.1.at) (Ok z)) ≡ Err stop) (BitsStop X 8 IsOne s stop)
  octet_told s stop inside =
      bits_tested 8 IsOne s (λ z. stop_if (not (eqb z.0 0)) (stop_at s.at Padding z.1.at) (Ok z)) stop inside
      (λ x r stop. one_test (not (eqb x 0)) (0 < x) Padding s.at x r stop (λ e. omega (arith, eqb-false x 0 (not-true (eqb x 0) e)), λ h. ap not (ne_eqb x 0 (λ e. omega (arith, e, h)))))
    where
      not-true : (b : Bool) → not b ≡ true → b ≡ false
      not-true b e = (no_fact b).0 e

  pub last_told : (s : Spot) (stop : Stop) → Inside X s → Iff (last_at X s ≡ Err stop) (LastStops X s stop)
  unfolding last_at
  last_told s stop inside = elim (cases_lt 0 s.at) [
    | inl some ↦ (
        let is : last_at X s ≡ align_at X s = ap (λ b. last_by b X s) (ne_eqb s.at 0 (omega (arith, some))) in
        let p = padding_told s stop inside in
        (λ e. inr (some, p.0 (sym is ∙ e)), λ h. is ∙ p.1 (padded some h)))
    | inr none ↦ (
        let zero_ : s.at ≡ 0 = omega (arith, none) in
        let is : last_at X s ≡ (bits_at s.at 8 X s >>= λ z. stop_if (not (eqb z.0 0)) (stop_at s.at Padding z.1.at) (Ok z)) =
        ap (λ b. last_by b X s) (eq-eqb s.at 0 zero_) ∙ ap (λ b. bits_at b 8 X s >>= λ z. stop_if (not (eqb z.0 0)) (stop_at b Padding z.1.at) (Ok z)) (sym zero_) in
        let p = octet_told s stop inside in
        (λ e. inl (zero_, p.0 (sym is ∙ e)), λ h. is ∙ p.1 (octet zero_ h)))
  ]
    where
      padded : 0 < s.at → LastStops X s stop → PaddingStops X s stop
      padded some (inl h) = absurd (omega (arith, some, h.0))
      padded some (inr h) = h.1

      octet : s.at ≡ 0 → LastStops X s stop → BitsStop X 8 IsOne s stop
      octet none (inl h) = h.1
      octet none (inr h) = absurd (omega (arith, none, h.0))
