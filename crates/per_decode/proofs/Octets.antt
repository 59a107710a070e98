-- Octets of a source that stands where an octet begins.
use Rattle.std.proofs.Common.{◌≡◌, ℕ, suc, ◌+◌, ◌-◌, ◌*◌, ◌%◌, ◌<◌, ◌≤◌, Bool, List, [], ◌∷◌, ◌++◌, length, get_or, map, refl, sym, ap, ◌∙◌, arith, take, drop, Option, Some, Result, Ok, Err, inl, inr}
use Rattle.std.proofs.lemmas.Bool.{cases_lt, le-ltb, lt-ltb}
use Rattle.std.proofs.lemmas.List.{length-take-le, drop_at, drop-drop}
use Rattle.std.proofs.Math.Seq.{take-add}
use Rattle.std.specs.Prelude.{OnOk, OnErr}
use Rattle.std.specs.Io.KnownBytes.{IsAtEnd}
use Rattle.base_codecs.specs.Bits.{bits, octet_bits}
use Rattle.base_codecs.specs.Cursors.{IsInStep, LosesFirst, ahead}
use Rattle.base_codecs.proofs.BitLemmas.{length-octet_bits, octet_bits-append}
use Rattle.base_codecs.specs.declared.spots.Spot.{Spot}
use Rattle.base_codecs.proofs.Lists.{weighs_nothing}
use Rattle.per_fields.specs.declared.stops.Why.TheVariants.{Short}
use Rattle.per_fields.specs.Codec.{AllOf, Stands}
use Rattle.per_fields.specs.Encoding.{octet_writer}
use Rattle.per_fields.specs.Fields.{in_turn}
use Rattle.per_fields.specs.Reading.{octets_at, stop_at, moved}
use Rattle.per_fields.proofs.Fragments.{octets_codec, run_octets}
use Rattle.per_decode.specs.Private.Standing.{IsAt}
use Rattle.per_decode.specs.Private.Giving.{input, spot, end_of, IsRead}
use Rattle.per_decode.proofs.Standing.{length-input, later, at-end, same_spot}

pub octets-behind : (t limit : ℕ) (whole : List ℕ) → t ≤ limit → t ≤ length whole → drop (8 * t) (input limit whole) ≡ octet_bits (take (limit - t) (drop t whole))
octets-behind t limit whole room inside =
    let e : t + (limit - t) ≡ limit = omega arith in
    let front = take t whole in
    let rest = take (limit - t) (drop t whole) in
    let parts : input limit whole ≡ octet_bits front ++ octet_bits rest = ap (λ n. octet_bits (take n whole)) (sym e) ∙ ap octet_bits (take-add t (limit - t) whole) ∙ octet_bits-append front rest in
    let long : length (octet_bits front) ≡ 8 * t = length-octet_bits front ∙ ap (λ n. 8 * n) (length-take-le t whole inside) in
    ap (drop (8 * t)) parts ∙ drop_at (octet_bits front) (octet_bits rest) (8 * t) long

-- where an octet begins, whatever is held
pub at_octet : (whole : List ℕ) (limit t h : ℕ) (left : Option (List ℕ)) → t ≤ limit → t ≤ length whole → left ≡ Some (drop t whole) → IsAt whole limit (8 * t) t h left
unfolding bits
at_octet whole limit t h left room inside is =
    let z : 8 * t - 8 * t ≡ 0 = omega arith in
    record { inside = inside; rest = is; bits = λ s. rw z (sym (octets-behind t limit whole room inside)) }

all_octets : (xs : List ℕ) → ((k : ℕ) → get_or xs k 0 < 256) → AllOf (λ x. x < 256) xs
all_octets [] h = tt
all_octets (x ∷ xs) h = (h 0, all_octets xs (λ k. h (suc k)))

pub fails_octets : (n taken : ℕ) (X : List Bool) (s : Spot) → 8 * taken ≤ length X → 8 * taken < s.at + 8 * n → (8 * taken ≤ end_of (octets_at n X s) + 7) × (IsRead (octets_at n X s) → 8 * taken < end_of (octets_at n X s))
unfolding octets_at
fails_octets n taken X s h k =
    elim (cases_lt (length X) (s.at + 8 * n)) [
      | inl lt ↦ rw (lt-ltb (length X) (s.at + 8 * n) lt) (omega arith, λ r. absurd r)
      | inr le ↦ rw (le-ltb (length X) (s.at + 8 * n) le) (omega arith, λ r. k)
    ]

reads_short : (n : ℕ) (X : List Bool) (s : Spot) (e : ℕ) → length X ≡ e → e < s.at + 8 * n → octets_at n X s ≡ Err (stop_at s.at Short e)
unfolding octets_at
reads_short n X s e long h = rw long (rw (lt-ltb e (s.at + 8 * n) h) refl)

-- A CALL FOR OCTETS, from a source that stands at any bit
module _ (n p t h l nodes limit : ℕ) (whole : List ℕ) (old : Option (List ℕ)) (same : l ≡ limit) (step : IsInStep p t) (far : p ≤ 8 * t) (within : t ≤ l) (at : IsAt whole limit p t h old) where
  pub across_octets : (xs : List ℕ) (p' t' h' l' : ℕ) → p' ≡ p + 8 * n → length xs ≡ n → ((k : ℕ) → get_or xs k 0 < 256) → nodes ≤ 1048576
      → ((left : List ℕ) → old ≡ Some left → ahead p t h l left ≡ octet_bits xs ++ ahead p' t' h' l' (drop (t' - t) left))
      → octets_at n (input limit whole) (spot p nodes) ≡ Ok (xs, spot p' nodes)
  across_octets xs p' t' h' l' moved count small few came =
      let rest = ahead p' t' h' l' (drop (t' - t) (drop t whole)) in
      let here : drop p (input limit whole) ≡ in_turn (map octet_writer xs) p ++ rest =
      sym (at.bits step) ∙ ap (λ m. ahead p t h m (drop t whole)) (sym same) ∙ came (drop t whole) at.rest ∙ ap (λ bs. bs ++ rest) (sym (run_octets xs p)) in
      let stands : Stands (input limit whole) p (in_turn (map octet_writer xs) p) rest = record { inside = omega (arith, length-input limit whole, at.inside, within, same, far); is = here } in
      let long : length (in_turn (map octet_writer xs) p) ≡ 8 * n = ap length (run_octets xs p) ∙ length-octet_bits xs ∙ ap (λ j. 8 * j) count in
      (octets_codec n).again (input limit whole) rest (spot p nodes) xs tt (count, all_octets xs small) (omega (arith, weighs_nothing xs, few)) stands
      ∙ ap (λ r. Ok (xs, r)) (same_spot _ _ _ _ (omega (arith, long, moved)) (omega (arith, weighs_nothing xs)))

  pub failed_octets : (t' l' : ℕ) (new : Option (List ℕ)) → l' ≡ l → t ≤ t' → t' ≤ l' → LosesFirst old new (t' - t) → t' < t + n
      → (8 * t' ≤ end_of (octets_at n (input limit whole) (spot p nodes)) + 7) × (IsRead (octets_at n (input limit whole) (spot p nodes)) → 8 * t' < end_of (octets_at n (input limit whole) (spot p nodes)))
  failed_octets t' l' new el le room took missing =
      let k = later whole t t' old new le at.inside at.rest took in
      fails_octets n t' (input limit whole) (spot p nodes) (omega (arith, length-input limit whole, k.0, same, el, room)) (omega (arith, missing, step))

  pub short_octets : (t' : ℕ) (new : Option (List ℕ)) → t ≤ t' → LosesFirst old new (t' - t) → t' < t + n → t' < l → IsAtEnd new
      → (octets_at n (input limit whole) (spot p nodes) ≡ Err (stop_at p Short (8 * t'))) × (length whole < limit)
  short_octets t' new le took missing room end =
      let k = later whole t t' old new le at.inside at.rest took in
      let e : length whole ≡ t' = at-end whole t' new k.0 k.1 end in
      (reads_short n (input limit whole) (spot p nodes) (8 * t') (omega (arith, length-input limit whole, e, same, room)) (omega (arith, missing, step)), omega (arith, e, same, room))

  pub long_octets : (t' : ℕ) (new : Option (List ℕ)) → t ≤ t' → LosesFirst old new (t' - t) → t' < t + n → t' ≡ l
      → (octets_at n (input limit whole) (spot p nodes) ≡ Err (stop_at p Short (8 * t'))) × (limit ≤ length whole)
  long_octets t' new le took missing room =
      let k = later whole t t' old new le at.inside at.rest took in
      (reads_short n (input limit whole) (spot p nodes) (8 * t') (omega (arith, length-input limit whole, k.0, same, room)) (omega (arith, missing, step)), omega (arith, k.0, same, room))

  pub at_across : {A E : Type 0} (r : Result A E) (xs : List ℕ) (p' t' h' l' : ℕ) (new : Option (List ℕ)) → l' ≡ l → t ≤ t' → length xs ≡ n → OnOk r ((p' ≡ p + 8 * n) × (t' ≡ t + n)) → OnErr r ((p' ≡ p) × (h' ≡ h))
      → ((left : List ℕ) → old ≡ Some left → OnOk r (ahead p t h l left ≡ octet_bits xs ++ ahead p' t' h' l' (drop (t' - t) left))) → LosesFirst old new (t' - t)
      → IsAt whole limit p' t' h' new
  at_across (Ok x) xs p' t' h' l' new el le count moved stays came took =
      let k = later whole t t' old new le at.inside at.rest took in
      let e : drop (t' - t) (drop t whole) ≡ drop t' whole = drop-drop (t' - t) t whole ∙ ap (λ m. drop m whole) (omega arith) in
      let here : drop p (input limit whole) ≡ octet_bits xs ++ ahead p' t' h' limit (drop t' whole) =
      sym (at.bits step) ∙ ap (λ m. ahead p t h m (drop t whole)) (sym same) ∙ came (drop t whole) at.rest
      ∙ ap (λ m. octet_bits xs ++ ahead p' t' h' m (drop (t' - t) (drop t whole))) (el ∙ same) ∙ ap (λ ys. octet_bits xs ++ ahead p' t' h' limit ys) e in
      let long : length (octet_bits xs) ≡ 8 * n = length-octet_bits xs ∙ ap (λ j. 8 * j) count in
      let behind : ahead p' t' h' limit (drop t' whole) ≡ drop (p + 8 * n) (input limit whole) =
      sym (sym (drop-drop (8 * n) p (input limit whole)) ∙ ap (drop (8 * n)) here ∙ drop_at (octet_bits xs) (ahead p' t' h' limit (drop t' whole)) (8 * n) long) in
      record { inside = k.0; rest = k.1; bits = λ s. behind ∙ ap (λ m. drop m (input limit whole)) (sym moved.0) }
  at_across (Err x) xs p' t' h' l' new el le count moved stays came took =
      let k = later whole t t' old new le at.inside at.rest took in
      record {
        inside = k.0;
        rest = k.1;
        bits = λ s.
            let e : t' ≡ t = omega (arith, stays.0, step, s) in
            rw (stays.0, stays.1, e) (at.bits step);
      }

-- where an octet begins
module _ (n p t h l nodes limit : ℕ) (whole : List ℕ) (old : Option (List ℕ)) (same : l ≡ limit) (step : IsInStep p t) (far : p ≤ 8 * t) (aligned : p % 8 ≡ 0) (within : t ≤ l) (at : IsAt whole limit p t h old) where
  begins : p ≡ 8 * t
  begins = omega (arith, step, far, aligned)

  pub taken_octets : (xs : List ℕ) (p' t' l' : ℕ) (new : Option (List ℕ)) → l' ≡ l → t' ≤ l' → p' ≡ p + 8 * n → t' ≡ t + n → length xs ≡ n → ((k : ℕ) → get_or xs k 0 < 256) → nodes ≤ 1048576
      → ((left : List ℕ) → old ≡ Some left → xs ≡ take n left) → LosesFirst old new (t' - t)
      → octets_at n (input limit whole) (spot p nodes) ≡ Ok (xs, spot p' nodes)
  taken_octets xs p' t' l' new el room moved behind count small few came took =
      let k = later whole t t' old new (omega arith) at.inside at.rest took in
      let D = drop t whole in
      let is : xs ≡ take n D = came D at.rest in
      let m = limit - t - n in
      let e : limit - t ≡ n + m = omega (arith, room, el, same, behind) in
      let parts : octet_bits (take (limit - t) D) ≡ octet_bits xs ++ octet_bits (take m (drop n D)) =
      ap (λ j. octet_bits (take j D)) e ∙ ap octet_bits (take-add n m D) ∙ octet_bits-append (take n D) (take m (drop n D)) ∙ ap (λ ys. octet_bits ys ++ octet_bits (take m (drop n D))) (sym is) in
      let here : drop p (input limit whole) ≡ in_turn (map octet_writer xs) p ++ octet_bits (take m (drop n D)) =
      ap (λ j. drop j (input limit whole)) begins ∙ octets-behind t limit whole (omega (arith, within, same)) at.inside ∙ parts ∙ ap (λ bs. bs ++ octet_bits (take m (drop n D))) (sym (run_octets xs p)) in
      let stands : Stands (input limit whole) p (in_turn (map octet_writer xs) p) (octet_bits (take m (drop n D))) = record { inside = omega (arith, length-input limit whole, at.inside, within, same, begins); is = here } in
      let long : length (in_turn (map octet_writer xs) p) ≡ 8 * n = ap length (run_octets xs p) ∙ length-octet_bits xs ∙ ap (λ j. 8 * j) count in
      (octets_codec n).again (input limit whole) (octet_bits (take m (drop n D))) (spot p nodes) xs tt (count, all_octets xs small) (omega (arith, weighs_nothing xs, few)) stands
      ∙ ap (λ r. Ok (xs, r)) (same_spot _ _ _ _ (omega (arith, long, moved)) (omega (arith, weighs_nothing xs)))

  pub at_behind : {A E : Type 0} (r : Result A E) (p' t' h' l' : ℕ) (new : Option (List ℕ)) → l' ≡ l → t ≤ t' → t' ≤ l' → h' ≡ h → OnOk r ((p' ≡ p + 8 * n) × (t' ≡ t + n)) → OnErr r (p' ≡ p) → LosesFirst old new (t' - t)
      → IsAt whole limit p' t' h' new
  at_behind (Ok x) p' t' h' l' new el le room eh moved stays took =
      let k = later whole t t' old new le at.inside at.rest took in
      let e : p' ≡ 8 * t' = omega (arith, moved.0, moved.1, begins) in
      rw e (at_octet whole limit t' h' new (omega (arith, room, el, same)) k.0 k.1)
  at_behind (Err x) p' t' h' l' new el le room eh moved stays took =
      let k = later whole t t' old new le at.inside at.rest took in
      record {
        inside = k.0;
        rest = k.1;
        bits = λ s.
            let e : t' ≡ t = omega (arith, stays, step, s) in
            rw (stays, eh, e) (at.bits step);
      }
