-- The items of a SEQUENCE OF, as a loop reads them.
use Rattle.std.proofs.Common.{◌≡◌, ℕ, zero, suc, ◌+◌, ◌-◌, ◌<◌, ◌≤◌, Bool, true, false, not, ltb, ◌&&◌, List, [], ◌∷◌, ◌++◌, length, refl, ap, ◌∙◌, arith, Option, Some, None, Result, Ok, Err}
use Rattle.std.proofs.lemmas.Bool.{lt-ltb, le-ltb, lt-leb, le-leb}
use Rattle.std.proofs.lemmas.List.{append-nil}
use Rattle.base_trees.specs.Rose.{Rose, node, roses_of}
use Rattle.simple_types.specs.declared.labels.ValueLabel.{ValueLabel}
use Rattle.simple_types.specs.declared.labels.ValueLabel.TheVariants as value
use Rattle.simple_types.specs.Lexical.{is_at_most}
use Rattle.asn_values.specs.Values.{ComponentPlace}
use Rattle.base_codecs.specs.declared.spots.Spot.{Spot}
use Rattle.base_codecs.specs.Reading.{◌>>=◌, stop_if, with_spot}
use Rattle.base_codecs.specs.Sequences.{at_most_at, items_at}
use Rattle.base_codecs.proofs.Steps.{err_bind}
use Rattle.base_codecs.proofs.Sequences.{cond_true, cond_false}
use Rattle.der_fields.specs.declared.stops.Stop.{Stop}
use Rattle.der_fields.specs.declared.stops.Why.TheVariants.{Range}
use Rattle.der_fields.specs.FieldsReading.{Octets, stop_at}
use Rattle.der_fields.specs.Encoding.{TaggedPlace, tagged_place}
use Rattle.der_fields.specs.Reading.{node_of, is_size, never, sequence_of_at}
use Rattle.der_decode.specs.declared.faults.DerEnd.{DerEnd}
use Rattle.der_decode.specs.declared.faults.DerEnd.TheVariants as fault
use Rattle.der_decode.specs.Private.Showing.{Fails}
use Rattle.der_decode.proofs.Shows.{with_front, regroup}

module _ (read : Octets (Rose ValueLabel)) (X : List ℕ) (front : List (Rose ValueLabel)) (s : Spot) where
  -- so many items were read
  abbrev pub rest_at : ℕ → Result (List (Rose ValueLabel) × Spot) Stop
  rest_at n = at_most_at never (length X - n) read X s

  pub items_end : (n : ℕ) → length X ≤ s.at → with_front front (rest_at n) ≡ Ok (front, s)
  unfolding at_most_at
  items_end n none = by (length X - n)
    where
      e : ltb s.at (length X) ≡ false
      e = le-ltb s.at (length X) none

      by : (m : ℕ) → with_front front (at_most_at never m read X s) ≡ Ok (front, s)
      by zero = ap (λ b. with_front front (stop_if b (never s) (Ok ([], s)))) e ∙ ap (λ vs. Ok (vs, s)) (append-nil front)
      by (suc m) =
          ap (with_front front) (cond_false (ltb s.at (length X)) (read X s >>= λ a. at_most_at never m read X a.1 >>= λ as'. with_spot (a.0 ∷ as'.0) as'.1) (Ok ([], s)) e)
          ∙ ap (λ vs. Ok (vs, s)) (append-nil front)

  module _ (n : ℕ) (few : n < length X) (some : s.at < length X) where
    abbrev next : Result (List (Rose ValueLabel) × Spot) Stop
    next = read X s >>= λ a. at_most_at never (length X - (n + 1)) read X a.1 >>= λ as'. with_spot (a.0 ∷ as'.0) as'.1

    turn : rest_at n ≡ next
    unfolding at_most_at
    turn =
        let e : length X - n ≡ suc (length X - (n + 1)) = omega (arith, few) in
        ap (λ m. at_most_at never m read X s) e ∙ cond_true (ltb s.at (length X)) next (Ok ([], s)) (lt-ltb s.at (length X) some)

    pub items_more : (v : Rose ValueLabel) (r : Spot) → read X s ≡ Ok (v, r) → with_front front (rest_at n) ≡ with_front (front ++ v ∷ []) (at_most_at never (length X - (n + 1)) read X r)
    items_more v r e =
        ap (with_front front) (turn ∙ ap (λ k. k >>= λ a. at_most_at never (length X - (n + 1)) read X a.1 >>= λ as'. with_spot (a.0 ∷ as'.0) as'.1) e)
        ∙ regroup front v (at_most_at never (length X - (n + 1)) read X r)

    pub items_fail : (e : DerEnd) → Fails e (read X s) → Fails e (with_front front (rest_at n))
    items_fail (fault.Stopped stop) h =
        ap (with_front front) (turn ∙ err_bind (read X s) (λ a. at_most_at never (length X - (n + 1)) read X a.1 >>= λ as'. with_spot (a.0 ∷ as'.0) as'.1) stop h)
    items_fail fault.Memory h = tt

-- THEIR COUNT
module _ (kid : TaggedPlace → Octets (Rose ValueLabel)) (begin least : ℕ) (most : Option ℕ) (p : ComponentPlace) (X : List ℕ) (s : Spot) where
  abbrev all_items : Result (List (Rose ValueLabel) × Spot) Stop
  all_items = items_at never (kid (tagged_place None p)) X s

  abbrev counted : List (Rose ValueLabel) × Spot → Result (Rose ValueLabel × Spot) Stop
  counted a = stop_if (not (is_size least most (length a.0))) (stop_at begin Range) (with_spot (node_of value.SequenceOf a.0) a.1)

  list-is : sequence_of_at kid begin least most (Some p) X s ≡ (all_items >>= counted)
  unfolding sequence_of_at
  list-is = refl

  pub list_fails : (e : DerEnd) → Fails e all_items → Fails e (sequence_of_at kid begin least most (Some p) X s)
  list_fails (fault.Stopped stop) h = list-is ∙ err_bind all_items counted stop h
  list_fails fault.Memory h = tt

  module _ (vs : List (Rose ValueLabel)) (r : Spot) (read : all_items ≡ Ok (vs, r)) where
    counted-as : (b : Bool) → is_size least most (length vs) ≡ b → sequence_of_at kid begin least most (Some p) X s ≡ stop_if (not b) (stop_at begin Range) (Ok (node value.SequenceOf (roses_of vs), r))
    counted-as b e = list-is ∙ ap (λ k. k >>= counted) read ∙ ap (λ b. stop_if (not b) (stop_at begin Range) (Ok (node value.SequenceOf (roses_of vs), r))) e

    pub list_few : length vs < least → sequence_of_at kid begin least most (Some p) X s ≡ Err (stop_at begin Range)
    list_few h = counted-as false (ap (λ b. b && is_at_most (length vs) most) (lt-leb least (length vs) h))

    pub list_many : least ≤ length vs → is_at_most (length vs) most ≡ false → sequence_of_at kid begin least most (Some p) X s ≡ Err (stop_at begin Range)
    list_many h k = counted-as false (ap (λ b. b && is_at_most (length vs) most) (le-leb least (length vs) h) ∙ k)

    pub list_reads : least ≤ length vs → is_at_most (length vs) most ≡ true → sequence_of_at kid begin least most (Some p) X s ≡ Ok (node value.SequenceOf (roses_of vs), r)
    list_reads h k = counted-as true (ap (λ b. b && is_at_most (length vs) most) (le-leb least (length vs) h) ∙ k)
