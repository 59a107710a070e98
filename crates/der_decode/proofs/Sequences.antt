-- The components of a SEQUENCE, as a loop reads them.
use Rattle.std.proofs.Common.{◌≡◌, ℕ, ◌+◌, ◌<◌, ◌≤◌, Bool, true, false, cond, ltb, List, [], ◌∷◌, ◌++◌, length, drop, refl, sym, ap, ◌∙◌, Option, Some, None, Result, Ok, Err}
use Rattle.std.specs.Prelude.{slice_get}
use Rattle.std.proofs.lemmas.Bool.{lt-ltb, le-ltb}
use Rattle.std.proofs.lemmas.List.{append-nil, drop_all}
use Rattle.base_trees.specs.Rose.{Rose, roses_of, node}
use Rattle.simple_types.specs.declared.labels.ValueLabel.{ValueLabel}
use Rattle.simple_types.specs.declared.labels.ValueLabel.TheVariants as value
use Rattle.asn_types.specs.declared.modules.Assignment.{Assignment}
use Rattle.asn_types.specs.declared.types.Component.{Component}
use Rattle.asn_types.specs.declared.types.TypeLabel.{TypeLabel}
use Rattle.asn_values.specs.Values.{place_of}
use Rattle.base_codecs.specs.declared.spots.Spot.{Spot}
use Rattle.base_codecs.specs.Reading.{◌>>=◌, stop_if, with_spot}
use Rattle.base_codecs.specs.Sequences.{parts_at}
use Rattle.base_codecs.proofs.Steps.{err_bind}
use Rattle.base_codecs.proofs.Sequences.{cond_true, cond_false}
use Rattle.der_fields.specs.declared.stops.Stop.{Stop}
use Rattle.der_fields.specs.FieldsReading.{Octets}
use Rattle.der_fields.specs.Encoding.{TaggedPlace, tagged_place}
use Rattle.der_fields.specs.Reading.{has_some, flags_of, those_of, starts, is_optional, unexpected, parts_from, sequence_of, sequence_at}
use Rattle.der_decode.specs.declared.faults.DerEnd.{DerEnd}
use Rattle.der_decode.specs.declared.faults.DerEnd.TheVariants as fault
use Rattle.der_decode.specs.Private.Showing.{Fails, ShowsParts}
use Rattle.der_decode.proofs.Parts.{parts_split}
use Rattle.der_decode.proofs.Shows.{with_front, regroup, same_front}

flags-push : (os : List (Option (Rose ValueLabel))) (o : Option (Rose ValueLabel)) → flags_of (os ++ o ∷ []) ≡ flags_of os ++ has_some o ∷ []
flags-push [] o = refl
flags-push (p ∷ os) o = ap (λ bs. has_some p ∷ bs) (flags-push os o)

those-push : (os : List (Option (Rose ValueLabel))) (v : Rose ValueLabel) → those_of (os ++ Some v ∷ []) ≡ those_of os ++ v ∷ []
those-push [] v = refl
those-push (None ∷ os) v = those-push os v
those-push (Some w ∷ os) v = ap (λ vs. w ∷ vs) (those-push os v)

those-skip : (os : List (Option (Rose ValueLabel))) → those_of (os ++ None ∷ []) ≡ those_of os
those-skip [] = refl
those-skip (None ∷ os) = those-skip os
those-skip (Some w ∷ os) = ap (λ vs. w ∷ vs) (those-skip os)

module _ (M : List Assignment) (kid : TaggedPlace → Octets (Rose ValueLabel)) (l : TypeLabel) (parts : List Component) (ts : List (Rose TypeLabel)) (X : List ℕ) (began : Spot) where
  abbrev read_parts : List TaggedPlace → Octets (List (Option (Rose ValueLabel)))
  read_parts ps X s = parts_at (starts M) is_optional unexpected kid ps X s

  -- those from number i on
  abbrev read_from : ℕ → Octets (List (Option (Rose ValueLabel)))
  read_from i X s = read_parts (parts_from l i (drop i parts) (drop i ts)) X s

  abbrev all : Result (List (Option (Rose ValueLabel)) × Spot) Stop
  all = read_parts (parts_from l 0 parts ts) X began

  -- those before number i were read: which of them are present, and those that are
  pub record Through (i : ℕ) (flags : List Bool) (vs : List (Rose ValueLabel)) (s : Spot) : Type 0 where
    pub done : List (Option (Rose ValueLabel))
    pub flags_are : flags_of done ≡ flags
    pub those_are : those_of done ≡ vs
    pub so_far : with_front done (read_from i X s) ≡ all

  pub through_none : Through 0 [] [] began
  through_none = record { done = []; flags_are = refl; those_are = refl; so_far = same_front all }

  module _ (i : ℕ) (flags : List Bool) (vs : List (Rose ValueLabel)) (s : Spot) (h : Through i flags vs s) where
    module _ (part : Component) (t : Rose TypeLabel) (is_part : slice_get parts i ≡ Some part) (is_kid : slice_get ts i ≡ Some t) where
      abbrev here : TaggedPlace
      here = tagged_place (Some i) (place_of l i part t)

      -- what is read where it is present, and where it is not
      abbrev if_there : Result (List (Option (Rose ValueLabel)) × Spot) Stop
      if_there = kid here X s >>= λ a. read_from (i + 1) X a.1 >>= λ as'. with_spot (Some a.0 ∷ as'.0) as'.1

      abbrev if_absent : Result (List (Option (Rose ValueLabel)) × Spot) Stop
      if_absent = read_from (i + 1) X s >>= λ as'. with_spot (None ∷ as'.0) as'.1

      turn : read_from i X s ≡ cond (starts M here (drop s.at X)) if_there (cond part.optional if_absent (Err (unexpected X s)))
      unfolding parts_at
      turn = ap (λ ps. read_parts ps X s) (parts_split l i parts ts part t is_part is_kid)

      there : starts M here (drop s.at X) ≡ true → read_from i X s ≡ if_there
      there e = turn ∙ cond_true (starts M here (drop s.at X)) if_there (cond part.optional if_absent (Err (unexpected X s))) e

      absent : starts M here (drop s.at X) ≡ false → read_from i X s ≡ cond part.optional if_absent (Err (unexpected X s))
      absent e = turn ∙ cond_false (starts M here (drop s.at X)) if_there (cond part.optional if_absent (Err (unexpected X s))) e

      pub through_there : starts M here (drop s.at X) ≡ true → (v : Rose ValueLabel) (r : Spot) → kid here X s ≡ Ok (v, r) → Through (i + 1) (flags ++ true ∷ []) (vs ++ v ∷ []) r
      through_there e v r read = record {
        done = h.done ++ Some v ∷ [];
        flags_are = flags-push h.done (Some v) ∙ ap (λ fs. fs ++ true ∷ []) h.flags_are;
        those_are = those-push h.done v ∙ ap (λ us. us ++ v ∷ []) h.those_are;
        so_far = sym (regroup h.done (Some v) (read_from (i + 1) X r))
            ∙ ap (with_front h.done) (sym (there e ∙ ap (λ k. k >>= λ a. read_from (i + 1) X a.1 >>= λ as'. with_spot (Some a.0 ∷ as'.0) as'.1) read))
            ∙ h.so_far;
      }

      pub through_absent : starts M here (drop s.at X) ≡ false → part.optional ≡ true → Through (i + 1) (flags ++ false ∷ []) vs s
      through_absent e optional = record {
        done = h.done ++ None ∷ [];
        flags_are = flags-push h.done None ∙ ap (λ fs. fs ++ false ∷ []) h.flags_are;
        those_are = those-skip h.done ∙ h.those_are;
        so_far = sym (regroup h.done None (read_from (i + 1) X s))
            ∙ ap (with_front h.done) (sym (absent e ∙ cond_true part.optional if_absent (Err (unexpected X s)) optional))
            ∙ h.so_far;
      }

      pub through_missing : starts M here (drop s.at X) ≡ false → part.optional ≡ false → all ≡ Err (unexpected X s)
      through_missing e needed = sym h.so_far ∙ ap (with_front h.done) (absent e ∙ cond_false part.optional if_absent (Err (unexpected X s)) needed)

      pub through_fails : starts M here (drop s.at X) ≡ true → (e : DerEnd) → Fails e (kid here X s) → Fails e all
      through_fails e (fault.Stopped stop) read =
          sym h.so_far ∙ ap (with_front h.done) (there e ∙ err_bind (kid here X s) (λ a. read_from (i + 1) X a.1 >>= λ as'. with_spot (Some a.0 ∷ as'.0) as'.1) stop read)
      through_fails e fault.Memory read = tt

    -- behind the last
    module _ (last : length parts ≤ i) where
      end : read_from i X s ≡ stop_if (ltb s.at (length X)) (unexpected X s) (Ok ([], s))
      unfolding parts_at
      end = ap (λ cs. read_parts (parts_from l i cs (drop i ts)) X s) (drop_all i parts last)

      pub through_more : s.at < length X → all ≡ Err (unexpected X s)
      through_more some = sym h.so_far ∙ ap (with_front h.done) (end ∙ ap (λ b. stop_if b (unexpected X s) (Ok ([], s))) (lt-ltb s.at (length X) some))

      pub through_end : length X ≤ s.at → ShowsParts (Ok s) flags vs all
      through_end none = (
        h.done,
        sym h.so_far ∙ ap (with_front h.done) (end ∙ ap (λ b. stop_if b (unexpected X s) (Ok ([], s))) (le-ltb s.at (length X) none)) ∙ ap (λ os. Ok (os, s)) (append-nil h.done),
        h.flags_are,
        h.those_are,
      )

  -- the whole of it
  sequence-is : sequence_at M kid l ts parts X began ≡ (all >>= λ a. with_spot (sequence_of a.0) a.1)
  unfolding sequence_at
  sequence-is = refl

  pub sequence_fails : (e : DerEnd) → Fails e all → Fails e (sequence_at M kid l ts parts X began)
  sequence_fails (fault.Stopped stop) h = sequence-is ∙ err_bind all (λ a. with_spot (sequence_of a.0) a.1) stop h
  sequence_fails fault.Memory h = tt

  pub sequence_reads : (flags : List Bool) (vs : List (Rose ValueLabel)) (r : Spot) → ShowsParts (Ok r) flags vs all → sequence_at M kid l ts parts X began ≡ Ok (node (value.Sequence flags) (roses_of vs), r)
  sequence_reads flags vs r h =
      sequence-is ∙ ap (λ k. k >>= λ a. with_spot (sequence_of a.0) a.1) h.1
      ∙ ap (λ fs. Ok (node (value.Sequence fs) (roses_of (those_of h.0)), r)) h.2 ∙ ap (λ us. Ok (node (value.Sequence flags) (roses_of us), r)) h.3
