-- What is answered of the next record, by what decoding answers of the octets that are left.
use Rattle.std.proofs.Common.{◌≡◌, ℕ, ◌+◌, ◌-◌, ◌*◌, ◌<◌, ◌≤◌, Bool, true, false, cond, List, [], ◌∷◌, length, take, drop, refl, sym, ap, ◌∙◌, subst, arith, Option, Some, None, Result, Ok, Err, inl, inr, length-append}
use Rattle.std.specs.Prelude.{◌&&◌, nat_le}
use Rattle.std.proofs.lemmas.List.{length-take, length-drop}
use Rattle.std.specs.Io.KnownBytes.{Keeps}
use Rattle.base_trees.specs.Rose.{Rose}
use Rattle.base_codecs.proofs.BitLemmas.{length-octet_bits}
use Rattle.simple_types.specs.declared.labels.ValueLabel.{ValueLabel}
use Rattle.asn_types.specs.declared.modules.Assignment.{Assignment}
use Rattle.per_fields.specs.declared.stops.Stop.{Stop}
use Rattle.per_fields.specs.Encoding.{complete}
use Rattle.per_fields.specs.Laws.{Begins}
use Rattle.per_decode.specs.declared.decoded.Decoded.{Decoded}
use Rattle.per_decode.specs.declared.errors.DecodeError.{DecodeError}
use Rattle.per_decode.specs.declared.errors.DecodeError.TheVariants as decode
use Rattle.per_decode.specs.Answers as decoding
use Rattle.per_fields.specs.Stops.{is_short}
use Rattle.per_decode.specs.Answers.{Takes, Answers}
use Rattle.record_stream.specs.declared.errors.RecordError.TheVariants as error
use Rattle.record_stream.specs.Heads.{left_with, IsUntouched}
use Rattle.record_stream.specs.Next.{Answer, AnswersNext, IsDue, Says, fault_of, most_of, told_of, within}
use Rattle.record_stream.proofs.Cutting.{complete-some}

-- the record of what is decoded
abbrev pub told : ℕ → Result Decoded DecodeError → Answer
told number (Ok found) = Ok (Some found.value)
told number (Err e) = Err (told_of number e)

-- an octet that is held is left
pub some_left : (octet : ℕ) (rest : Option (List ℕ)) (left : List ℕ) → left_with (Some octet) rest ≡ Some left → 0 < length left
some_left octet None left e = absurd cc
some_left octet (Some rest) left e = let k : octet ∷ rest ≡ left = cc in omega (arith, ap length k)

module _ (M : List Assignment) (t number room : ℕ) (left : List ℕ) where
  fault_told : (stop : Stop) → told_of number (decoding.fault_of (most_of room) left stop) ≡ fault_of M t number room left stop
  fault_told stop = by (is_short stop.why && nat_le (most_of room) (length left))
    where
      by : (c : Bool) → told_of number (cond c decode.TooLong (decode.Bad stop.bit stop.why)) ≡ cond c error.TooLong (error.Bad number stop.bit stop.why)
      by true = refl
      by false = refl

  due_told : (due answer : Result Decoded DecodeError) → decoding.IsDue due answer → IsDue M t number room left (told number due) (told number answer)
  due_told due answer (inl e) = inl (ap (told number) e)
  due_told due answer (inr (inl e)) = inr (inl (ap (told number) e))
  due_told due answer (inr (inr e)) = inr (inr (ap (told number) e))

  says_told : (answer : Result Decoded DecodeError) (count : ℕ) → 0 < length left → decoding.Says true M t (most_of room) left answer count → Says M t number room left (told number answer) count
  says_told (Ok found) count some h = (h.0, h.1)
  says_told (Err (decode.Bad bit why)) count some h = (some, refl, h.0, h.1, h.2, h.3, h.4)
  says_told (Err decode.TooLong) count some h = (some, h.0, h.1, h.2, h.3)
  says_told (Err decode.Failed) count some h = h
  says_told (Err decode.Memory) count some h = tt

  -- something is left
  pub answers_next : (new : Option (List ℕ)) (answer : Result Decoded DecodeError) → 0 < length left → Answers M t (most_of room) left new answer → AnswersNext M t number room left new (told number answer)
  answers_next new answer some h = record {
    count = h.count;
    takes = h.takes;
    says = says_told answer h.count some h.says;
    end = λ e. absurd (omega (arith, some, ap length e));
    value = λ v b. due_told (Ok (decoding.with_octets true M t (most_of room) left v)) answer (h.value v b);
    stop = λ _ stop s. subst (λ e. IsDue M t number room left (Err e) (told number answer)) (fault_told stop) (due_told (Err (decoding.fault_of (most_of room) left stop)) answer (h.stop stop s));
  }

  nothing_begins : (v : Rose ValueLabel) → left ≡ [] → Begins M t (within M t number room left) v → ⊥
  nothing_begins v e b = omega (arith, ap length e, ap length b.is, length-append (complete M t v) b.rest, length-octet_bits (take (most_of room) left), length-take (most_of room) left, complete-some M t v b.value)

  takes_nothing : (new : Option (List ℕ)) → new ≡ Some left → Takes true M t (most_of room) left new 0
  takes_nothing new is = record { inside = omega arith; limited = omega arith; rest = is; value = λ v b. omega arith; stop = λ stop s. omega arith }

  -- nothing is left
  pub answers_end : (new : Option (List ℕ)) → left ≡ [] → new ≡ Some left → AnswersNext M t number room left new (Ok None)
  answers_end new none is = record {
    count = 0;
    takes = takes_nothing new is;
    says = (none, refl);
    end = λ _. inl refl;
    value = λ v b. absurd (nothing_begins v none b);
    stop = λ some stop s. absurd (omega (arith, some, ap length none));
  }

  -- the first octet could not be taken
  pub answers_failed : (new : Option (List ℕ)) → new ≡ Some left → AnswersNext M t number room left new (Err error.Failed)
  answers_failed new is = record {
    count = 0;
    takes = takes_nothing new is;
    says = λ v n few in_type e. omega (arith, few, ap length e, length-octet_bits (take n left), length-take n left, complete-some M t v in_type);
    end = λ _. inr (inl refl);
    value = λ v b. inr (inl refl);
    stop = λ some stop s. inr (inl refl);
  }

-- what is left is kept
pub kept_left : (old new : Option (List ℕ)) (left : List ℕ) → Keeps old new → old ≡ Some left → new ≡ Some left
kept_left None new left h e = absurd cc
kept_left (Some xs) None left h e = absurd h
kept_left (Some xs) (Some ys) left h e = let k : xs ≡ left = cc in ap (λ zs. Some zs) (h ∙ k)

module _ (M : List Assignment) (t number room octet : ℕ) (was held : Option ℕ) (old new : Option (List ℕ)) (left : List ℕ) (holds : was ≡ Some octet) (is : left_with was old ≡ Some left) where
  begins_left : left_with (Some octet) old ≡ Some left
  begins_left = subst (λ o. left_with o old ≡ Some left) holds is

  module _ (answer : Result Decoded DecodeError) (h : (left : List ℕ) → left_with (Some octet) old ≡ Some left → Answers M t (most_of room) left (left_with held new) answer) where
    pub answers_taken : AnswersNext M t number room left (left_with held new) (told number answer)
    answers_taken = answers_next M t number room left (left_with held new) answer (some_left octet old left begins_left) (h left begins_left)

    module _ (found : Decoded) (ok : answer ≡ Ok found) where
      found_here : Answers M t (most_of room) left (left_with held new) (Ok found)
      found_here = subst (Answers M t (most_of room) left (left_with held new)) ok (h left begins_left)

      -- its octets are no longer left of the limit
      pub room_left : 8 * room ≡ 8 * (room - found.octets) + length (complete M t found.value)
      room_left = let f = found_here in omega (arith, f.says.1, f.says.2, f.takes.limited)

      -- the octet was handed on
      pub none_held : IsUntouched octet old held new → held ≡ None
      none_held untouched = by held refl
        where
          by : (o : Option ℕ) → held ≡ o → o ≡ None
          by None e = refl
          by (Some ahead) e =
              let u = untouched ahead e in
              let f = found_here in
              let same : left_with held new ≡ Some left = ap (λ x. left_with x new) e ∙ ap (λ x. left_with (Some x) new) u.0 ∙ ap (left_with (Some octet)) u.1 ∙ begins_left in
              let gone : Some (drop f.count left) ≡ Some left = sym f.takes.rest ∙ same in
              let short : drop f.count left ≡ left = cc in
              absurd (omega (arith, ap length short, length-drop f.count left, f.takes.inside, some_left octet old left begins_left, f.says.1, complete-some M t found.value f.says.0.value))

-- an octet that is still held is the first that was left, and behind it stands what the source has left
pub held_first : (old : Option (List ℕ)) (octet : ℕ) (inner now : Option (List ℕ)) (left : List ℕ) → Keeps old (left_with (Some octet) inner) → old ≡ Some left → now ≡ inner
    → (1 ≤ length left) × (now ≡ Some (drop 1 left))
held_first old octet None now left keeps is same = absurd (subst (λ o. Keeps o (left_with (Some octet) None)) is keeps)
held_first old octet (Some xs) now left keeps is same =
    let e : octet ∷ xs ≡ left = subst (λ o. Keeps o (left_with (Some octet) (Some xs))) is keeps in
    (omega (arith, ap length e), same ∙ ap (λ ys. Some (drop 1 ys)) e)

-- none is held
pub none_is_held : (held : Option ℕ) (octet : ℕ) → held ≡ None → held ≡ Some octet → ⊥
none_is_held held octet none some = let clash : None ≡ Some octet = sym none ∙ some in cc
