-- What decoding answers, and the octet behind it, say of all octets that are left.
use Rattle.std.proofs.Common.{◌≡◌, ℕ, ◌<◌, ◌≤◌, Bool, true, false, List, [], ◌∷◌, ◌++◌, length, drop, refl, sym, ap, ◌∙◌, subst, inl, inr, arith, Option, Some, None, Ok, Err}
use Rattle.std.specs.Prelude.{nat_le}
use Rattle.std.specs.Io.KnownBytes.{IsAtEnd}
use Rattle.std.proofs.lemmas.List.{take_all, length-drop, length-append, append-nil}
use Rattle.std.proofs.lemmas.Bool.{le-leb, lt-leb}
use Rattle.asn_values.specs.Values.{In}
use Rattle.base_codecs.specs.Bits.{octet_bits}
use Rattle.base_codecs.proofs.BitLemmas.{length-octet_bits}
use Rattle.per_fields.specs.declared.stops.Stop.{Stop}
use Rattle.per_fields.specs.declared.stops.Why.{Why}
use Rattle.per_fields.specs.declared.stops.Why.TheVariants as why
use Rattle.per_fields.specs.Encoding.{complete_by}
use Rattle.per_decode.specs.declared.decoded.Decoded.{Decoded}
use Rattle.per_decode.specs.declared.errors.DecodeError.{DecodeError}
use Rattle.per_decode.specs.declared.errors.DecodeError.TheVariants as error
use Rattle.per_fields.specs.Stops.{is_short}
use Rattle.per_decode.specs.Answers.{Answer, AnswersBy}
use Rattle.transcode_words.specs.declared.outcome.Outcome.TheVariants.{PerFault, Trailing, TooLong}
use Rattle.transcode_core.specs.Steps as step
use Rattle.transcode_core.specs.Steps.{RootType, IsTypeOf, readable, fault_in}
use Rattle.transcode_core.specs.Syntaxes.{Fault, fault_of, per_syntax, HasFault}
use Rattle.transcode_core.proofs.Syntaxes.{encoding_per, begins_per, per_fault, fault_per}
use Rattle.schema_components.specs.Components.{Set}
use Rattle.per_fields.specs.Stopping.{StopsFirstBy}
use Rattle.transcode_core.specs.Causes.{TakesItsField}

short_is : (w : Why) → is_short w ≡ true → w ≡ why.Short
short_is why.TooDeep e = cc
short_is why.TooMany e = cc
short_is why.Short e = refl
short_is why.Padding e = cc
short_is why.NotShortest e = cc
short_is why.Range e = cc
short_is why.TooWide e = cc
short_is why.NotUtf8 e = cc
short_is why.DefaultWritten e = cc
short_is why.NotAValue e = cc

no_bits : (a b : List Bool) → length (a ++ b) ≡ length a → b ≡ []
no_bits a [] e = refl
no_bits a (x ∷ b) e = absurd (omega (arith, e, length-append a (x ∷ b)))

module _ (aligned : Bool) (type : RootType) {s : Set} {n : ℕ} (h : IsTypeOf s n type) where
  read_stops : (left : List ℕ) (stop : Stop) → StopsFirstBy aligned type.assignments type.number (octet_bits (readable left)) stop → HasFault (per_syntax aligned) type.assignments type.number (readable left) (fault_of stop)
  read_stops left stop stops = fault_per type.assignments type.number (readable left) aligned (fault_of stop) (stop, stops, refl)

  abbrev pub Says : Option (List ℕ) → Option (List ℕ) → Answer → Type 0
  Says old new answer = (left : List ℕ) → old ≡ Some left → AnswersBy aligned type.assignments type.number 16777216 left new answer

  -- the same answer, by another name
  pub renamed : (old new : Option (List ℕ)) (e f : DecodeError) → e ≡ f → Says old new (Err e) → Says old new (Err f)
  renamed old new e f same says = subst (λ x. Says old new (Err x)) same says

  behind : (new : Option (List ℕ)) (rest : List ℕ) → new ≡ Some rest → IsAtEnd new → rest ≡ []
  behind new rest e is = subst IsAtEnd e is

  -- nothing is left behind the value
  ended : (left : List ℕ) (new : Option (List ℕ)) (found : Decoded) → AnswersBy aligned type.assignments type.number 16777216 left new (Ok found) → IsAtEnd new
      → (length left ≤ 16777216) × In type.assignments type.number found.value × (octet_bits left ≡ complete_by aligned type.assignments type.number found.value)
  ended left new found a is =
      let nothing : length (drop a.count left) ≡ 0 = ap length (behind new (drop a.count left) a.takes.rest is) in
      let all : length left ≡ a.count = omega (arith, nothing, length-drop a.count left, a.takes.inside) in
      let few : length left ≤ 16777216 = omega (arith, all, a.takes.limited) in
      let whole : octet_bits left ≡ complete_by aligned type.assignments type.number found.value ++ a.says.0.rest = ap octet_bits (sym (take_all 16777216 left few)) ∙ a.says.0.is in
      let none : a.says.0.rest ≡ [] = no_bits (complete_by aligned type.assignments type.number found.value) a.says.0.rest
      (omega (arith, ap length whole, length-octet_bits left, all, a.says.1)) in
      (few, a.says.0.value, whole ∙ ap (λ bs. complete_by aligned type.assignments type.number found.value ++ bs) none ∙ append-nil (complete_by aligned type.assignments type.number found.value))

  pub all_ended : (old new : Option (List ℕ)) (found : Decoded) → In type.assignments type.number found.value → Says old new (Ok found) → IsAtEnd new → step.Streamed (per_syntax aligned) type old (Ok found.value)
  all_ended None new found is_in says is = is_in
  all_ended (Some left) new found is_in says is = let e = ended left new found (says left refl) is in (e.0, e.1, encoding_per type.assignments type.number left aligned found.value e.2)

  -- more is left
  pub goes_on : (old new : Option (List ℕ)) (found : Decoded) → Says old new (Ok found) → ((left : List ℕ) → new ≡ Some left → 0 < length left)
      → step.Streamed (per_syntax aligned) type old (Err (Trailing found.octets))
  goes_on None new found says more = tt
  goes_on (Some left) new found says more =
      let a = says left refl in
      let some = more (drop a.count left) a.takes.rest in
      let begins = begins_per type.assignments type.number (readable left) aligned found.value found.octets (a.says.0, omega (arith, a.says.1, a.says.2)) in
      inr (found.value, found.octets, begins, omega (arith, some, length-drop a.count left, a.says.2), refl)

  told : (left : List ℕ) (stop : Stop) (b : Bool) → is_short stop.why ≡ b → (stop.why ≡ why.Short → length left < 16777216) → fault_in left (fault_of stop) ≡ PerFault stop.bit stop.why
  told left stop false e short = rw e refl
  told left stop true e short =
      let less = short (short_is stop.why e) in
      let no : nat_le 16777216 (length left) ≡ false = lt-leb 16777216 (length left) less in
      rw (e, no) refl

  -- a first fault
  pub stops_at : (old new : Option (List ℕ)) (bit : ℕ) (w : Why) → Says old new (Err (error.Bad bit w)) → step.Streamed (per_syntax aligned) type old (Err (PerFault bit w))
  stops_at None new bit w says = tt
  stops_at (Some left) new bit w says =
      let a = says left refl in
      let stop = a.says.0 in
      let same = told left stop (is_short stop.why) refl (λ e. a.says.4 (sym a.says.3 ∙ e)) in
      inl (fault_of stop, read_stops left stop a.says.1, sym (same ∙ ap (λ b. PerFault b stop.why) a.says.2 ∙ ap (λ r. PerFault bit r) a.says.3))

  pub too_long : (old new : Option (List ℕ)) → Says old new (Err error.TooLong) → step.Streamed (per_syntax aligned) type old (Err (TooLong 0))
  too_long None new says = tt
  too_long (Some left) new says =
      let a = says left refl in
      let stop = a.says.0 in
      let yes : nat_le 16777216 (length left) ≡ true = le-leb 16777216 (length left) a.says.3 in
      let e : is_short stop.why ≡ true = ap is_short a.says.2 in
      inl (fault_of stop, read_stops left stop a.says.1, sym (rw (e, yes) refl))

  -- what was taken of octets with a first fault
  pub takes : (old new : Option (List ℕ)) (answer : Answer) → Says old new answer → TakesItsField (per_syntax aligned) type old new
  takes old new answer says left is fault has =
      let a = says left is in
      let f = per_fault type.assignments type.number (readable left) aligned fault has in
      let most = a.takes.stop f.0 f.1 in
      (a.count, a.takes.rest, omega (arith, most, ap (λ (f : Fault). f.end) f.2))

  -- octets of which a value was read have none
  pub no_fault : (old new later : Option (List ℕ)) (found : Decoded) → Says old new (Ok found) → TakesItsField (per_syntax aligned) type old later
  no_fault old new later found says left is fault has = let a = says left is in
      let f = per_fault type.assignments type.number (readable left) aligned fault has in
      elim (a.stop f.0 f.1) [
        | inl e ↦ cc
        | inr (inl e) ↦ cc
        | inr (inr e) ↦ cc
      ]
