-- What decoding DER answers of octets that are all there is what is due of them.
use Rattle.std.proofs.Common.{◌≡◌, ℕ, ◌<◌, List, [], ◌++◌, length, All, refl, ap, ◌∙◌, inl, inr, arith, append-nil, Ok, Err}
use Rattle.std.proofs.lemmas.Bool.{cases_lt}
use Rattle.std.proofs.lemmas.List.{length-append}
use Rattle.der_fields.specs.declared.stops.Why.{Why}
use Rattle.der_fields.specs.FieldsReading.{stop_at}
use Rattle.der_fields.specs.Encoding.{distinguished}
use Rattle.der_decode.specs.declared.decoded.Decoded.{Decoded}
use Rattle.der_decode.specs.declared.errors.DecodeError.TheVariants.{Bad}
use Rattle.der_decode.specs.Answers.{Says}
use Rattle.transcode_words.specs.declared.outcome.Outcome.TheVariants.{DerFault, Trailing}
use Rattle.transcode_words.specs.declared.tasks.Syntax.TheVariants.{Der}
use Rattle.transcode_core.specs.Steps.{RootType, DecodedOf}
use Rattle.transcode_core.specs.Syntaxes.{der_fault_of}
use Rattle.transcode_core.proofs.DerOctets.{all_octets}
use Rattle.transcode_core.proofs.Syntaxes.{no_rest}

module _ (type : RootType) (octets : List ℕ) where
  -- nothing is left behind the value
  pub all_read : (found : Decoded) → Says type.assignments type.number octets (Ok found) → found.octets ≡ length octets → DecodedOf Der type octets (Ok found.value)
  all_read found says all =
      let front = distinguished type.assignments type.number found.value in
      let none : says.0.rest ≡ [] = no_rest front says.0.rest (omega (arith, ap length says.0.is, says.1, all)) in
      (says.0.value, says.0.is ∙ ap (λ xs. front ++ xs) none ∙ append-nil front)

  -- more is left
  pub more_left : (found : Decoded) → Says type.assignments type.number octets (Ok found) → (found.octets ≡ length octets → ⊥) → All (λ x. x < 256) octets
      → DecodedOf Der type octets (Err (Trailing found.octets))
  more_left found says other all =
      let front = distinguished type.assignments type.number found.value in
      elim (cases_lt found.octets (length octets)) [
        | inl less ↦ (all_octets octets all, inr (found.value, found.octets, says, less, refl))
        | inr over ↦ absurd (other (omega (arith, over, ap length says.0.is, length-append front says.0.rest, says.1)))
      ]

  -- a first fault
  pub first_fault : (at : ℕ) (why : Why) → Says type.assignments type.number octets (Err (Bad at why)) → All (λ x. x < 256) octets → DecodedOf Der type octets (Err (DerFault at why))
  first_fault at why says all = (all_octets octets all, inl (der_fault_of octets (stop_at at why), (stop_at at why, says, refl), refl))
