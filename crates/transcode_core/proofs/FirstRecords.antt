-- What decoding answers says of the first record of the octets that are left.
use Rattle.std.proofs.Common.{◌≡◌, ℕ, true, List, refl, subst, inl, inr, arith, Option, Some, None, Ok, Err}
use Rattle.asn_values.specs.Values.{In}
use Rattle.per_decode.specs.declared.decoded.Decoded.{Decoded}
use Rattle.per_decode.specs.Answers.{AnswersBy}
use Rattle.schema_components.specs.Components.{Set}
use Rattle.transcode_words.specs.declared.outcome.Outcome.{Outcome}
use Rattle.transcode_words.specs.declared.outcome.Outcome.TheVariants.{Trailing}
use Rattle.transcode_words.specs.declared.tasks.Syntax.TheVariants.{Aligned}
use Rattle.transcode_core.specs.Steps.{RootType, readable, Streamed}
use Rattle.transcode_core.specs.Preparing.{prepared_seen}
use Rattle.transcode_core.specs.Next.{FirstRecord, FirstBack}
use Rattle.transcode_core.proofs.Syntaxes.{begins_per}

-- a value was read
pub first_value : (type : RootType) (old new : Option (List ℕ)) (found : Decoded) → In type.assignments type.number found.value
    → ((left : List ℕ) → old ≡ Some left → AnswersBy true type.assignments type.number 16777216 left new (Ok found)) → FirstRecord type old (Ok (found.value, found.octets))
first_value type None new found is_in says = is_in
first_value type (Some left) new found is_in says =
    let a = says left refl in
    (is_in, begins_per type.assignments type.number (readable left) true found.value found.octets (a.says.0, omega (arith, a.says.1, a.says.2)))

-- a first fault of all octets that doesn't say that octets follow
pub first_stop : (type : RootType) (old : Option (List ℕ)) (o : Outcome) → Streamed Aligned type old (Err o) → ((at : ℕ) → o ≡ Trailing at → ⊥) → FirstRecord type old (Err o)
first_stop type None o stops other = stops
first_stop type (Some left) o (inl fault) other = fault
first_stop type (Some left) o (inr (v, at, begins, more, is)) other = absurd (other at is)

-- what reads back does so for what was prepared
pub back_of : (s : Set) (n : ℕ) (p : Set × ℕ) (type : RootType) (left : Option (List ℕ)) (next : List ℕ × ℕ) → (s, n) ≡ p → FirstBack (prepared_seen (s, n)) type left next → FirstBack (prepared_seen p) type left next
back_of s n p type left next is h = subst (λ q. FirstBack (prepared_seen q) type left next) is h
