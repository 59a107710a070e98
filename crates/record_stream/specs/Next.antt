-- What a stream of records answers of the octets that it has left (X.691), and how many of them it takes.
use Rattle.std.specs.Prelude.{◌≡◌, ℕ, ◌*◌, ◌<◌, ◌≤◌, ◌⊎◌, ◌&&◌, Bool, true, min, nat_le, Option, Some, None, List, [], length, take, Result, Ok, Err, if◌then◌else◌}
use Rattle.base_trees.specs.Rose.{Rose}
use Rattle.base_codecs.specs.Bits.{octet_bits}
use Rattle.simple_types.specs.declared.labels.ValueLabel.{ValueLabel}
use Rattle.asn_types.specs.declared.modules.Assignment.{Assignment}
use Rattle.asn_values.specs.Values.{In}
use Rattle.per_fields.specs.declared.stops.Stop.{Stop}
use Rattle.per_fields.specs.declared.stops.Why.TheVariants.{Short}
use Rattle.per_fields.specs.Encoding.{complete}
use Rattle.per_fields.specs.Laws.{Begins}
use Rattle.per_fields.specs.Stopping.{StopsFirst}
use Rattle.per_fields.specs.Stops.{is_short}
use Rattle.per_decode.specs.Answers.{Takes}
use Rattle.per_decode.specs.declared.errors.DecodeError.{DecodeError}
use Rattle.per_decode.specs.declared.errors.DecodeError.TheVariants as decode
use Rattle.record_stream.specs.declared.errors.RecordError.{RecordError}
use Rattle.record_stream.specs.declared.errors.RecordError.TheVariants.{Bad, TooLong, Failed, Memory}

-- what a fault of decoding is of the record with this number
abbrev pub told_of : ℕ → DecodeError → RecordError
told_of number (decode.Bad bit why) = Bad number bit why
told_of number decode.TooLong = TooLong
told_of number decode.Failed = Failed
told_of number decode.Memory = Memory

abbrev pub Answer : Type 0
Answer = Result (Option (Rose ValueLabel)) RecordError

-- how many octets one record may have, where this number may be read
abbrev pub most_of : ℕ → ℕ
most_of room = min 16777216 room

-- for the types of a module, the number of the next record, how many octets may be read, and those left
module _ (M : List Assignment) (t number room : ℕ) (left : List ℕ) where
  -- the bits that the record may have
  abbrev pub within : List Bool
  within = octet_bits (take (most_of room) left)

  -- the error for a first fault: octets that end at the limit may go on after it
  abbrev pub fault_of : Stop → RecordError
  fault_of stop = if is_short stop.why && nat_le (most_of room) (length left) then TooLong else Bad number stop.bit stop.why

  -- what each answer says of the octets, of which `count` were read
  abbrev pub Says : Answer → ℕ → Type 0
  Says (Ok None) count = (left ≡ []) × (count ≡ 0)
  Says (Ok (Some v)) count = Begins M t within v × (8 * count ≡ length (complete M t v))
  Says (Err (Bad n bit why)) count =
      (0 < length left) × (n ≡ number) × (stop : Stop) × StopsFirst M t within stop × (stop.bit ≡ bit) × (stop.why ≡ why) × (why ≡ Short → length left < most_of room)
  Says (Err TooLong) count = (0 < length left) × (stop : Stop) × StopsFirst M t within stop × (stop.why ≡ Short) × (most_of room ≤ length left)
  Says (Err Failed) count = (v : Rose ValueLabel) (n : ℕ) → n ≤ count → In M t v → octet_bits (take n left) ≡ complete M t v → ⊥
  Says (Err Memory) count = Unit {0}

  -- this answer, unless the source fails or memory is missing
  abbrev pub IsDue : Answer → Answer → Type 0
  IsDue due answer = (answer ≡ due) ⊎ (answer ≡ Err Failed) ⊎ (answer ≡ Err Memory)

  -- Exactly one of three is required: the end, a value, or the first fault of what is left.
  pub record AnswersNext (new : Option (List ℕ)) (answer : Answer) : Type 0 where
    pub count : ℕ
    pub takes : Takes true M t (most_of room) left new count
    pub says : Says answer count
    pub end : left ≡ [] → IsDue (Ok None) answer
    pub value : (v : Rose ValueLabel) → Begins M t within v → IsDue (Ok (Some v)) answer
    pub stop : 0 < length left → (stop : Stop) → StopsFirst M t within stop → IsDue (Err (fault_of stop)) answer
