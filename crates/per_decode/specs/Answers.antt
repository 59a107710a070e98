-- What decoding returns for the octets that a source has left (X.691), and how many of them it reads.
use Rattle.std.specs.Prelude.{◌≡◌, ℕ, ◌+◌, ◌*◌, ◌/◌, ◌<◌, ◌≤◌, ◌⊎◌, ◌&&◌, Bool, true, nat_le, Option, Some, List, length, take, drop, Result, Ok, Err, if◌then◌else◌}
use Rattle.base_trees.specs.Rose.{Rose}
use Rattle.base_codecs.specs.Bits.{octet_bits}
use Rattle.simple_types.specs.declared.labels.ValueLabel.{ValueLabel}
use Rattle.asn_types.specs.declared.modules.Assignment.{Assignment}
use Rattle.asn_values.specs.Values.{In}
use Rattle.per_fields.specs.declared.stops.Stop.{Stop}
use Rattle.per_fields.specs.declared.stops.Why.TheVariants.{Short}
use Rattle.per_fields.specs.Stops.{is_short}
use Rattle.per_fields.specs.Encoding.{complete_by}
use Rattle.per_fields.specs.Laws.{BeginsBy}
use Rattle.per_fields.specs.Stopping.{StopsFirstBy}
use Rattle.per_decode.specs.declared.decoded.Decoded.{Decoded}
use Rattle.per_decode.specs.declared.errors.DecodeError.{DecodeError}
use Rattle.per_decode.specs.declared.errors.DecodeError.TheVariants.{Bad, Failed, TooLong, Memory}

abbrev pub Answer : Type 0
Answer = Result Decoded DecodeError

-- The octets left in a source, of which at most `limit` may be read.
module _ (limit : ℕ) (left : List ℕ) where
  -- The bits that may be read.
  abbrev pub within : List Bool
  within = octet_bits (take limit left)

  -- How a first fault is reported. Octets that end at the limit may continue after it.
  abbrev pub fault_of : Stop → DecodeError
  fault_of stop = if is_short stop.why && nat_le limit (length left) then TooLong else Bad stop.bit stop.why

-- The result is the required one, unless the source or an allocation fails.
abbrev pub IsDue : Answer → Answer → Type 0
IsDue due answer = (answer ≡ due) ⊎ (answer ≡ Err Failed) ⊎ (answer ≡ Err Memory)

-- In one of the two variants, for a type of a module, and such octets.
module _ (aligned : Bool) (M : List Assignment) (t limit : ℕ) (left : List ℕ) where
  -- The first `count` octets were read, and none after the value, or after the end of the faulty field.
  pub record Takes (new : Option (List ℕ)) (count : ℕ) : Type 0 where
    pub inside : count ≤ length left
    pub limited : count ≤ limit
    pub rest : new ≡ Some (drop count left)
    pub value : (v : Rose ValueLabel) → BeginsBy aligned M t (within limit left) v → 8 * count ≤ length (complete_by aligned M t v)
    pub stop : (stop : Stop) → StopsFirstBy aligned M t (within limit left) stop → 8 * count ≤ stop.end + 7

  -- The value, and the number of octets of its complete encoding.
  abbrev pub with_octets : Rose ValueLabel → Decoded
  with_octets v = record { value = v; octets = length (complete_by aligned M t v) / 8 }

  -- What each result states of the octets, of which `count` were read. A value is returned with that number, so the place of the
  -- first octet after its encoding is known.
  abbrev pub Says : Answer → ℕ → Type 0
  Says (Ok found) count = BeginsBy aligned M t (within limit left) found.value × (8 * count ≡ length (complete_by aligned M t found.value)) × (found.octets ≡ count)
  Says (Err (Bad bit why)) count = (stop : Stop) × StopsFirstBy aligned M t (within limit left) stop × (stop.bit ≡ bit) × (stop.why ≡ why) × (why ≡ Short → length left < limit)
  Says (Err TooLong) count = (stop : Stop) × StopsFirstBy aligned M t (within limit left) stop × (stop.why ≡ Short) × (limit ≤ length left)
  Says (Err Failed) count = (v : Rose ValueLabel) (n : ℕ) → n ≤ count → In M t v → octet_bits (take n left) ≡ complete_by aligned M t v → ⊥
  Says (Err Memory) count = Unit {0}

  pub record AnswersBy (new : Option (List ℕ)) (answer : Answer) : Type 0 where
    pub count : ℕ
    pub takes : Takes new count
    pub says : Says answer count
    pub value : (v : Rose ValueLabel) → BeginsBy aligned M t (within limit left) v → IsDue (Ok (with_octets v)) answer
    pub stop : (stop : Stop) → StopsFirstBy aligned M t (within limit left) stop → IsDue (Err (fault_of limit left stop)) answer

-- What decoding returns, in the aligned variant.
abbrev pub Answers : List Assignment → ℕ → ℕ → List ℕ → Option (List ℕ) → Answer → Type 0
Answers = AnswersBy true
