-- What decoding returns for octets (X.690).
use Rattle.std.specs.Prelude.{◌≡◌, ℕ, List, length, Result, Ok, Err}
use Rattle.asn_types.specs.declared.modules.Assignment.{Assignment}
use Rattle.der_fields.specs.FieldsReading.{stop_at}
use Rattle.der_fields.specs.Encoding.{distinguished}
use Rattle.der_fields.specs.Laws.{Begins}
use Rattle.der_fields.specs.Stopping.{DerStop}
use Rattle.der_decode.specs.declared.decoded.Decoded.{Decoded}
use Rattle.der_decode.specs.declared.errors.DecodeError.{DecodeError}
use Rattle.der_decode.specs.declared.errors.DecodeError.TheVariants.{Bad, Memory}

abbrev pub Answer : Type 0
Answer = Result Decoded DecodeError

-- The octets begin with those of the value, which are of this number. Or they stop first here, for this reason. Exactly one of the
-- two holds of octets (law `stops_first` of der_fields). So each result is returned if and only if this holds, unless an allocation
-- fails.
abbrev pub Says : List Assignment → ℕ → List ℕ → Answer → Type 0
Says M t octets (Ok found) = Begins M t octets found.value × (found.octets ≡ length (distinguished M t found.value))
Says M t octets (Err (Bad at why)) = DerStop M t octets (stop_at at why)
Says M t octets (Err Memory) = Unit {0}
