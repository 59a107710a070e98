-- Reading a source of bits, compared with reading the bits that it began with.
use Rattle.std.specs.Prelude.{◌≡◌, ℕ, ◌+◌, ◌*◌, ◌<◌, ◌≤◌, Bool, false, Option, Some, List, length, take, drop, Result, Ok, Err, IfOk}
use Rattle.base_codecs.specs.Bits.{octet_bits}
use Rattle.base_codecs.specs.declared.spots.Spot.{Spot}
use Rattle.per_fields.specs.declared.stops.Stop.{Stop}
use Rattle.per_fields.specs.declared.stops.Why.TheVariants as reasons
use Rattle.per_fields.specs.Reading.{Reader, stop_at}
use Rattle.per_fields.specs.Stops.{is_short}
use Rattle.per_decode.specs.declared.faults.PerEnd.{PerEnd}
use Rattle.per_decode.specs.declared.faults.PerEnd.TheVariants as fault
use Rattle.per_decode.specs.declared.errors.DecodeError.{DecodeError}
use Rattle.per_decode.specs.declared.errors.DecodeError.TheVariants as error

-- The bits of the octets that may be read.
abbrev pub input : ℕ → List ℕ → List Bool
input limit whole = octet_bits (take limit whole)

abbrev pub spot : ℕ → ℕ → Spot
spot position nodes = record { at = position; nodes = nodes }

-- The bit at which reading ends.
abbrev pub end_of : {B : Type 0} → Result (B × Spot) Stop → ℕ
end_of (Ok x) = x.1.at
end_of (Err stop) = stop.end

abbrev pub IsRead : {B : Type 0} → Result (B × Spot) Stop → Type 0
IsRead (Ok x) = Unit {0}
IsRead (Err stop) = ⊥

-- A fault, with the parts of the stop that belong to it.
pub data Halt : Type 0 where
  stopped : Stop → Halt
  short : ℕ → Halt
  too_long : ℕ → Halt
  failed : Halt
  memory : Halt

abbrev pub halt_of : PerEnd → Stop → Halt
halt_of fault.Stopped stop = stopped stop
halt_of fault.Short stop = short stop.bit
halt_of fault.TooLong stop = too_long stop.bit
halt_of fault.Failed stop = failed
halt_of fault.Memory stop = memory

-- The error that the caller gets for it.
abbrev pub error_of : Halt → DecodeError
error_of (stopped stop) = error.Bad stop.bit stop.why
error_of (short bit) = error.Bad bit reasons.Short
error_of (too_long bit) = error.TooLong
error_of failed = error.Failed
error_of memory = error.Memory

module _ (limit : ℕ) (whole : List ℕ) where
  -- After a fault `taken` octets were read, and none after the bit at which reading ends. After a failure of the source they don't
  -- have all bits of what is read. If the octets end inside a field, all were read: there are no more, or no more may be read.
  abbrev pub FailsAt : {B : Type 0} → Halt → ℕ → Result (B × Spot) Stop → Type 0
  FailsAt memory taken read = 8 * taken ≤ end_of read + 7
  FailsAt failed taken read = (8 * taken ≤ end_of read + 7) × (IsRead read → 8 * taken < end_of read)
  FailsAt (short bit) taken read = (read ≡ Err (stop_at bit reasons.Short (8 * taken))) × (length whole < limit)
  FailsAt (too_long bit) taken read = (read ≡ Err (stop_at bit reasons.Short (8 * taken))) × (limit ≤ length whole)
  FailsAt (stopped stop) taken read = (read ≡ Err stop) × (8 * taken ≤ stop.end + 7) × (is_short stop.why ≡ false)

  -- The value that is read and the spot after it, or a fault.
  abbrev pub Shows : {A B : Type 0} → (A → B) → Result A PerEnd → Spot → Stop → ℕ → Result (B × Spot) Stop → Type 0
  Shows view (Ok x) new stop taken found = found ≡ Ok (view x, new)
  Shows view (Err fault) new stop taken found = FailsAt (halt_of fault stop) taken found

  -- A reader gives this from a spot on.
  abbrev pub Gives : {A B : Type 0} → (A → B) → Result A PerEnd → Spot → Stop → ℕ → Reader B → Spot → Type 0
  Gives view result new stop taken read old = Shows view result new stop taken (read (input limit whole) old)

  -- The value and the spot after it, or the error that the caller gets for a fault.
  abbrev pub Tells : {A B : Type 0} → (A → B) → Result A DecodeError → Spot → ℕ → Result (B × Spot) Stop → Type 0
  Tells view (Ok x) new taken found = found ≡ Ok (view x, new)
  Tells view (Err e) new taken found = (halt : Halt) × (error_of halt ≡ e) × FailsAt halt taken found

  -- What a reader gave from the first octet on, and how many octets were read. A value gives that number, too.
  pub record Ended {A B : Type 0} (view : A → B) (octets_of : A → ℕ) (result : Result A DecodeError) (new : Option (List ℕ)) (read : Reader B) : Type 0 where
    pub taken : ℕ
    pub inside : taken ≤ length whole
    pub limited : taken ≤ limit
    pub rest : new ≡ Some (drop taken whole)
    pub end : Spot
    pub octets : IfOk result (λ x. (end.at ≡ 8 * taken) × (octets_of x ≡ taken))
    pub gives : Tells view result end taken (read (input limit whole) (spot 0 0))
