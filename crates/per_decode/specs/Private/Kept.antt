-- The octets of a text, as they are read.
use Rattle.std.specs.Prelude.{ℕ, suc, ◌*◌, ◌++◌, Bool, List, length, None, Ok}
use Rattle.per_fields.specs.Reading.{◌>>=◌, Reader, octets_at}
use Rattle.per_fields.specs.Fields.{Piece, Last, Units, unit, fragments_at}

module _ (aligned : Bool) where
  -- The octets of a text after these. `total` octets were read, and the last fragment had `before` units.
  abbrev pub octets_more : List ℕ → ℕ → ℕ → Reader (List ℕ)
  octets_more front before total X s = fragments_at aligned 0 None octets_at (suc (length X)) before total X s >>= λ b. Ok (front ++ b.0, b.1)

  -- The octets of a text after its first length.
  abbrev pub octets_behind : Piece → Reader (List ℕ)
  octets_behind (Last n) X s = octets_at n X s
  octets_behind (Units k) X s = octets_at (k * unit) X s >>= λ a. octets_more a.0 k (k * unit) X a.1
