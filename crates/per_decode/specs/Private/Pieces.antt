-- What a length states, in terms of the definitions.
use Rattle.std.specs.Prelude.{◌<◌, ◌≤◌}
use Rattle.per_fields.specs.Fields as fields
use Rattle.per_decode.specs.declared.lengths.Piece.{Piece}
use Rattle.per_decode.specs.declared.lengths.Piece.TheVariants.{Last, Units}

abbrev pub piece_of : Piece → fields.Piece
piece_of (Last n) = fields.Last n
piece_of (Units k) = fields.Units k

-- The last length is below 16,384, and a fragment has up to 4 units.
abbrev pub IsPiece : Piece → Type 0
IsPiece (Last n) = n < 16384
IsPiece (Units k) = (1 ≤ k) × (k ≤ 4)
