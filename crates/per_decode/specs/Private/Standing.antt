-- What it means that a source of bits is at a position of the octets that it began with.
use Rattle.std.specs.Prelude.{◌≡◌, ℕ, ◌≤◌, Option, Some, List, length, take, drop}
use Rattle.base_codecs.specs.Bits.{octet_bits}
use Rattle.base_codecs.specs.Cursors.{IsInStep, ahead}

-- `taken` of these octets were read, and those after them remain. If exactly the octets with a bit before the position were read,
-- the bits ahead are those after the position. They are bits of the octets up to the limit.
pub record IsAt (whole : List ℕ) (limit position taken held : ℕ) (left : Option (List ℕ)) : Type 0 where
  pub inside : taken ≤ length whole
  pub rest : left ≡ Some (drop taken whole)
  pub bits : IsInStep position taken → ahead position taken held limit (drop taken whole) ≡ drop position (octet_bits (take limit whole))

-- Reading continues from one position to another, and is then in step.
abbrev pub GoesOn : ℕ → ℕ → ℕ → Type 0
GoesOn from to taken = (from ≤ to) × IsInStep to taken
