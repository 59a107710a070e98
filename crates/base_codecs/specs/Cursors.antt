-- The bits that a source of bits has left, and the octets it consumed from its source of octets.
use Rattle.std.specs.Prelude.{◌≡◌, ℕ, ◌+◌, ◌-◌, ◌*◌, ◌/◌, ◌≤◌, Bool, List, ◌++◌, length, take, drop, Option, Some}
use Rattle.base_codecs.specs.Bits.{bits, octet_bits}

-- The octets consumed are exactly those with a bit before the position.
abbrev pub IsInStep : ℕ → ℕ → Type 0
IsInStep position taken = taken ≡ (position + 7) / 8

-- The bits from the position up to the limit: the unread bits of the last octet consumed, and those of the octets left in the
-- source.
abbrev pub ahead : ℕ → ℕ → ℕ → ℕ → List ℕ → List Bool
ahead position taken held limit left = bits (8 * taken - position) held ++ octet_bits (take (limit - taken) left)

-- If the octets left were known, there were at least `count`, and the first `count` of them are gone.
abbrev pub LosesFirst : Option (List ℕ) → Option (List ℕ) → ℕ → Type 0
LosesFirst old new count = (left : List ℕ) → old ≡ Some left → (count ≤ length left) × (new ≡ Some (drop count left))
