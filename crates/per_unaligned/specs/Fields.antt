-- The fields of the UNALIGNED variant (X.691), clause by clause: no bits precede a field.
use Rattle.std.specs.Prelude.{◌≡◌, ℕ, ◌+◌, ◌-◌, ◌*◌, ◌<◌, ◌≤◌, false, ℤ, Some, None, List, ◌++◌, length, take, drop}
use Rattle.base_codecs.specs.Bits.{bits}
use Rattle.per_fields.specs.Widths.{width_of, more_of, distance, more_signed, complement}
use Rattle.per_fields.specs.Fields.{Writer, then_bits, in_turn, unit, units_of, length_bits, number_bits, from_bits, signed_bits, counted_bits, list_bits}

-- A number of 0..top has the least bits that hold the greatest, in each range (clause 11.5.6). A single number has no bits.
abbrev pub NumberBits : Type 0
NumberBits = (top x p : ℕ) → number_bits false top x p ≡ bits (width_of top) x

-- A number with a least one and without a greatest has the general length of its octets, and the octets (clause 11.7).
abbrev pub FromBits : Type 0
FromBits = (least z : ℤ) (p : ℕ) → let x = distance least z in from_bits false least z p ≡ length_bits (more_of x + 1) ++ bits (8 * (more_of x + 1)) x

-- A number without a least one has the general length of its octets, and the octets in two's complement (clause 11.8).
abbrev pub SignedBits : Type 0
SignedBits = (z : ℤ) (p : ℕ) → signed_bits false z p ≡ length_bits (more_signed z + 1) ++ bits (8 * (more_signed z + 1)) (complement (8 * (more_signed z + 1)) z)

-- Fewer than 16,384 octets or items follow their general length, which has one octet or two (clauses 11.9.3.6 and 11.9.3.7).
abbrev pub LastPiece : Type 0
LastPiece = (ws : List Writer) (p : ℕ) → length ws < unit → counted_bits false ws p ≡ then_bits (length_bits (length ws)) (in_turn ws) p

-- Otherwise an octet has the number of units of 16,384, at most four. These units follow it, and then the others (clause 11.9.3.8).
abbrev pub Fragment : Type 0
Fragment = (ws : List Writer) (p : ℕ) → unit ≤ length ws → let n = units_of (length ws) in
    counted_bits false ws p ≡ then_bits (bits 8 (192 + n)) (λ q. then_bits (in_turn (take (n * unit) ws) q) (counted_bits false (drop (n * unit) ws)) q) p

-- The items of SIZE (least..most). If the greatest is below 65,536, their count is a number within the bounds (clause 20.6 with
-- 11.9.4.1).
abbrev pub SizedBits : Type 0
SizedBits = (least most : ℕ) (ws : List Writer) (p : ℕ) → most < 65536 → list_bits false least (Some most) ws p ≡ then_bits (bits (width_of (most - least)) (length ws - least)) (in_turn ws) p

-- Otherwise their count is a general length (clause 20.6 with 11.9.4.2).
abbrev pub ListBits : Type 0
ListBits = (least : ℕ) (ws : List Writer) (p : ℕ) → (list_bits false least None ws p ≡ counted_bits false ws p) × ((most : ℕ) → 65536 ≤ most → list_bits false least (Some most) ws p ≡ counted_bits false ws p)
