-- The representation of a whole number in the code.
use Rattle.std.specs.Prelude.{◌≡◌, ℕ, true, false, ℤ, pos, negsuc, Option, Some, None}
use Rattle.simple_types.specs.declared.numbers.Whole.{Whole}
use Rattle.simple_types.specs.declared.numbers.Whole.TheVariants.{Within, Above, Below}
use Rattle.simple_types.specs.Lexical.{is_128_bits}

abbrev pub Shows : Whole → ℤ → Type 0
Shows (Within n) z = (n ≡ z) × (is_128_bits z ≡ true)
Shows Above z = (n : ℕ) × (z ≡ pos n) × (is_128_bits z ≡ false)
Shows Below z = (n : ℕ) × (z ≡ negsuc n) × (is_128_bits z ≡ false)

abbrev pub Writes : Option Whole → Option ℤ → Type 0
Writes None (Some z) = ⊥
Writes None None = Unit {0}
Writes (Some whole) None = ⊥
Writes (Some whole) (Some z) = Shows whole z
