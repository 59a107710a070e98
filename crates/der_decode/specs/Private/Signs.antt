-- Octets of negative numbers.
use Rattle.std.specs.Prelude.{ℕ, ◌-◌, Bool, true, false, List}
use Rattle.der_fields.specs.Octets.{flipped}

-- Each bit is inverted, if a number is negative.
abbrev pub turned : Bool → List ℕ → List ℕ
turned true xs = flipped xs
turned false xs = xs

abbrev pub turned_octet : Bool → ℕ → ℕ
turned_octet true x = 255 - x
turned_octet false x = x
