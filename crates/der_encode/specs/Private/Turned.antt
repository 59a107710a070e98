-- Octets with each bit inverted, or unchanged.
use Rattle.std.specs.Prelude.{ℕ, ◌-◌, Bool, true, false, List}
use Rattle.der_fields.specs.Octets.{flipped}

abbrev pub turned_octet : Bool → ℕ → ℕ
turned_octet true octet = 255 - octet
turned_octet false octet = octet

abbrev pub turned : Bool → List ℕ → List ℕ
turned true octets = flipped octets
turned false octets = octets
