-- Simple types whose numbers fit in the code's integers.
use Rattle.std.specs.Prelude.{◌≡◌, true, All}
use Rattle.simple_types.specs.Space.{Space, Numbers}
use Rattle.simple_types.specs.Lexical.{is_128_bits}

-- The numbers of an ENUMERATED have at most 128 bits, since the code stores no others.
abbrev pub IsSmall : Space → Type 0
IsSmall (Numbers numbers) = All (λ z. is_128_bits z ≡ true) numbers
IsSmall _ = Unit {0}
