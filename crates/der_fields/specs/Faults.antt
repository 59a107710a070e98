-- The octets of a length, or of contents without nodes, that have a fault, and why (X.690). The reasons are in their order.
use Rattle.std.specs.Prelude.{◌≡◌, ℕ, ℤ, ◌-◌, ◌<◌, ◌≤◌, ◌⊎◌, ◌&&◌, true, false, Option, List, [], ◌∷◌, length, take}
use Rattle.simple_types.specs.Lexical.{is_128_bits, is_from, is_to}
use Rattle.asn_types.specs.declared.types.Form.{Form}
use Rattle.asn_types.specs.declared.types.Form.TheVariants as form
use Rattle.der_fields.specs.declared.stops.Why.{Why}
use Rattle.der_fields.specs.declared.stops.Why.TheVariants.{Short, NotShortest, Content, TooWide, Range}
use Rattle.der_fields.specs.Octets.{signed_octets, signed_value, are_nine_equal, is_not_shortest}
use Rattle.der_fields.specs.Encoding.{item_number}

-- A LENGTH and what follows it (clauses 8.1.3 and 10.1): its octets aren't all there, or aren't the shortest ones.
abbrev pub LengthFault : List ℕ → Why → Type 0
LengthFault [] why = why ≡ Short
LengthFault (x ∷ xs) why =
    (128 ≤ x)
    × (((length xs < x - 128) × (why ≡ Short)) ⊎ ((x - 128 ≤ length xs) × (is_not_shortest (take (x - 128) xs) ≡ true) × (why ≡ NotShortest)))

-- A BOOLEAN is one of two octets (clauses 8.2 and 11.1).
abbrev pub IsBoolean : List ℕ → Type 0
IsBoolean octets = (octets ≡ 0x00 ∷ []) ⊎ (octets ≡ 0xFF ∷ [])

abbrev pub BooleanFault : List ℕ → Why → Type 0
BooleanFault octets why = (IsBoolean octets → ⊥) × (why ≡ Content)

-- A WHOLE NUMBER has octets (clause 8.3.1), which are the least ones (clause 8.3.2), and has 128 bits.
abbrev pub WholeFault : List ℕ → Why → Type 0
WholeFault octets why =
    ((octets ≡ []) × (why ≡ Content))
    ⊎ ((0 < length octets) × (are_nine_equal octets ≡ true) × (why ≡ NotShortest))
    ⊎ ((0 < length octets) × (are_nine_equal octets ≡ false) × (is_128_bits (signed_value octets) ≡ false) × (why ≡ TooWide))

-- An INTEGER must be within its bounds.
abbrev pub IntegerFault : Option ℤ → Option ℤ → List ℕ → Why → Type 0
IntegerFault least greatest octets why =
    WholeFault octets why
    ⊎ ((z : ℤ) × (is_128_bits z ≡ true) × (octets ≡ signed_octets z) × ((is_from least z && is_to greatest z) ≡ false) × (why ≡ Range))

-- An ENUMERATED must have the number of an item. Here is how many items it has.
abbrev pub item_count : Form → ℕ
item_count (form.Numbers numbers) = length numbers
item_count (form.Words identifiers words) = length words
item_count (form.Order identifiers) = length identifiers
item_count _ = 0

abbrev pub EnumeratedFault : Form → List ℕ → Why → Type 0
EnumeratedFault f octets why =
    WholeFault octets why
    ⊎ ((z : ℤ) × (is_128_bits z ≡ true) × (octets ≡ signed_octets z) × ((i : ℕ) → i < item_count f → item_number f i ≡ z → ⊥) × (why ≡ Range))
