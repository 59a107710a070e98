-- The fields of X.691 that have a fault: where each begins and ends, and why. What precedes the fault is stated by bits. Short
-- precedes the other reasons of a field, and NotShortest precedes Range and TooWide. Fields are aligned or not.
use Rattle.std.specs.Prelude.{◌≡◌, ℕ, ◌+◌, ◌-◌, ◌*◌, ◌^◌, ◌<◌, ◌≤◌, ◌⊎◌, ℤ, Bool, true, false, Option, Some, None, List, [], ◌∷◌, length}
use Rattle.base_codecs.specs.Bits.{bits, gap, padding}
use Rattle.simple_types.specs.Lexical.{is_128_bits, is_to}
use Rattle.asn_types.specs.declared.types.Component.{Component}
use Rattle.base_codecs.specs.declared.spots.Spot.{Spot}
use Rattle.per_fields.specs.declared.stops.Stop.{Stop}
use Rattle.per_fields.specs.declared.stops.Why.{Why}
use Rattle.per_fields.specs.declared.stops.Why.TheVariants.{Short, Padding, NotShortest, Range, TooWide}
use Rattle.per_fields.specs.Widths.{width_of, more_of, distance, raised, more_signed, signed_of}
use Rattle.per_fields.specs.Reading.{stop_at}
use Rattle.per_fields.specs.Codec.{Came}
use Rattle.per_fields.specs.Fields.{then_bits, gap_bits, length_bits, Piece, Last, Units, IsPiece, piece_bits, head_bits, is_out}

-- THE NUMBERS THAT HAVE A FAULT, and why.

-- The padding isn't all zero.
abbrev pub IsOne : ℕ → Why → Type 0
IsOne x why = (0 < x) × (why ≡ Padding)

-- A number, an index or an octet count is above the greatest.
abbrev pub IsAbove : ℕ → ℕ → Why → Type 0
IsAbove top x why = (top < x) × (why ≡ Range)

-- A number in `more` + 1 octets would fit in fewer.
abbrev pub FitsFewer : ℕ → ℕ → Type 0
FitsFewer more x = (0 < more) × (x < 2 ^ (8 * more))

-- A number of 0..top in `more` + 1 octets has a fault: it would fit in fewer, or it is above the greatest.
abbrev pub LargeFault : ℕ → ℕ → ℕ → Why → Type 0
LargeFault top more x why = (FitsFewer more x × (why ≡ NotShortest)) ⊎ ((FitsFewer more x → ⊥) × (top < x) × (why ≡ Range))

-- The distance of a number above its least one, in `more` + 1 octets, has a fault. It would fit in fewer octets, or the number
-- doesn't have 128 bits.
abbrev pub AboveFault : ℤ → ℕ → ℕ → Why → Type 0
AboveFault least more x why = (FitsFewer more x × (why ≡ NotShortest)) ⊎ ((FitsFewer more x → ⊥) × (is_128_bits (raised least x) ≡ false) × (why ≡ TooWide))

-- A number in two's complement, in `more` + 1 octets, has a fault: it would fit in fewer, or it is above the greatest.
abbrev pub SignedFault : Option ℤ → ℕ → ℕ → Why → Type 0
SignedFault greatest more x why =
    let z = signed_of (8 * (more + 1)) x in
    ((more_signed z < more) × (why ≡ NotShortest)) ⊎ ((more ≤ more_signed z) × (is_to greatest z ≡ false) × (why ≡ Range))

-- The first octet of a fragment has a fault. The fragment before has fewer than 4 units, or this one has none or more than 4.
abbrev pub UnitsFault : ℕ → ℕ → Why → Type 0
UnitsFault before x why = (192 ≤ x) × (((before < 4) × (why ≡ NotShortest)) ⊎ ((4 ≤ before) × ((x ≡ 192) ⊎ (196 < x)) × (why ≡ Range)))

-- The length of a number has a fault: it is 0, or more than 16 octets.
abbrev pub CountFault : Piece → Why → Type 0
CountFault (Last k) why = ((k ≡ 0) × (why ≡ Range)) ⊎ ((16 < k) × (why ≡ TooWide))
CountFault (Units k) why = why ≡ TooWide

-- The number of presence bits.
abbrev pub optional_count : List Component → ℕ
optional_count [] = 0
optional_count (part ∷ parts) = elim part.optional [ true ↦ 1 + optional_count parts | false ↦ optional_count parts ]

module _ (X : List Bool) where
  -- The n bits from one spot to another are this number.
  abbrev pub AreBits : ℕ → Spot → ℕ → Spot → Type 0
  AreBits n s x r = (x < 2 ^ n) × Came X s r (bits n x) 0

  -- The input ends in the next n bits, of a field that begins at a bit.
  abbrev pub EndsWithin : ℕ → Spot → ℕ → Stop → Type 0
  EndsWithin n s begin stop = (length X < s.at + n) × (stop ≡ stop_at begin Short (length X))

  -- A field of n bits stops: the input ends in it, or its number has a fault.
  abbrev pub BitsStop : ℕ → (ℕ → Why → Type 0) → Spot → Stop → Type 0
  BitsStop n Fault s stop = EndsWithin n s s.at stop ⊎ ((x : ℕ) × (why : Why) × (r : Spot) × AreBits n s x r × Fault x why × (stop ≡ stop_at s.at why r.at))

  -- PADDING, a field of its own.
  abbrev pub PaddingStops : Spot → Stop → Type 0
  PaddingStops s stop = BitsStop (gap s.at) IsOne s stop

  -- An aligned field stops: in its padding, or in the field after it.
  abbrev pub AlignedStops : (Spot → Stop → Type 0) → Spot → Stop → Type 0
  AlignedStops Field s stop = PaddingStops s stop ⊎ ((r : Spot) × Came X s r (padding s.at) 0 × Field r stop)

  -- A field that begins at an octet in the aligned variant, and right here in the unaligned one.
  abbrev pub GapStops : Bool → (Spot → Stop → Type 0) → Spot → Stop → Type 0
  GapStops true Field s stop = AlignedStops Field s stop
  GapStops false Field s stop = Field s stop

  -- A NUMBER OF 0..top (clause 11.5). In a large range the number of its octets after the first comes first.
  abbrev pub LargeStops : ℕ → Spot → Stop → Type 0
  LargeStops top s stop =
      BitsStop (width_of (more_of top)) (IsAbove (more_of top)) s stop
      ⊎ ((more : ℕ) × (r : Spot) × (more ≤ more_of top) × Came X s r (bits (width_of (more_of top)) more) 0
      × AlignedStops (λ q stop. BitsStop (8 * (more + 1)) (LargeFault top more) q stop) r stop)

  -- The field depends on how many numbers there are. A single number has no bits, so nothing stops. In the unaligned variant the
  -- field has the least bits that hold the greatest (clause 11.5.6).
  abbrev pub NumberStops : Bool → ℕ → Spot → Stop → Type 0
  NumberStops false top s stop = (0 < top) × BitsStop (width_of top) (IsAbove top) s stop
  NumberStops true top s stop =
      ((0 < top) × (top < 255) × BitsStop (width_of top) (IsAbove top) s stop)
      ⊎ ((top ≡ 255) × AlignedStops (λ r stop. BitsStop 8 (IsAbove top) r stop) s stop)
      ⊎ ((255 < top) × (top < 65536) × AlignedStops (λ r stop. BitsStop 16 (IsAbove top) r stop) s stop)
      ⊎ ((65536 ≤ top) × LargeStops top s stop)

  -- GENERAL LENGTH (clause 11.9), after a fragment of `before` units: it stops in its first octet or its second.
  abbrev pub LengthStops : ℕ → Spot → Stop → Type 0
  LengthStops before s stop =
      BitsStop 8 (UnitsFault before) s stop
      ⊎ ((x : ℕ) × (r : Spot) × AreBits 8 s x r × (128 ≤ x) × (x < 192)
      × (EndsWithin 8 r s.at stop ⊎ ((y : ℕ) × (q : Spot) × AreBits 8 r y q × ((x - 128) * 256 + y < 128) × (stop ≡ stop_at s.at NotShortest q.at))))

  -- A count within these bounds stops, after `total` items. Its padding or its length stops, or with it the number of items is out
  -- of bounds.
  abbrev pub CountStops : Bool → ℕ → Option ℕ → ℕ → ℕ → Spot → Stop → Type 0
  CountStops aligned least most before total s stop =
      GapStops aligned (λ r stop.
      LengthStops before r stop
      ⊎ ((n : Piece) × (q : Spot) × IsPiece before n × Came X r q (piece_bits n) 0 × (is_out least most total n ≡ true) × (stop ≡ stop_at r.at Range q.at))) s stop

  -- A count within these bounds is here.
  abbrev pub IsCount : Bool → ℕ → Option ℕ → ℕ → ℕ → Spot → Piece → Spot → Type 0
  IsCount aligned least most before total s n r =
      IsPiece before n × (is_out least most total n ≡ false) × Came X s r (head_bits aligned n s.at) 0

  -- WHOLE NUMBERS (clauses 13.2 and 11.4 to 11.8). The length of a number stops.
  abbrev pub OctetCountStops : Bool → Spot → Stop → Type 0
  OctetCountStops aligned s stop =
      GapStops aligned (λ r stop.
      LengthStops 4 r stop
      ⊎ ((n : Piece) × (why : Why) × (q : Spot) × IsPiece 4 n × Came X r q (piece_bits n) 0 × CountFault n why × (stop ≡ stop_at r.at why q.at))) s stop

  -- The length stops, or the number itself, in `more` + 1 octets.
  abbrev pub OctetsStop : Bool → (ℕ → ℕ → Why → Type 0) → Spot → Stop → Type 0
  OctetsStop aligned Fault s stop =
      OctetCountStops aligned s stop
      ⊎ ((more : ℕ) × (r : Spot) × (more < 16) × Came X s r (then_bits (gap_bits aligned s.at) (λ q. length_bits (more + 1)) s.at) 0 × BitsStop (8 * (more + 1)) (Fault more) r stop)

  -- A number with these bounds stops.
  abbrev pub WholeStops : Bool → Option ℤ → Option ℤ → Spot → Stop → Type 0
  WholeStops aligned (Some least) (Some greatest) s stop = NumberStops aligned (distance least greatest) s stop
  WholeStops aligned (Some least) None s stop = OctetsStop aligned (AboveFault least) s stop
  WholeStops aligned None greatest s stop = OctetsStop aligned (SignedFault greatest) s stop

  -- THE PRESENCE BITS of a SEQUENCE (clause 19.2). Each is a field, so the first that is missing begins where the input ends.
  abbrev pub FlagsStop : List Component → Spot → Stop → Type 0
  FlagsStop parts s stop = (length X < s.at + optional_count parts) × (stop ≡ stop_at (length X) Short (length X))

  -- The padding of the last octet stops, or the octet of an encoding without bits (clause 11.1).
  abbrev pub LastStops : Spot → Stop → Type 0
  LastStops s stop = ((s.at ≡ 0) × BitsStop 8 IsOne s stop) ⊎ ((0 < s.at) × PaddingStops s stop)
