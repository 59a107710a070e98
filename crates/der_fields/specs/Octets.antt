-- Identifiers, lengths and whole numbers in octets (X.690, clauses 8.1, 8.3 and 10.1).
use Rattle.std.specs.Prelude.{ℕ, zero, suc, ◌+◌, ◌-◌, ◌*◌, ◌/◌, ◌%◌, ◌==◌, ◌&&◌, ◌||◌, nat_lt, Bool, true, false, ℤ, pos, negsuc, List, [], ◌∷◌, length, map, if◌then◌else◌}

-- WHOLE NUMBERS. The octets of a number before a tail, in this number of steps. The first octet is below the top, which is 256, or
-- 128 if the octet has a sign.
unfoldable pub octets_from : ℕ → ℕ → ℕ → List ℕ → List ℕ
octets_from top zero n tail = n ∷ tail
octets_from top (suc turns) n tail = elim (nat_lt n top) [ true ↦ n ∷ tail | false ↦ octets_from top turns (n / 256) (n % 256 ∷ tail) ]

-- The least octets, the highest first.
abbrev pub octets_of : ℕ → ℕ → List ℕ
octets_of top n = octets_from top n n []

-- The number that continues from acc with these octets.
abbrev pub value_from : ℕ → List ℕ → ℕ
value_from acc [] = acc
value_from acc (x ∷ xs) = value_from (256 * acc + x) xs

-- Fewer octets are enough: the first nine bits are 0, or the first eight.
abbrev pub is_long : ℕ → List ℕ → Bool
is_long top (x ∷ y ∷ others) = nat_lt (256 * x + y) top
is_long top _ = false

-- LENGTHS in the definite form: the short form below 128, and otherwise the long form of the least octets (clauses 8.1.3.4, 8.1.3.5
-- and 10.1).
abbrev pub length_octets : ℕ → List ℕ
length_octets n = if nat_lt n 128 then n ∷ [] else (128 + length (octets_of 256 n)) ∷ octets_of 256 n

-- The octets of a long form aren't the least, or represent a length below 128, or there are none. The form without octets is the
-- indefinite one (clause 8.1.3.6), which is longer by its end.
abbrev pub is_not_shortest : List ℕ → Bool
is_not_shortest [] = true
is_not_shortest (x ∷ xs) = x == 0 || nat_lt (value_from x xs) 128

-- NUMBERS WITH A SIGN, in the least octets of two's complement (clauses 8.3.2 and 8.3.3). A negative number has the octets of its
-- distance below -1, with each bit inverted.
abbrev pub flipped : List ℕ → List ℕ
flipped xs = map (λ x. 255 - x) xs

abbrev pub signed_octets : ℤ → List ℕ
signed_octets (pos n) = octets_of 128 n
signed_octets (negsuc n) = flipped (octets_of 128 n)

abbrev pub signed_value : List ℕ → ℤ
signed_value [] = pos 0
signed_value (x ∷ xs) = if nat_lt x 128 then pos (value_from x xs) else negsuc (value_from (255 - x) (flipped xs))

-- The first nine bits are equal (clause 8.3.2).
abbrev pub are_nine_equal : List ℕ → Bool
are_nine_equal xs = is_long 128 xs || is_long 128 (flipped xs)

-- IDENTIFIERS (clause 8.1.2). A number from 1 on in octets of 7 bits with the top bit set, before a tail. `sevens` has one more
-- octet, the last, whose top bit is clear (clause 8.1.2.4).
unfoldable pub high_sevens : ℕ → ℕ → List ℕ → List ℕ
high_sevens zero n tail = tail
high_sevens (suc turns) n tail = elim (n == 0) [ true ↦ tail | false ↦ high_sevens turns (n / 128) ((128 + n % 128) ∷ tail) ]

abbrev pub sevens : ℕ → List ℕ
sevens n = high_sevens n (n / 128) (n % 128 ∷ [])

-- Bit 6 states whether the encoding is constructed (clause 8.1.2.5).
abbrev pub form_bit : Bool → ℕ
form_bit true = 32
form_bit false = 0

-- The context-specific tag with this number: one octet below 31 (clause 8.1.2.2), and otherwise more (clause 8.1.2.4).
abbrev pub context_identifier : Bool → ℕ → List ℕ
context_identifier constructed i = if nat_lt i 31 then (128 + form_bit constructed + i) ∷ [] else (159 + form_bit constructed) ∷ sevens i

-- The first octets are a prefix of the second ones.
abbrev pub begins : List ℕ → List ℕ → Bool
begins [] ys = true
begins (x ∷ xs) [] = false
begins (x ∷ xs) (y ∷ ys) = x == y && begins xs ys
