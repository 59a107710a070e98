-- Reading identifiers, lengths and contents (X.690), up to the first fault. An identifier isn't read, but compared with the
-- expected ones.
use Rattle.std.specs.Prelude.{ℕ, ◌-◌, ◌<◌, not, List, [], ◌∷◌, length, drop, Ok, nat_lt, if◌then◌else◌}
use Rattle.base_codecs.specs.Reading.{◌>>=◌, Reader, moved, stop_if, with_spot, window_at, left_at}
use Rattle.base_codecs.specs.Sequences.{AllFit}
use Rattle.der_fields.specs.declared.stops.Stop.{Stop}
use Rattle.der_fields.specs.declared.stops.Why.{Why}
use Rattle.der_fields.specs.declared.stops.Why.TheVariants.{Short, Tag, NotShortest}
use Rattle.der_fields.specs.Octets.{value_from, is_not_shortest, begins}

abbrev pub stop_at : ℕ → Why → Stop
stop_at at why = record { at = at; why = why }

abbrev pub AreOctets : List ℕ → Type 0
AreOctets xs = AllFit (λ x. x < 256) xs

abbrev pub Octets : Type 0 → Type 0
Octets A = Reader ℕ Stop A

-- The next n octets, of a field that begins at an octet.
unfoldable pub raw_at : ℕ → ℕ → Octets (List ℕ)
raw_at begin n X s = window_at (stop_at begin Short) n left_at X s

-- The number that octets represent.
abbrev pub number_of : List ℕ → ℕ
number_of [] = 0
number_of (x ∷ xs) = value_from x xs

-- A LENGTH, after its first octet. That octet is the length, or states how many octets have it (clauses 8.1.3.4 and 8.1.3.5).
unfoldable pub length_from : ℕ → ℕ → Octets ℕ
length_from begin x X s =
    if nat_lt x 128 then Ok (x, s)
    else raw_at begin (x - 128) X s >>= λ a. stop_if (is_not_shortest a.0) (stop_at begin NotShortest) (with_spot (number_of a.0) a.1)

unfoldable pub length_at : Octets ℕ
length_at X s = raw_at s.at 1 X s >>= λ x. length_from s.at (number_of x.0) X x.1

-- A length, and contents that fill it (clause 8.1.1).
unfoldable pub sized_at : {A : Type 0} → Octets A → Octets A
sized_at contents X s = length_at X s >>= λ n. window_at (stop_at s.at Short) n.0 contents X n.1

-- What follows these octets.
unfoldable pub tagged_at : {A : Type 0} → List ℕ → Octets A → Octets A
tagged_at head read X s = stop_if (not (begins head (drop s.at X))) (stop_at s.at Tag) (read X (moved s (length head) 0))

-- What begins with these octets.
unfoldable pub expected_at : {A : Type 0} → List ℕ → Octets A → Octets A
expected_at head read X s = stop_if (not (begins head (drop s.at X))) (stop_at s.at Tag) (read X s)
