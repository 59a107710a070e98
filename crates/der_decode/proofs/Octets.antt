-- Octets that the code holds.
use Rattle.std.proofs.Common.{◌≡◌, ℕ, suc, ◌-◌, ◌<◌, List, [], ◌∷◌, length, take, drop, get_or, sym, ap, ◌∙◌, arith}
use Rattle.std.proofs.lemmas.List.{take_all, length-drop}
use Rattle.std.proofs.Math.Seq.{drop-cons}
use Rattle.der_fields.specs.FieldsReading.{AreOctets}

-- a slice of bytes: h is `λ i. omega (arith, c.type_inv.octets i)`
pub octets_of_bytes : (xs : List ℕ) → ((i : ℕ) → get_or xs i 0 < 256) → AreOctets xs
octets_of_bytes [] h = tt
octets_of_bytes (x ∷ xs) h = (h 0, octets_of_bytes xs (λ i. h (suc i)))

-- the octets from one on, as the code takes them
abbrev pub from_octet : ℕ → List ℕ → List ℕ
from_octet at xs = take (length xs - at) (drop at xs)

pub all_left : (at : ℕ) (xs : List ℕ) → from_octet at xs ≡ drop at xs
all_left at xs = take_all (length xs - at) (drop at xs) (omega (arith, length-drop at xs))

-- an octet and the others
pub first_apart : (xs : List ℕ) → 0 < length xs → xs ≡ get_or xs 0 0 ∷ from_octet 1 xs
first_apart xs some = drop-cons xs 0 0 some ∙ ap (λ ys. get_or xs 0 0 ∷ ys) (sym (all_left 1 xs))
