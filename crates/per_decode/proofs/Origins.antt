-- What a call begins with.
use Rattle.std.proofs.Common.{ℕ, Bool, true, false, List, [], Option, Some, None}

abbrev pub is_told : Option (List ℕ) → Bool
is_told None = false
is_told (Some left) = true

abbrev pub contents : Option (List ℕ) → List ℕ
contents None = []
contents (Some left) = left
