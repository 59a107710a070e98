-- A computable test that numbers are exactly those of the flags that are set: each clears its flag, and at the end none is set.
use Rattle.std.specs.Prelude.{ℕ, zero, suc, Bool, false, ◌&&◌, not, List, [], ◌∷◌}
use Rattle.std.specs.List.{list_any}

abbrev pub is_set : List Bool → ℕ → Bool
is_set [] i = false
is_set (flag ∷ flags) zero = flag
is_set (flag ∷ flags) (suc i) = is_set flags i

-- The flags with that of this number cleared.
abbrev pub cleared : List Bool → ℕ → List Bool
cleared [] i = []
cleared (flag ∷ flags) zero = false ∷ flags
cleared (flag ∷ flags) (suc i) = flag ∷ cleared flags i

abbrev pub are_just_set : List Bool → List ℕ → Bool
are_just_set flags [] = not (list_any (λ flag. flag) flags)
are_just_set flags (i ∷ numbers) = is_set flags i && are_just_set (cleared flags i) numbers
