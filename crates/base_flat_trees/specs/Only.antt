-- The tree of a list that has exactly one.
use Rattle.std.specs.Prelude.{◌≡◌, ℕ, List, [], ◌∷◌, length, refl}
use Rattle.std.proofs.Common.{arith}
use Rattle.base_trees.specs.Rose.{Rose}

pub not_none : (n : ℕ) → n ≡ 0 → n ≡ 1 → ⊥
not_none n h k = absurd (omega (arith, h, k))

abbrev pub only : {L : Type 0} (ts : List (Rose L)) → length ts ≡ 1 → Rose L
only [] h = absurd (not_none 0 refl h)
only (t ∷ ts) h = t
