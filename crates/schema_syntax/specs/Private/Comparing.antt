-- For private contracts only: how numbers of many digits are compared.
use Rattle.std.specs.Prelude.{◌==◌, ℕ, Bool, true, false, ◌&&◌, ◌||◌, nat_lt, List, [], ◌∷◌, length, if◌then◌else◌}

abbrev pub without_zeros : List ℕ → List ℕ
without_zeros [] = []
without_zeros (b ∷ bs) = if b == 48 then without_zeros bs else b ∷ bs

-- The first digit that differs is greater in the first list.
abbrev pub is_later : List ℕ → List ℕ → Bool
is_later [] bs = false
is_later (a ∷ more) [] = true
is_later (a ∷ more) (b ∷ bs) = nat_lt b a || (a == b && is_later more bs)

-- Of two numbers without leading zeros: the first has more digits, or the same number and a greater digit at the first difference.
abbrev pub is_greater : List ℕ → List ℕ → Bool
is_greater a b = if length a == length b then is_later a b else nat_lt (length b) (length a)
