-- The order that numbers give (USE-ORDER of X.693): each number selects the content of its slot.
use Rattle.std.specs.Prelude.{ℕ, zero, suc, ◌-◌, Bool, true, false, Option, Some, None, List, [], ◌∷◌, ◌++◌, length, take, drop}
use Rattle.simple_types.specs.Labels.{count_set}

-- A slot for each flag, which is filled if the flag is set.
abbrev pub slots : {A : Type 0} → List Bool → List A → List (Option A)
slots (true ∷ flags) (x ∷ xs) = Some x ∷ slots flags xs
slots (false ∷ flags) xs = None ∷ slots flags xs
slots _ _ = []

abbrev pub slot_at : {A : Type 0} → List (Option A) → ℕ → Option A
slot_at [] i = None
slot_at (slot ∷ others) zero = slot
slot_at (slot ∷ others) (suc i) = slot_at others i

abbrev pub emptied : {A : Type 0} → List (Option A) → ℕ → List (Option A)
emptied [] i = []
emptied (slot ∷ others) zero = None ∷ others
emptied (slot ∷ others) (suc i) = slot ∷ emptied others i

abbrev pub put_some : {A : Type 0} → Option A → List A → List A
put_some None xs = xs
put_some (Some x) xs = x ∷ xs

abbrev pub taken : {A : Type 0} → List (Option A) → List ℕ → List A
taken slots [] = []
taken slots (i ∷ numbers) = put_some (slot_at slots i) (taken (emptied slots i) numbers)

-- The last elements, one for each flag that is set, are in the order of these numbers. Those before them stay.
abbrev pub in_order : {A : Type 0} → List Bool → List ℕ → List A → List A
in_order flags numbers xs =
    let front = length xs - count_set flags in
    take front xs ++ taken (slots flags (drop front xs)) numbers
