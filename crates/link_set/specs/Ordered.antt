-- Sorted lists. The sort is stable.
use Rattle.std.specs.Prelude.{Bool, List, [], ◌∷◌, if◌then◌else◌}

abbrev pub inserted : {A : Type 0} → (A → A → Bool) → A → List A → List A
inserted before x [] = x ∷ []
inserted before x (y ∷ ys) = if before y x then y ∷ inserted before x ys else x ∷ y ∷ ys

abbrev pub in_order : {A : Type 0} → (A → A → Bool) → List A → List A
in_order before [] = []
in_order before (x ∷ xs) = inserted before x (in_order before xs)
