-- Lists under tests, and read from their ends.
use Rattle.std.proofs.Common.{◌≡◌, Bool, true, false, cond, List, [], ◌∷◌, map, filter, refl, ap, ◌∙◌}
use Rattle.std.specs.Prelude.{◌&&◌, ◌||◌}
use Rattle.std.specs.List.{list_any}

pub any_map : {A B : Type 0} (p : B → Bool) (f : A → B) (xs : List A) → list_any p (map f xs) ≡ list_any (λ x. p (f x)) xs
any_map p f [] = refl
any_map p f (x ∷ xs) = ap (λ (b : Bool). p (f x) || b) (any_map p f xs)

any_kept : {A : Type 0} (p q : A → Bool) (x : A) (xs : List A) (b : Bool) → list_any p (cond b (x ∷ xs) xs) ≡ ((b && p x) || list_any p xs)
any_kept p q x xs true = refl
any_kept p q x xs false = refl

pub any_filter : {A : Type 0} (p q : A → Bool) (xs : List A) → list_any p (filter q xs) ≡ list_any (λ x. q x && p x) xs
any_filter p q [] = refl
any_filter p q (x ∷ xs) = any_kept p q x (filter q xs) (q x) ∙ ap (λ (b : Bool). (q x && p x) || b) (any_filter p q xs)
