-- What holds of each item of a list.
use Rattle.std.proofs.Common.{◌≡◌, Bool, true, false, List, [], ◌∷◌, ◌++◌, map, refl}
use Rattle.std.specs.Prelude.{◌||◌}
use Rattle.std.specs.List.{list_any}

abbrev pub Each : {A : Type 0} → (A → Type 0) → List A → Type 0
Each F [] = Unit {0}
Each F (x ∷ xs) = F x × Each F xs

pub each_by : {A : Type 0} (F G : A → Type 0) → ((x : A) → F x → G x) → (xs : List A) → Each F xs → Each G xs
each_by F G h [] f = tt
each_by F G h (x ∷ xs) f = (h x f.0, each_by F G h xs f.1)

pub each_both : {A : Type 0} (F G : A → Type 0) (xs : List A) → Each F xs → Each G xs → Each (λ x. F x × G x) xs
each_both F G [] f g = tt
each_both F G (x ∷ xs) f g = ((f.0, g.0), each_both F G xs f.1 g.1)

pub each_append : {A : Type 0} (F : A → Type 0) (xs ys : List A) → Each F xs → Each F ys → Each F (xs ++ ys)
each_append F [] ys f g = g
each_append F (x ∷ xs) ys f g = (f.0, each_append F xs ys f.1 g)

pub each_parts : {A : Type 0} (F : A → Type 0) (xs ys : List A) → Each F (xs ++ ys) → Each F xs × Each F ys
each_parts F [] ys h = (tt, h)
each_parts F (x ∷ xs) ys h = let parts = each_parts F xs ys h.1 in ((h.0, parts.0), parts.1)

pub each_map : {A B : Type 0} (F : B → Type 0) (f : A → B) (xs : List A) → Each (λ x. F (f x)) xs → Each F (map f xs)
each_map F f [] h = tt
each_map F f (x ∷ xs) h = (h.0, each_map F f xs h.1)

pub each_of_map : {A B : Type 0} (F : B → Type 0) (f : A → B) (xs : List A) → Each F (map f xs) → Each (λ x. F (f x)) xs
each_of_map F f [] h = tt
each_of_map F f (x ∷ xs) h = (h.0, each_of_map F f xs h.1)

pub none_any : {A : Type 0} (p : A → Bool) (xs : List A) → Each (λ x. p x ≡ false) xs → list_any p xs ≡ false
none_any p [] h = refl
none_any p (x ∷ xs) h = rw h.0 (none_any p xs h.1)

pub any_none : {A : Type 0} (p : A → Bool) (xs : List A) → list_any p xs ≡ false → Each (λ x. p x ≡ false) xs
any_none p [] e = tt
any_none p (x ∷ xs) e = let parts = or_false (p x) (list_any p xs) e in (parts.0, any_none p xs parts.1)
  where
    or_false : (a b : Bool) → (a || b) ≡ false → (a ≡ false) × (b ≡ false)
    or_false true b e = absurd cc
    or_false false b e = (refl, e)
