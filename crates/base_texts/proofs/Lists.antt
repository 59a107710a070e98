-- What stands in a list that is joined.
use Rattle.std.proofs.Common.{◌≡◌, ◌⊎◌, inl, inr, List, [], ◌∷◌, ◌++◌, refl}
use Rattle.base_texts.specs.Lists.{HasItem}

pub has_left : {A : Type 0} (xs ys : List A) (z : A) → HasItem xs z → HasItem (xs ++ ys) z
has_left [] ys z h = absurd h
has_left (x ∷ xs) ys z (inl e) = inl e
has_left (x ∷ xs) ys z (inr h) = inr (has_left xs ys z h)

pub has_right : {A : Type 0} (xs ys : List A) (z : A) → HasItem ys z → HasItem (xs ++ ys) z
has_right [] ys z h = h
has_right (x ∷ xs) ys z h = inr (has_right xs ys z h)

-- with one more at the end

pub in_parts : {A : Type 0} (xs : List A) (y z : A) → HasItem (xs ++ y ∷ []) z → HasItem xs z ⊎ (y ≡ z)
in_parts [] y z (inl e) = inr e
in_parts [] y z (inr h) = absurd h
in_parts (x ∷ xs) y z (inl e) = inl (inl e)
in_parts (x ∷ xs) y z (inr h) = elim (in_parts xs y z h) [ inl k ↦ inl (inr k) | inr e ↦ inr e ]

pub in_front : {A : Type 0} (xs : List A) (y z : A) → HasItem xs z → HasItem (xs ++ y ∷ []) z
in_front xs y z h = has_left xs (y ∷ []) z h

pub in_end : {A : Type 0} (xs : List A) (y : A) → HasItem (xs ++ y ∷ []) y
in_end xs y = has_right xs (y ∷ []) y (inl refl)
