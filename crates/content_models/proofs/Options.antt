-- What an option is where it was made of others.
use Rattle.std.proofs.Common.{◌≡◌, ◌⊎◌, inl, inr, Option, Some, None, Bool, true, false, cond, refl}
use Rattle.content_models.specs.Spots.{over, or_else}

pub over_some : {A B : Type 0} (f : A → B) (o : Option A) (y : B) → over f o ≡ Some y → (x : A) × (o ≡ Some x) × (y ≡ f x)
over_some f None y e = absurd (cc)
over_some f (Some x) y e = (x, refl, cc)

pub or_else_some : {A : Type 0} (o q : Option A) (y : A) → or_else o q ≡ Some y → (o ≡ Some y) ⊎ ((o ≡ None) × (q ≡ Some y))
or_else_some None q y e = inr (refl, e)
or_else_some (Some x) q y e = inl e

pub cond_some : {A : Type 0} (b : Bool) (q : Option A) (y : A) → cond b q None ≡ Some y → (b ≡ true) × (q ≡ Some y)
cond_some true q y e = (refl, e)
cond_some false q y e = absurd (cc)

pub no_some : {A : Type 0} (o : Option A) → ((x : A) → o ≡ Some x → ⊥) → o ≡ None
no_some None n = refl
no_some (Some x) n = absurd (n x refl)
