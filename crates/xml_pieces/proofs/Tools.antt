-- Options and tests taken apart.
use Rattle.std.proofs.Common.{◌≡◌, ℕ, zero, suc, ◌<◌, ◌≤◌, arith, Bool, true, false, cond, List, Option, Some, None, refl, ap, subst, inl, inr}
use Rattle.std.specs.Prelude.{◌⊎◌, ◌&&◌, ◌||◌, not}
use Rattle.xml_pieces.specs.Reading.{◌>>=◌, ahead, only}

pub ahead_cases : {A B : Type 0} (o : Option A) (x : B) (f : A → B) (y : B) → ahead o x f ≡ y → ((a : A) × (o ≡ Some a) × (f a ≡ y)) ⊎ ((o ≡ None) × (x ≡ y))
ahead_cases (Some a) x f y e = inl (a, refl, e)
ahead_cases None x f y e = inr (refl, e)

pub bind_some : {A B : Type 0} (o : Option A) (f : A → Option B) (y : B) → (o >>= f) ≡ Some y → (x : A) × (o ≡ Some x) × (f x ≡ Some y)
bind_some (Some x) f y e = (x, refl, e)
bind_some None f y e = absurd cc

abbrev pub some : {A : Type 0} → A → Option A
some x = Some x

abbrev pub none_of : {A : Type 0} → A → Option A
none_of x = None

pub never : {A : Type 0} (x : A) → none_of x ≡ some x → ⊥
never x e = cc

pub some_is : {A : Type 0} (x y : A) → some x ≡ some y → x ≡ y
some_is x y e = cc

-- the halves of equal pairs
pub pairs : {A : Type 0} (x y : A × List ℕ) → some x ≡ some y → (x.0 ≡ y.0) × (x.1 ≡ y.1)
pairs {A} x y e = (ap (λ (p : A × List ℕ). p.0) (some_is x y e), ap (λ (p : A × List ℕ). p.1) (some_is x y e))

pub only_some : {A : Type 0} (b : Bool) (o : Option A) (x : A) → only b o ≡ Some x → (b ≡ true) × (o ≡ Some x)
only_some true o x e = (refl, e)
only_some false o x e = absurd cc

pub chosen : {A : Type 0} (b : Bool) (x y z : A) → cond b x y ≡ z → (b ≡ true) × (x ≡ z) ⊎ (b ≡ false) × (y ≡ z)
chosen true x y z e = inl (refl, e)
chosen false x y z e = inr (refl, e)

pub and_true : (a b : Bool) → (a && b) ≡ true → (a ≡ true) × (b ≡ true)
and_true true b e = (refl, e)
and_true false b e = absurd cc

pub or_false : (a b : Bool) → (a || b) ≡ false → (a ≡ false) × (b ≡ false)
or_false true b e = absurd cc
or_false false b e = (refl, e)

pub not_true : (b : Bool) → not b ≡ true → b ≡ false
not_true true e = absurd cc
not_true false e = refl

pub not_false : (b : Bool) → not b ≡ false → b ≡ true
not_false true e = refl
not_false false e = absurd cc

pub below_or : (a b : ℕ) → (a < b) ⊎ (b ≤ a)
below_or a zero = inr (omega arith)
below_or zero (suc b) = inl (omega arith)
below_or (suc a) (suc b) = elim (below_or a b) [ inl h ↦ inl (omega (arith, h)) | inr h ↦ inr (omega (arith, h)) ]

pub and_false : (a : Bool) → (a && false) ≡ false
and_false true = refl
and_false false = refl

-- a test that holds at each number below a bound
abbrev pub below : ℕ → (ℕ → Bool) → Bool
below zero p = true
below (suc n) p = p n && below n p

pub below_at : (n : ℕ) (p : ℕ → Bool) (k : ℕ) → k < n → below n p ≡ true → p k ≡ true
below_at zero p k lt e = absurd (omega (arith, lt))
below_at (suc n) p k lt e =
    let both = and_true (p n) (below n p) e in
    elim (below_or k n) [
      | inl less ↦ below_at n p k less both.1
      | inr ge ↦ (let same : n ≡ k = omega (arith, ge, lt) in subst (λ (x : ℕ). p x ≡ true) same both.0)
    ]

-- a test that implies another, at each number below a bound
pub implied : (n : ℕ) (p q : ℕ → Bool) (k : ℕ) → k < n → below n (λ x. not (p x) || q x) ≡ true → p k ≡ true → q k ≡ true
implied n p q k lt e holds =
    let h : (not (p k) || q k) ≡ true = below_at n (λ x. not (p x) || q x) k lt e in
    subst (λ (b : Bool). (not b || q k) ≡ true) holds h

pub tells : (b : Bool) → (b ≡ true) ⊎ (b ≡ false)
tells true = inl refl
tells false = inr refl
