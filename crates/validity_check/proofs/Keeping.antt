-- Plans that are kept.
use Rattle.std.proofs.Common.{◌≡◌, ◌⊎◌, inl, inr, ℕ, zero, suc, ◌<◌, List, [], ◌∷◌, ◌++◌, Option, Some, None, true, ltb, length, get_or, refl, sym, ◌∙◌, ap, subst, arith}
use Rattle.std.proofs.lemmas.Bool.{ltb-true, lt-ltb}
use Rattle.std.specs.Prelude.{slice_get}
use Rattle.std.proofs.Math.ListN.{set}
use Rattle.base_trees.specs.Rose.{Rose}
use Rattle.content_models.specs.declared.particles.ParticleLabel.{ParticleLabel}
use Rattle.content_models.specs.Seen.{seen}
use Rattle.schema_components.specs.declared.components.ComplexDef.{ComplexDef}
use Rattle.schema_components.specs.Components.{Set, model_of}
use Rattle.validity_check.specs.Told.{model_at}
use Rattle.validity_check.specs.Kept.{KeptPlan, IsPlanAt, ArePlans}

abbrev pub AreNone : {A : Type 0} → List (Option A) → Type 0
AreNone {A} xs = (n : ℕ) (o : Option A) → slice_get xs n ≡ Some o → o ≡ None

pub no_plans : {A : Type 0} → AreNone {A = A} []
no_plans n o e = absurd (cc)

pub one_none_more : {A : Type 0} (xs : List (Option A)) → AreNone xs → AreNone (xs ++ None ∷ [])
one_none_more [] h zero o e = cc
one_none_more [] h (suc n) o e = absurd (cc)
one_none_more (x ∷ xs) h zero o e = h zero o e
one_none_more (x ∷ xs) h (suc n) o e = one_none_more xs (λ m p q. h (suc m) p q) n o e

none_at : (s : Set) (n : ℕ) (o : Option KeptPlan) → o ≡ None → IsPlanAt s n o
none_at s n None e = tt
none_at s n (Some plan) e = absurd (cc)

pub none_kept : (s : Set) (kept : List (Option KeptPlan)) → length kept ≡ length s.complexes → AreNone kept → ArePlans s kept
none_kept s kept e h = record { count = e; plans = λ n o q. none_at s n o (h n o q) }

set_length : {A : Type 0} (xs : List A) (n : ℕ) (v : A) → length (set xs n v) ≡ length xs
set_length [] n v = refl
set_length (x ∷ xs) zero v = refl
set_length (x ∷ xs) (suc n) v = ap suc (set_length xs n v)

-- an element of a list in which one was written
set_cases : {A : Type 0} (xs : List A) (n m : ℕ) (v w : A) → slice_get (set xs n v) m ≡ Some w → ((m ≡ n) × (w ≡ v)) ⊎ (slice_get xs m ≡ Some w)
set_cases [] n m v w e = absurd (cc)
set_cases (x ∷ xs) zero zero v w e = inl (refl, cc)
set_cases (x ∷ xs) zero (suc m) v w e = inr e
set_cases (x ∷ xs) (suc n) zero v w e = inr e
set_cases (x ∷ xs) (suc n) (suc m) v w e = elim (set_cases xs n m v w e) [ inl h ↦ inl (ap suc h.0, h.1) | inr h ↦ inr h ]

plan_there : (s : Set) (m : ℕ) (n : ℕ) (o : Option KeptPlan) (plan : KeptPlan) (model : Rose ParticleLabel) → m ≡ n → o ≡ Some plan → model_at s n ≡ Some model → plan.value ≡ seen model → IsPlanAt s m o
plan_there s m n o plan model e f q h = subst (λ i. IsPlanAt s i o) (sym e) (subst (λ p. IsPlanAt s n p) (sym f) (model, q, h))

-- one more plan is kept
pub more_kept : (s : Set) (kept : List (Option KeptPlan)) → ArePlans s kept → (n : ℕ) (plan : KeptPlan) (m : Rose ParticleLabel) → model_at s n ≡ Some m → plan.value ≡ seen m → ArePlans s (set kept n (Some plan))
more_kept s kept k n plan model e f = record {
  count = set_length kept n (Some plan) ∙ k.count;
  plans = λ m o q. elim (set_cases kept n m (Some plan) o q) [ inl h ↦ plan_there s m n o plan model h.0 h.1 e f | inr h ↦ k.plans m o h ];
}

-- an element that a look-up finds
pub found_at : {A : Type 0} (xs : List A) (i : ℕ) (x : A) → true ≡ ltb i (length xs) → x ≡ get_or xs i x → slice_get xs i ≡ Some x
found_at [] i x within is = absurd (let below = ltb-true i 0 (sym within) in omega arith)
found_at (y ∷ ys) zero x within is = ap (λ z. Some z) (sym is)
found_at (y ∷ ys) (suc i) x within is = found_at ys i x (let below = ltb-true (suc i) (suc (length ys)) (sym within) in sym (lt-ltb i (length ys) (omega arith))) is

-- a content model has a number below the count of complex types
pub model_below : (s : Set) (n : ℕ) (m : Rose ParticleLabel) → model_at s n ≡ Some m → n < length s.complexes
model_below s n m e = go s.complexes n e
  where
    go : (cs : List ComplexDef) (n : ℕ) → elim (slice_get cs n) as (λ _. Option (Rose ParticleLabel)) [ None ↦ None | Some c ↦ model_of c.content ] ≡ Some m → n < length cs
    go [] n e = absurd (cc)
    go (c ∷ cs) zero e = omega arith
    go (c ∷ cs) (suc n) e = omega (arith, go cs n e)
