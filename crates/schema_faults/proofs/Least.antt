-- The first fault in the order written stands at the least place, since places ascend.
use Rattle.std.proofs.Common.{◌≡◌, inl, inr, ℕ, ◌+◌, ◌≤◌, List, [], ◌∷◌, Option, Some, None, refl, sym, ◌∙◌, subst, arith}
use Rattle.schema_faults.specs.Faults.{LookedAt, first_fault}
use Rattle.schema_faults.specs.Shown.{Stands, NoneBelow, NoneAtAll}
use Rattle.schema_syntax.specs.declared.why.SchemaWhy.{SchemaWhy}
use Rattle.schema_faults.specs.declared.faults.DocumentFault.{DocumentFault}

-- the places rise, from this one on
abbrev pub Rising : ℕ → List LookedAt → Type 0
Rising least [] = Unit {0}
Rising least (s ∷ seen) = (least ≤ s.0) × Rising (s.0 + 1) seen

below_all : (a b : ℕ) (seen : List LookedAt) → a ≤ b → NoneBelow b seen → NoneBelow a seen
below_all a b [] le h = tt
below_all a b (s ∷ seen) le h = ((λ why is. let k : b ≤ s.0 = h.0 why is in omega arith), below_all a b seen le h.1)

rising_below : (least : ℕ) (seen : List LookedAt) → Rising least seen → NoneBelow least seen
rising_below least [] h = tt
rising_below least (s ∷ seen) h = ((λ why is. h.0), below_all least (s.0 + 1) seen (let le = h.0 in omega arith) (rising_below (s.0 + 1) seen h.1))

-- the first fault, where places rise
shown_step : (at : ℕ) (r : Option SchemaWhy) (seen : List LookedAt) (f : DocumentFault) → Rising (at + 1) seen
    → (first_fault seen ≡ Some f → Stands f.at f.why seen × NoneBelow f.at seen)
    → first_fault ((at, r) ∷ seen) ≡ Some f → Stands f.at f.why ((at, r) ∷ seen) × NoneBelow f.at ((at, r) ∷ seen)
shown_step at None seen f rising rest is =
    let found = rest is in
    (inr found.0, ((λ why bad. absurd (cc)), found.1))
shown_step at (Some reason) seen f rising rest is =
    let same : at ≡ f.at = cc in
    let why : Some reason ≡ Some f.why = cc in
    (inl (same, why), ((λ w bad. omega arith), below_all f.at (at + 1) seen (omega arith) (rising_below (at + 1) seen rising)))

pub first_shown : (least : ℕ) (seen : List LookedAt) (f : DocumentFault) → Rising least seen → first_fault seen ≡ Some f → Stands f.at f.why seen × NoneBelow f.at seen
first_shown least [] f rising is = absurd (cc)
first_shown least (s ∷ seen) f rising is = shown_step s.0 s.1 seen f rising.1 (first_shown (s.0 + 1) seen f rising.1) is

none_step : (at : ℕ) (r : Option SchemaWhy) (seen : List LookedAt) → (first_fault seen ≡ None → NoneAtAll seen) → first_fault ((at, r) ∷ seen) ≡ None → NoneAtAll ((at, r) ∷ seen)
none_step at None seen rest is = (refl, rest is)
none_step at (Some reason) seen rest is = absurd (cc)

-- and where there is none, no reason stands
pub none_shown : (seen : List LookedAt) → first_fault seen ≡ None → NoneAtAll seen
none_shown [] is = tt
none_shown (s ∷ seen) is = none_step s.0 s.1 seen (none_shown seen) is

-- ---- there is one at most

within : (least : ℕ) (seen : List LookedAt) (at : ℕ) (why : SchemaWhy) → Rising least seen → Stands at why seen → least ≤ at
within least [] at why h here = absurd here
within least (s ∷ seen) at why h (inl here) = let le = h.0 in let same = here.0 in omega arith
within least (s ∷ seen) at why h (inr there) = let le = h.0 in let k = within (s.0 + 1) seen at why h.1 there in omega arith

one_reason : (least : ℕ) (seen : List LookedAt) (at : ℕ) (v w : SchemaWhy) → Rising least seen → Stands at v seen → Stands at w seen → v ≡ w
one_reason least [] at v w h here there = absurd here
one_reason least (s ∷ seen) at v w h (inl here) (inl there) = let e : Some v ≡ Some w = sym here.1 ∙ there.1 in cc
one_reason least (s ∷ seen) at v w h (inl here) (inr there) = let same = here.0 in let k = within (s.0 + 1) seen at w h.1 there in absurd (omega arith)
one_reason least (s ∷ seen) at v w h (inr here) (inl there) = let same = there.0 in let k = within (s.0 + 1) seen at v h.1 here in absurd (omega arith)
one_reason least (s ∷ seen) at v w h (inr here) (inr there) = one_reason (s.0 + 1) seen at v w h.1 here there

least_of : (seen : List LookedAt) (a b : ℕ) (why : SchemaWhy) → NoneBelow a seen → Stands b why seen → a ≤ b
least_of [] a b why h here = absurd here
least_of (s ∷ seen) a b why h (inl here) = let same = here.0 in let k : a ≤ s.0 = h.0 why here.1 in omega arith
least_of (s ∷ seen) a b why h (inr there) = least_of seen a b why h.1 there

pub one_place : (seen : List LookedAt) (a b : ℕ) (v w : SchemaWhy) → Stands a v seen → NoneBelow a seen → Stands b w seen → NoneBelow b seen → a ≡ b
one_place seen a b v w here low there lower =
    let k = least_of seen a b w low there in
    let l = least_of seen b a v lower here in
    omega arith

pub one_fault : (least : ℕ) (seen : List LookedAt) (a b : ℕ) (v w : SchemaWhy) → Rising least seen → Stands a v seen → NoneBelow a seen → Stands b w seen → NoneBelow b seen → (a ≡ b) × (v ≡ w)
one_fault least seen a b v w rising here low there lower =
    let same = one_place seen a b v w here low there lower in
    (same, one_reason least seen b v w rising (subst (λ p. Stands p v seen) same here) there)

pub none_stands : (seen : List LookedAt) (at : ℕ) (why : SchemaWhy) → NoneAtAll seen → Stands at why seen → ⊥
none_stands [] at why h here = here
none_stands (s ∷ seen) at why h (inl here) = let e : Some why ≡ None = sym here.1 ∙ h.0 in cc
none_stands (s ∷ seen) at why h (inr there) = none_stands seen at why h.1 there
