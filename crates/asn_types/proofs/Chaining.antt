-- References on the way down a type, and the types that they lead to.
use Rattle.std.proofs.Common.{◌≡◌, ℕ, zero, suc, ◌+◌, ◌<◌, Bool, true, false, Option, Some, None, List, [], ◌∷◌, length, All, refl, sym, ap, subst, ◌∙◌, inl, inr, arith}
use Rattle.std.specs.Prelude.{slice_get, option_and_then, IfSome, MatchBool}
use Rattle.base_trees.specs.Rose.{Rose, node, Roses, none, more, list_of, label_of, kids_of, Allowed, AllowedAll}
use Rattle.base_trees.proofs.Roses.{length-list_of}
use Rattle.std.proofs.lemmas.List.Elements.{All-head, All-tail}
use Rattle.asn_types.specs.declared.types.Component.{Component}
use Rattle.asn_types.specs.declared.types.Form.{Form}
use Rattle.asn_types.specs.declared.types.Form.TheVariants as form
use Rattle.asn_types.specs.declared.types.TypeLabel.{TypeLabel}
use Rattle.asn_types.specs.declared.modules.Assignment.{Assignment}
use Rattle.asn_types.specs.Laws.{PartKeepsReferences, ReferenceTakesOne, TypeHasFour, ResolvedIsNoReference, TypesAreWellFormed, PartsAreOfTheModule, TypesHaveTheirParts, ResolvedIsOfTheModule}
use Rattle.asn_types.specs.Modules.{AreWellFormed, IsAssignment, IsModule, IsForm}
use Rattle.asn_types.specs.Parts.{parts_of, MayHave}
use Rattle.asn_types.specs.Refs.{target, body_at, next, follow, is_element, NearRefs, NearRefsOf, ChainsWithin, StandsIn, StandsInSome, IsOf}
use Rattle.asn_types.specs.Roles.{role_of}
use Rattle.asn_types.proofs.Inside.{of-well_formed, next-well_formed, form-well_formed}

-- ---- parts

held : (b : Bool) (A : Type 0) → MatchBool b (Unit {0}) A → b ≡ false → A
held true A h e = absurd cc
held false A h e = h

near-part : (P : ℕ → Type 0) (l : TypeLabel) (i k n : ℕ) (parts : List Component) (ts : Roses TypeLabel) (part : Component) (t : Rose TypeLabel)
    → n ≡ i + k → NearRefsOf P l i parts ts → slice_get parts k ≡ Some part → slice_get (list_of ts) k ≡ Some t → is_element (role_of l n part) ≡ false → NearRefs P t
unfolding NearRefs
near-part P l i k n [] ts part t at h here there inner = absurd cc
near-part P l i k n (c ∷ cs) none part t at h here there inner = absurd cc
near-part P l i zero n (c ∷ cs) (more u us) part t at h here there inner =
    let same : c ≡ part = cc in
    let is : u ≡ t = cc in
    let first : i ≡ n = omega (arith, at) in
    subst (NearRefs P) is (held (is_element (role_of l i c)) (NearRefs P u) h.0 (ap (λ m. is_element (role_of l m c)) first ∙ ap (λ x. is_element (role_of l n x)) same ∙ inner))
near-part P l i (suc k) n (c ∷ cs) (more u us) part t at h here there inner =
    near-part P l (i + 1) k n cs us part t (omega (arith, at)) h.1 here there inner

pub part-keeps : PartKeepsReferences
unfolding ChainsWithin NearRefs
part-keeps M zero l ts i part t h is inner = near-part (λ k. ⊥) l 0 i i (parts_of l.form) ts part t (omega arith) h.1 is.0 is.1 inner
part-keeps M (suc n) l ts i part t h is inner = near-part (λ k. IfSome (body_at M k) (λ u. ChainsWithin M n u)) l 0 i i (parts_of l.form) ts part t (omega arith) h.1 is.0 is.1 inner

-- ---- references

at-some : (Q : Rose TypeLabel → Type 0) (o : Option (Rose TypeLabel)) (u : Rose TypeLabel) → IfSome o Q → o ≡ Some u → Q u
at-some Q None u h e = absurd cc
at-some Q (Some v) u h e = let same : v ≡ u = cc in subst Q same h

leads : (M : List Assignment) (Q : Rose TypeLabel → Type 0) (o : Option ℕ) (u : Rose TypeLabel) → IfSome o (λ k. IfSome (body_at M k) Q) → option_and_then (body_at M) o ≡ Some u → Q u
leads M Q None u h e = absurd cc
leads M Q (Some k) u h e = at-some Q (body_at M k) u h e

pub takes-one : ReferenceTakesOne
unfolding ChainsWithin NearRefs
takes-one M n (node l ts) u h e = leads M (λ v. ChainsWithin M n v) (target l.form) u h.0 e

pub has-four : TypeHasFour
has-four M (node l ts) h = h.0.chains

-- ---- behind references

never-some : (o : Option ℕ) → IfSome o (λ k. ⊥) → o ≡ None
never-some None h = refl
never-some (Some k) h = absurd h

pub body-within : (M : List Assignment) (k : ℕ) → k < length M → (a : Assignment) × (body_at M k ≡ Some a.body)
body-within [] k below = absurd (omega arith)
body-within (a ∷ others) zero below = (a, refl)
body-within (a ∷ others) (suc k) below = body-within others k (omega arith)

-- a reference of a module leads somewhere
leads-on : (M : List Assignment) (f : Form) → IsForm M f → option_and_then (body_at M) (target f) ≡ None → target f ≡ None
leads-on M (form.Ref to) h e = let found = body-within M to h in absurd cc
leads-on M f h e = refl

module _ (M : List Assignment) (is : IsModule M) where
  ends-by : (n : ℕ) (t : Rose TypeLabel) (o : Option (Rose TypeLabel)) → next M t ≡ o → AreWellFormed M t → ((u : Rose TypeLabel) → next M t ≡ Some u → target (label_of (follow M n u)).form ≡ None)
      → target (label_of (elim o as (λ _. Rose TypeLabel) [ None ↦ t | Some u ↦ follow M n u ])).form ≡ None
  ends-by n t None e h further = leads-on M (label_of t).form (form-well_formed M t h) e
  ends-by n t (Some u) e h further = further u e

  ends : (n : ℕ) (t : Rose TypeLabel) → AreWellFormed M t → ChainsWithin M n t → target (label_of (follow M n t)).form ≡ None
  unfolding follow ChainsWithin NearRefs
  ends zero (node l ts) h chains = never-some (target l.form) chains.0
  ends (suc n) t h chains =
      let further : (u : Rose TypeLabel) → AreWellFormed M u → ChainsWithin M n u → target (label_of (follow M n u)).form ≡ None = λ u k c. ends n u k c in
      ends-by n t (next M t) refl h (λ u e. further u (next-well_formed M is t u e) (takes-one M n t u chains e))

pub no-reference : ResolvedIsNoReference
no-reference M t is h = ends M is 4 t h (has-four M t h)

-- ---- the types of a module

pub well-formed : TypesAreWellFormed
well-formed M t is inside = of-well_formed M is t inside

itself : (t : Rose TypeLabel) → StandsIn t t
itself (node l ts) = inl refl

part-among : (us : Roses TypeLabel) (i : ℕ) (t : Rose TypeLabel) → slice_get (list_of us) i ≡ Some t → StandsInSome t us
part-among none i t e = absurd cc
part-among (more u us) zero t e = let same : u ≡ t = cc in inl (subst (λ v. StandsIn v u) same (itself u))
part-among (more u us) (suc i) t e = inr (part-among us i t e)

mutual
  part-inside : (l : TypeLabel) (ts : Roses TypeLabel) (u : Rose TypeLabel) (i : ℕ) (t : Rose TypeLabel) → StandsIn (node l ts) u → slice_get (list_of ts) i ≡ Some t → StandsIn t u
  part-inside l ts (node k us) i t (inl same) e =
      let are : ts ≡ us = cc in
      inr (part-among us i t (subst (λ vs. slice_get (list_of vs) i ≡ Some t) are e))
  part-inside l ts (node k us) i t (inr inside) e = inr (part-inside_some l ts us i t inside e)

  part-inside_some : (l : TypeLabel) (ts us : Roses TypeLabel) (i : ℕ) (t : Rose TypeLabel) → StandsInSome (node l ts) us → slice_get (list_of ts) i ≡ Some t → StandsInSome t us
  part-inside_some l ts none i t inside e = absurd inside
  part-inside_some l ts (more u us) i t (inl inside) e = inl (part-inside l ts u i t inside e)
  part-inside_some l ts (more u us) i t (inr inside) e = inr (part-inside_some l ts us i t inside e)

pub parts-of-module : PartsAreOfTheModule
parts-of-module [] l ts i t inside e = absurd inside
parts-of-module (a ∷ others) l ts i t (inl inside) e = inl (part-inside l ts a.body i t inside e)
parts-of-module (a ∷ others) l ts i t (inr inside) e = inr (parts-of-module others l ts i t inside e)

mutual
  inside-allowed : (t u : Rose TypeLabel) → StandsIn t u → Allowed MayHave u → Allowed MayHave t
  inside-allowed t (node l us) (inl same) h = subst (Allowed MayHave) (sym same) h
  inside-allowed t (node l us) (inr inside) h = inside_some-allowed t us inside h.1

  inside_some-allowed : (t : Rose TypeLabel) (us : Roses TypeLabel) → StandsInSome t us → AllowedAll MayHave us → Allowed MayHave t
  inside_some-allowed t none inside h = absurd inside
  inside_some-allowed t (more u us) (inl inside) h = inside-allowed t u inside h.0
  inside_some-allowed t (more u us) (inr inside) h = inside_some-allowed t us inside h.1

among-allowed : (M others : List Assignment) (t : Rose TypeLabel) → All (IsAssignment M) others → IsOf others t → Allowed MayHave t
among-allowed M [] t all inside = absurd inside
among-allowed M (a ∷ others) t all (inl inside) = inside-allowed t a.body inside (All-head (IsAssignment M) a others all).allowed
among-allowed M (a ∷ others) t all (inr inside) = among-allowed M others t (All-tail (IsAssignment M) a others all) inside

pub of-allowed : (M : List Assignment) → IsModule M → (t : Rose TypeLabel) → IsOf M t → Allowed MayHave t
of-allowed M is t inside = among-allowed M M t is.assignments inside

parts-by : (t : Rose TypeLabel) → Allowed MayHave t → length (kids_of t) ≡ length (parts_of (label_of t).form)
parts-by (node l ts) h = length-list_of ts ∙ h.0

pub have-parts : TypesHaveTheirParts
have-parts M t is inside = parts-by t (of-allowed M is t inside)

bodies-are : (M : List Assignment) (k : ℕ) (u : Rose TypeLabel) → body_at M k ≡ Some u → IsOf M u
bodies-are [] k u e = absurd cc
bodies-are (a ∷ others) zero u e = let same : a.body ≡ u = cc in inl (subst (λ v. StandsIn v a.body) same (itself a.body))
bodies-are (a ∷ others) (suc k) u e = inr (bodies-are others k u e)

next-is : (M : List Assignment) (o : Option ℕ) (u : Rose TypeLabel) → option_and_then (body_at M) o ≡ Some u → IsOf M u
next-is M None u e = absurd cc
next-is M (Some k) u e = bodies-are M k u e

stays-by : (M : List Assignment) (n : ℕ) (t : Rose TypeLabel) (o : Option (Rose TypeLabel)) → next M t ≡ o → IsOf M t → ((u : Rose TypeLabel) → next M t ≡ Some u → IsOf M (follow M n u))
    → IsOf M (elim o as (λ _. Rose TypeLabel) [ None ↦ t | Some u ↦ follow M n u ])
stays-by M n t None e h further = h
stays-by M n t (Some u) e h further = further u e

stays : (M : List Assignment) (n : ℕ) (t : Rose TypeLabel) → IsOf M t → IsOf M (follow M n t)
unfolding follow
stays M zero t h = h
stays M (suc n) t h =
    let further : (u : Rose TypeLabel) → IsOf M u → IsOf M (follow M n u) = λ u k. stays M n u k in
    stays-by M n t (next M t) refl h (λ u e. further u (next-is M (target (label_of t).form) u e))

pub resolved-of-module : ResolvedIsOfTheModule
resolved-of-module M t h = stays M 4 t h
