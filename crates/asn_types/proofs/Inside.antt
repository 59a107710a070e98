-- What a module keeps holds of the types that stand in it, and of those to which they refer.
use Rattle.std.proofs.Common.{◌≡◌, ℕ, zero, suc, ◌<◌, Option, Some, None, List, [], ◌∷◌, length, get_or, All, refl, sym, ap, subst, inl, inr, arith}
use Rattle.std.specs.Prelude.{slice_get, option_and_then}
use Rattle.std.proofs.lemmas.List.Elements.{All-head, All-tail}
use Rattle.base_trees.specs.Rose.{Rose, node, Roses, none, more, roses_of, list_of, kids_of, label_of}
use Rattle.base_trees.proofs.Roses.{roses_of-list_of}
use Rattle.asn_types.specs.declared.types.TypeLabel.{TypeLabel}
use Rattle.asn_types.specs.declared.modules.Assignment.{Assignment}
use Rattle.asn_types.specs.Modules.{AreWellFormed, AllWellFormed, IsAssignment, IsModule, IsForm}
use Rattle.asn_types.specs.Refs.{StandsIn, StandsInSome, IsOf, next, target, body_at, follow}

module _ (M : List Assignment) where
  pub kid-well_formed : (ts : List (Rose TypeLabel)) (i : ℕ) (kid : Rose TypeLabel) → i < length ts → kid ≡ get_or ts i kid → AllWellFormed M (roses_of ts) → AreWellFormed M kid
  kid-well_formed [] i kid below here all = absurd (omega arith)
  kid-well_formed (t ∷ ts) zero kid below here all = subst (AreWellFormed M) (sym here) all.0
  kid-well_formed (t ∷ ts) (suc i) kid below here all = kid-well_formed ts i kid (omega arith) here all.1

  pub kids-well_formed : (t : Rose TypeLabel) → AreWellFormed M t → AllWellFormed M (roses_of (kids_of t))
  kids-well_formed (node l ts) h = subst (AllWellFormed M) (sym (roses_of-list_of ts)) h.1

  mutual
    pub inner-well_formed : (t u : Rose TypeLabel) → StandsIn t u → AreWellFormed M u → AreWellFormed M t
    inner-well_formed t (node l us) (inl same) h = subst (AreWellFormed M) (sym same) h
    inner-well_formed t (node l us) (inr inside) h = among-well_formed t us inside h.1

    among-well_formed : (t : Rose TypeLabel) (us : Roses TypeLabel) → StandsInSome t us → AllWellFormed M us → AreWellFormed M t
    among-well_formed t none inside h = absurd inside
    among-well_formed t (more u us) (inl inside) h = inner-well_formed t u inside h.0
    among-well_formed t (more u us) (inr inside) h = among-well_formed t us inside h.1

  among-assignments : (as' : List Assignment) (t : Rose TypeLabel) → All (IsAssignment M) as' → IsOf as' t → AreWellFormed M t
  among-assignments [] t all inside = absurd inside
  among-assignments (a ∷ others) t all (inl inside) = inner-well_formed t a.body inside (All-head (IsAssignment M) a others all).types
  among-assignments (a ∷ others) t all (inr inside) = among-assignments others t (All-tail (IsAssignment M) a others all) inside

  body-among : (as' : List Assignment) (k : ℕ) (u : Rose TypeLabel) → All (IsAssignment M) as' → body_at as' k ≡ Some u → AreWellFormed M u
  body-among [] k u all some = absurd cc
  body-among (a ∷ others) zero u all some = let same : a.body ≡ u = cc in subst (AreWellFormed M) same (All-head (IsAssignment M) a others all).types
  body-among (a ∷ others) (suc k) u all some = body-among others k u (All-tail (IsAssignment M) a others all) some

  module _ (is : IsModule M) where
    pub of-well_formed : (t : Rose TypeLabel) → IsOf M t → AreWellFormed M t
    of-well_formed t inside = among-assignments M t is.assignments inside

    pub body-well_formed : (k : ℕ) (u : Rose TypeLabel) → body_at M k ≡ Some u → AreWellFormed M u
    body-well_formed k u some = body-among M k u is.assignments some

    from-target : (o : Option ℕ) (u : Rose TypeLabel) → option_and_then (body_at M) o ≡ Some u → AreWellFormed M u
    from-target None u some = absurd cc
    from-target (Some k) u some = body-well_formed k u some

    pub next-well_formed : (t u : Rose TypeLabel) → next M t ≡ Some u → AreWellFormed M u
    next-well_formed t u some = from-target (target (label_of t).form) u some

    one-well_formed : (o : Option (Rose TypeLabel)) (f : Rose TypeLabel → Rose TypeLabel) (t : Rose TypeLabel) → AreWellFormed M t → ((u : Rose TypeLabel) → o ≡ Some u → AreWellFormed M (f u))
        → AreWellFormed M (elim o [ None ↦ t | Some u ↦ f u ])
    one-well_formed None f t h further = h
    one-well_formed (Some u) f t h further = further u refl

    pub follow-well_formed : (n : ℕ) (t : Rose TypeLabel) → AreWellFormed M t → AreWellFormed M (follow M n t)
    unfolding follow
    follow-well_formed zero t h = h
    follow-well_formed (suc n) t h =
        let further : (u : Rose TypeLabel) → AreWellFormed M u → AreWellFormed M (follow M n u) = λ u k. follow-well_formed n u k in
        one-well_formed (next M t) (λ u. follow M n u) t h (λ u e. further u (next-well_formed t u e))

  -- what is asked of the form of a type
  pub form-well_formed : (t : Rose TypeLabel) → AreWellFormed M t → IsForm M (label_of t).form
  form-well_formed (node l ts) h = h.0.form

-- the types of a module, by going down and by following references
self : (t : Rose TypeLabel) → StandsIn t t
self (node l ts) = inl refl

among : (us : Roses TypeLabel) (i : ℕ) (kid : Rose TypeLabel) → i < length (list_of us) → kid ≡ get_or (list_of us) i kid → StandsInSome kid us
among none i kid below here = absurd (omega arith)
among (more u us) zero kid below here = inl (subst (StandsIn kid) here (self kid))
among (more u us) (suc i) kid below here = inr (among us i kid (omega arith) here)

kid-among : (t u : Rose TypeLabel) (i : ℕ) (kid : Rose TypeLabel) → i < length (kids_of t) → kid ≡ get_or (kids_of t) i kid → t ≡ u → StandsIn kid u
kid-among t (node l us) i kid below here same =
    let kids : kids_of t ≡ list_of us = ap kids_of same in
    inr (among us i kid (subst (λ ks. i < length ks) kids below) (subst (λ ks. kid ≡ get_or ks i kid) kids here))

mutual
  stands-kid : (t u : Rose TypeLabel) (i : ℕ) (kid : Rose TypeLabel) → i < length (kids_of t) → kid ≡ get_or (kids_of t) i kid → StandsIn t u → StandsIn kid u
  stands-kid t (node l us) i kid below here (inl same) = kid-among t (node l us) i kid below here same
  stands-kid t (node l us) i kid below here (inr inside) = inr (stands_some-kid t us i kid below here inside)

  stands_some-kid : (t : Rose TypeLabel) (us : Roses TypeLabel) (i : ℕ) (kid : Rose TypeLabel) → i < length (kids_of t) → kid ≡ get_or (kids_of t) i kid → StandsInSome t us → StandsInSome kid us
  stands_some-kid t none i kid below here inside = absurd inside
  stands_some-kid t (more u us) i kid below here (inl inside) = inl (stands-kid t u i kid below here inside)
  stands_some-kid t (more u us) i kid below here (inr inside) = inr (stands_some-kid t us i kid below here inside)

pub kid-of : (M : List Assignment) (t : Rose TypeLabel) (i : ℕ) (kid : Rose TypeLabel) → i < length (kids_of t) → kid ≡ get_or (kids_of t) i kid → IsOf M t → IsOf M kid
kid-of [] t i kid below here inside = absurd inside
kid-of (a ∷ others) t i kid below here (inl inside) = inl (stands-kid t a.body i kid below here inside)
kid-of (a ∷ others) t i kid below here (inr inside) = inr (kid-of others t i kid below here inside)

pub body-of : (M : List Assignment) (n : ℕ) (a : Assignment) → slice_get M n ≡ Some a → IsOf M a.body
body-of [] n a some = absurd cc
body-of (b ∷ others) zero a some = let same : b.body ≡ a.body = cc in inl (subst (λ u. StandsIn u b.body) same (self b.body))
body-of (b ∷ others) (suc n) a some = inr (body-of others n a some)
