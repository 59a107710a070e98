-- What is said of attributes: they are right and stand, or one is the first at fault.
use Rattle.std.proofs.Common.{◌≡◌, ℕ, suc, ◌⊎◌, inl, inr, List, [], ◌∷◌, Option, Some, None, Bool, true, false, refl, sym, ◌∙◌, subst, arith}
use Rattle.std.specs.Prelude.{Ok, Err, bytes_eq}
use Rattle.std.proofs.lemmas.Slice.Eq.{bytes_eq-Decides}
use Rattle.std.proofs.lemmas.List.Elements.{All-nil, All-cons, All-head, All-tail}
use Rattle.base_texts.specs.declared.texts.Name.{Name}
use Rattle.base_trees.specs.Rose.{Rose}
use Rattle.simple_types.specs.declared.labels.ValueLabel.{ValueLabel}
use Rattle.simple_types.specs.declared.standards.Standard.{Standard}
use Rattle.simple_types.specs.declared.standards.Standard.TheVariants.{Free, Default, Fixed}
use Rattle.simple_types.specs.Reading.{Wide, Bad, Reading, reads, spelled}
use Rattle.validity_rules.specs.Asked.{Attribute}
use Rattle.validity_rules.specs.Attributes.{text_of, declared, Refuses, IsFixedTo, IsOtherThanFixed, Takes, Declines, IsRight, IsWrong, FirstWrong, AllRight, Stands, IsMissing, AllStand, OneMissing}
use Rattle.validity_rules.specs.declared.why.InvalidWhy.{InvalidWhy}
use Rattle.validity_rules.specs.declared.why.InvalidWhy.TheVariants.{UnknownAttribute, BadAttribute, TooWide}

-- ---- a text

pub accepted_not_refused : (r : Reading) (value : Rose ValueLabel) (bad why : InvalidWhy) → r ≡ Ok value → Refuses r bad why → ⊥
accepted_not_refused (Ok v) value bad why e h = h
accepted_not_refused (Err Bad) value bad why e h = cc
accepted_not_refused (Err Wide) value bad why e h = cc

pub one_refusal : (r : Reading) (bad why what : InvalidWhy) → Refuses r bad why → Refuses r bad what → why ≡ what
one_refusal (Ok v) bad why what h k = absurd h
one_refusal (Err Bad) bad why what h k = cc
one_refusal (Err Wide) bad why what h k = cc

pub accepted_or : (r : Reading) (bad : InvalidWhy) → ((value : Rose ValueLabel) × (r ≡ Ok value)) ⊎ ((why : InvalidWhy) × Refuses r bad why)
accepted_or (Ok v) bad = inl (v, refl)
accepted_or (Err Bad) bad = inr (bad, refl)
accepted_or (Err Wide) bad = inr (TooWide, refl)

-- ---- a value constraint

fixed_not_other : (c : Standard) (text : List ℕ) → IsFixedTo c text → IsOtherThanFixed c text → ⊥
fixed_not_other Free text h k = k
fixed_not_other (Default other) text h k = k
fixed_not_other (Fixed other) text h k = k h

same_bytes : (a b : List ℕ) → (a ≡ b) ⊎ (a ≡ b → ⊥)
same_bytes a b = go (bytes_eq a b) refl
  where
    go : (is : Bool) → bytes_eq a b ≡ is → (a ≡ b) ⊎ (a ≡ b → ⊥)
    go true e = inl ((bytes_eq-Decides a b).0 e)
    go false e = inr (λ q. let d = (bytes_eq-Decides a b).1 q in cc (e, d))

fixed_or_other : (c : Standard) (text : List ℕ) → IsFixedTo c text ⊎ IsOtherThanFixed c text
fixed_or_other Free text = inl tt
fixed_or_other (Default other) text = inl tt
fixed_or_other (Fixed other) text = same_bytes text other

-- ---- one attribute

same_value : (r : Reading) (v w : Rose ValueLabel) → r ≡ Ok v → r ≡ Ok w → v ≡ w
same_value r v w h k = cc

module _ (a : Attribute) (text : List ℕ) where
  takes_or_declines : Takes a text → (why : InvalidWhy) → Declines a text why → ⊥
  takes_or_declines (v, e, f) why (inl h) = accepted_not_refused (reads a.space text) v BadAttribute why e h
  takes_or_declines (v, e, f) why (inr (w, q, o, n)) =
      fixed_not_other a.standard (spelled a.space v) f (subst (λ z. IsOtherThanFixed a.standard (spelled a.space z)) (same_value (reads a.space text) w v q e) o)

  one_decline : (why what : InvalidWhy) → Declines a text why → Declines a text what → why ≡ what
  one_decline why what (inl h) (inl k) = one_refusal (reads a.space text) BadAttribute why what h k
  one_decline why what (inl h) (inr (v, e, o, n)) = absurd (accepted_not_refused (reads a.space text) v BadAttribute why e h)
  one_decline why what (inr (v, e, o, n)) (inl k) = absurd (accepted_not_refused (reads a.space text) v BadAttribute what e k)
  one_decline why what (inr (v, e, o, n)) (inr (w, q, p, m)) = n ∙ sym m

  taken_or : Takes a text ⊎ ((why : InvalidWhy) × Declines a text why)
  taken_or = go (accepted_or (reads a.space text) BadAttribute)
    where
      fixed : (v : Rose ValueLabel) → reads a.space text ≡ Ok v → IsFixedTo a.standard (spelled a.space v) ⊎ IsOtherThanFixed a.standard (spelled a.space v)
          → Takes a text ⊎ ((why : InvalidWhy) × Declines a text why)
      fixed v e (inl f) = inl (v, e, f)
      fixed v e (inr o) = inr (BadAttribute, inr (v, e, o, refl))

      go : ((v : Rose ValueLabel) × (reads a.space text ≡ Ok v)) ⊎ ((why : InvalidWhy) × Refuses (reads a.space text) BadAttribute why)
          → Takes a text ⊎ ((why : InvalidWhy) × Declines a text why)
      go (inl (v, e)) = fixed v e (fixed_or_other a.standard (spelled a.space v))
      go (inr (why, h)) = inr (why, inl h)

module _ (wanted : List Attribute) where
  abbrev Right : Option Attribute → List ℕ → Type 0
  Right o text = elim o [ None ↦ ⊥ | Some a ↦ Takes a text ]

  abbrev Wrong : Option Attribute → List ℕ → InvalidWhy → Type 0
  Wrong o text why = elim o [ None ↦ why ≡ UnknownAttribute | Some a ↦ Declines a text why ]

  not_both : (o : Option Attribute) (text : List ℕ) (why : InvalidWhy) → Right o text → Wrong o text why → ⊥
  not_both None text why h k = h
  not_both (Some a) text why h k = takes_or_declines a text h why k

  one_wrong : (o : Option Attribute) (text : List ℕ) (why what : InvalidWhy) → Wrong o text why → Wrong o text what → why ≡ what
  one_wrong None text why what h k = cc
  one_wrong (Some a) text why what h k = one_decline a text why what h k

  right_or_wrong : (o : Option Attribute) (text : List ℕ) → Right o text ⊎ ((why : InvalidWhy) × Wrong o text why)
  right_or_wrong None text = inr (UnknownAttribute, refl)
  right_or_wrong (Some a) text = taken_or a text

  -- ---- all of them

  pub right_never_wrong : (why : InvalidWhy) (xs : List (Name × List ℕ)) → AllRight wanted xs → FirstWrong wanted why xs → ⊥
  right_never_wrong why [] h k = k
  right_never_wrong why (x ∷ xs) h (inl k) = not_both (declared wanted x.0) x.1 why (All-head (IsRight wanted) x xs h) k
  right_never_wrong why (x ∷ xs) h (inr k) = right_never_wrong why xs (All-tail (IsRight wanted) x xs h) k.1

  pub one_first_wrong : (why what : InvalidWhy) (xs : List (Name × List ℕ)) → FirstWrong wanted why xs → FirstWrong wanted what xs → why ≡ what
  one_first_wrong why what [] h k = absurd h
  one_first_wrong why what (x ∷ xs) (inl h) (inl k) = one_wrong (declared wanted x.0) x.1 why what h k
  one_first_wrong why what (x ∷ xs) (inl h) (inr k) = absurd (not_both (declared wanted x.0) x.1 why k.0 h)
  one_first_wrong why what (x ∷ xs) (inr h) (inl k) = absurd (not_both (declared wanted x.0) x.1 what h.0 k)
  one_first_wrong why what (x ∷ xs) (inr h) (inr k) = one_first_wrong why what xs h.1 k.1

  pub all_right_or : (xs : List (Name × List ℕ)) → AllRight wanted xs ⊎ ((why : InvalidWhy) × FirstWrong wanted why xs)
  all_right_or [] = inl (All-nil (IsRight wanted))
  all_right_or (x ∷ xs) = go (right_or_wrong (declared wanted x.0) x.1) (all_right_or xs)
    where
      go : IsRight wanted x ⊎ ((why : InvalidWhy) × IsWrong wanted why x) → AllRight wanted xs ⊎ ((why : InvalidWhy) × FirstWrong wanted why xs)
          → AllRight wanted (x ∷ xs) ⊎ ((why : InvalidWhy) × FirstWrong wanted why (x ∷ xs))
      go (inr h) k = inr (h.0, inl h.1)
      go (inl h) (inl k) = inl (All-cons (IsRight wanted) x xs h k)
      go (inl h) (inr k) = inr (k.0, inr (h, k.1))

-- ---- those that are required

module _ (xs : List (Name × List ℕ)) where
  pub stand_not_missing : (wanted : List Attribute) → AllStand wanted xs → OneMissing wanted xs → ⊥
  stand_not_missing wanted h (k, a, lt, at, (q, n)) = h k a lt (rw at q) (rw at n)

  stands_or : (a : Attribute) (b : Bool) → a.required ≡ b → (o : Option (List ℕ)) → text_of xs a.name ≡ o → Stands xs a ⊎ IsMissing xs a
  stands_or a false e o q = inl (λ f n. cc (e, f))
  stands_or a true e None q = inr (e, q)
  stands_or a true e (Some text) q = inl (λ f n. cc (q, n))

  pub all_stand_or : (wanted : List Attribute) → AllStand wanted xs ⊎ OneMissing wanted xs
  all_stand_or [] = inl (All-nil (Stands xs))
  all_stand_or (a ∷ wanted) = go (stands_or a a.required refl (text_of xs a.name) refl) (all_stand_or wanted)
    where
      go : Stands xs a ⊎ IsMissing xs a → AllStand wanted xs ⊎ OneMissing wanted xs → AllStand (a ∷ wanted) xs ⊎ OneMissing (a ∷ wanted) xs
      go (inr h) k = inr (0, a, omega arith, refl, h)
      go (inl h) (inl k) = inl (All-cons (Stands xs) a wanted h k)
      go (inl h) (inr (k, b, lt, at, m)) = inr (suc k, b, omega arith, at, m)
