-- What is known of the attributes behind some of them, which are right.
use Rattle.std.proofs.Common.{◌≡◌, ℕ, zero, suc, ◌+◌, ◌<◌, ◌≤◌, inl, inr, List, [], ◌∷◌, Option, Some, None, true, false, length, get_or, drop, refl, sym, ◌∙◌, ap, subst, arith}
use Rattle.std.specs.Prelude.{MatchOption}
use Rattle.std.proofs.lemmas.List.{drop_more}
use Rattle.std.proofs.lemmas.List.Elements.{All-nil, All-cons}
use Rattle.base_texts.specs.declared.texts.Name.{Name}
use Rattle.validity_rules.specs.Asked.{Attribute}
use Rattle.validity_rules.specs.Attributes.{is_special, left, IsRight, IsWrong, AllRight, FirstWrong}
use Rattle.validity_rules.specs.declared.why.InvalidWhy.{InvalidWhy}

-- what is said of those from number i on says it of all
pub record GoesOn (wanted : List Attribute) (xs : List (Name × List ℕ)) (i : ℕ) : Type 0 where
  pub right : AllRight wanted (left (drop i xs)) → AllRight wanted (left xs)
  pub wrong : (why : InvalidWhy) → FirstWrong wanted why (left (drop i xs)) → FirstWrong wanted why (left xs)

past : {X : Type 0} (xs : List X) (i : ℕ) → length xs ≤ i → drop i xs ≡ []
past [] zero h = refl
past [] (suc i) h = refl
past (x ∷ xs) zero h = absurd (omega (arith, h))
past (x ∷ xs) (suc i) h = past xs i (omega (arith, h))

pub left_special : (x : Name × List ℕ) (xs : List (Name × List ℕ)) → is_special x.0 ≡ true → left (x ∷ xs) ≡ left xs
left_special x xs e = rw e refl

pub left_plain : (x : Name × List ℕ) (xs : List (Name × List ℕ)) → is_special x.0 ≡ false → left (x ∷ xs) ≡ x ∷ left xs
left_plain x xs e = rw e refl

module _ (wanted : List Attribute) (xs : List (Name × List ℕ)) where
  pub all_ahead : GoesOn wanted xs 0
  all_ahead = record { right = λ h. h; wrong = λ why h. h }

  pub all_behind : (i : ℕ) → length xs ≤ i → GoesOn wanted xs i → AllRight wanted (left xs)
  all_behind i h g = g.right (subst (λ ys. AllRight wanted (left ys)) (sym (past xs i h)) (All-nil (IsRight wanted)))

  module _ (i : ℕ) (x : Name × List ℕ) (below : i < length xs) (here : x ≡ get_or xs i x) (g : GoesOn wanted xs i) where
    cut : drop i xs ≡ x ∷ drop (i + 1) xs
    cut = drop_more xs i x below ∙ ap (λ y. y ∷ drop (i + 1) xs) (sym here)

    pub skips : is_special x.0 ≡ true → GoesOn wanted xs (i + 1)
    skips e =
        let same : left (drop i xs) ≡ left (drop (i + 1) xs) = ap left cut ∙ left_special x (drop (i + 1) xs) e in
        record { right = λ h. g.right (subst (λ ys. AllRight wanted ys) (sym same) h); wrong = λ why h. g.wrong why (subst (λ ys. FirstWrong wanted why ys) (sym same) h) }

    pub passes : is_special x.0 ≡ false → IsRight wanted (x.0, x.1) → GoesOn wanted xs (i + 1)
    passes e r =
        let same : left (drop i xs) ≡ x ∷ left (drop (i + 1) xs) = ap left cut ∙ left_plain x (drop (i + 1) xs) e in
        record {
          right = λ h. g.right (subst (λ ys. AllRight wanted ys) (sym same) (All-cons (IsRight wanted) x (left (drop (i + 1) xs)) r h));
          wrong = λ why h. g.wrong why (subst (λ ys. FirstWrong wanted why ys) (sym same) (inr (r, h)));
        }

    pub stops : is_special x.0 ≡ false → (why : InvalidWhy) → IsWrong wanted why (x.0, x.1) → FirstWrong wanted why (left xs)
    stops e why w =
        let same : left (drop i xs) ≡ x ∷ left (drop (i + 1) xs) = ap left cut ∙ left_plain x (drop (i + 1) xs) e in
        g.wrong why (subst (λ ys. FirstWrong wanted why ys) (sym same) (inl w))

pub when_none : {A : Type 0} (P : Type 0) (Q : A → Type 0) (o : Option A) → ((x : A) → o ≡ Some x → ⊥) → MatchOption o P Q → P
when_none P Q None n h = h
when_none P Q (Some x) n h = absurd (n x refl)
