-- The first attribute that is wrong, as it is found from the last attribute on.
use Rattle.std.proofs.Common.{◌≡◌, ℕ, zero, suc, ◌+◌, ◌≤◌, inl, inr, true, false, List, [], ◌∷◌, Option, Some, None, length, get_or, drop, refl, sym, ◌∙◌, ap, subst, arith}
use Rattle.std.specs.Prelude.{Result, Ok, Err, IfOk, MatchOption}
use Rattle.std.specs.Option.{option_or}
use Rattle.std.proofs.lemmas.List.{drop_more}
use Rattle.std.proofs.lemmas.List.Elements.{All-nil, All-cons}
use Rattle.base_texts.specs.declared.texts.Name.{Name}
use Rattle.validity_rules.specs.Asked.{Attribute}
use Rattle.validity_rules.specs.Attributes.{is_special, left, IsRight, IsWrong, AllRight, FirstWrong}
use Rattle.validity_rules.specs.declared.why.InvalidWhy.{InvalidWhy}
use Rattle.validity_check.specs.First.{IsFirst}
use Rattle.validity_check.proofs.Going.{left_special, left_plain}

past : {X : Type 0} (xs : List X) (i : ℕ) → length xs ≤ i → drop i xs ≡ []
past [] zero h = refl
past [] (suc i) h = refl
past (x ∷ xs) zero h = absurd (omega (arith, h))
past (x ∷ xs) (suc i) h = past xs i (omega (arith, h))

module _ (wanted : List Attribute) (xs : List (Name × List ℕ)) where
  pub none_behind : IsFirst wanted (drop (length xs) xs) None
  none_behind = subst (λ ys. IsFirst wanted ys None) (sym (past xs (length xs) (omega arith))) (All-nil (IsRight wanted))

  pub one_before : (from left : ℕ) → from ≤ length xs → from ≡ left + 1 → (x : Name × List ℕ) → x ≡ get_or xs left x → (first : Option InvalidWhy)
      → IsFirst wanted (x ∷ drop from xs) first → IsFirst wanted (drop left xs) first
  one_before from left within step x is first h =
      let cut : drop left xs ≡ x ∷ drop from xs = drop_more xs left x (omega (arith, within, step)) ∙ ap (λ y. y ∷ drop (left + 1) xs) (sym is) ∙ ap (λ n. x ∷ drop n xs) (sym step) in
      subst (λ ys. IsFirst wanted ys first) (sym cut) h

module _ (wanted : List Attribute) (x : Name × List ℕ) where
  -- what is said of one attribute and those behind it, where this is why it is wrong, if it is
  abbrev pub Leads : Option InvalidWhy → Type 0
  Leads fault = (xs : List (Name × List ℕ)) (behind : Option InvalidWhy) → IsFirst wanted xs behind → IsFirst wanted (x ∷ xs) (option_or fault behind)

  pub passed : is_special x.0 ≡ true → Leads None
  passed e xs behind h = subst (λ ys. MatchOption behind (AllRight wanted ys) (λ why. FirstWrong wanted why ys)) (sym (left_special x xs e)) h

  judged : is_special x.0 ≡ false → (fault : Option InvalidWhy) → MatchOption fault (IsRight wanted x) (λ why. IsWrong wanted why x) → Leads fault
  judged e (Some why) w xs behind h = subst (λ ys. FirstWrong wanted why ys) (sym (left_plain x xs e)) (inl w)
  judged e None r xs None h = subst (λ ys. AllRight wanted ys) (sym (left_plain x xs e)) (All-cons (IsRight wanted) x (left xs) r h)
  judged e None r xs (Some why) h = subst (λ ys. FirstWrong wanted why ys) (sym (left_plain x xs e)) (inr (r, h))

  pub all_judged : is_special x.0 ≡ false → {E : Type 0} (r : Result (Option InvalidWhy) E) → IfOk r (λ fault. MatchOption fault (IsRight wanted x) (λ why. IsWrong wanted why x)) → IfOk r Leads
  all_judged e (Ok fault) h = judged e fault h
  all_judged e (Err other) h = tt
