-- The texts of attributes in the order of the uses, as they are found from the last attribute on.
use Rattle.std.proofs.Common.{◌≡◌, ◌≢◌, ℕ, zero, suc, ◌+◌, ◌<◌, ◌≤◌, ◌⊎◌, inl, inr, Bool, true, false, List, [], ◌∷◌, Option, Some, None, length, get_or, set, drop, replicate, refl, sym, ◌∙◌, ap, subst, arith}
use denote.Ref.{Bor}
use Rattle.std.proofs.lemmas.List.{get_or-set_same, get_or-set_other, length-set, length-replicate, drop_more}
use Rattle.base_texts.specs.declared.texts.Name.{Name}
use Rattle.base_texts.specs.Names.{name_eq}
use Rattle.base_texts.proofs.NameLaws.{name_eq-Decides}
use Rattle.schema_components.specs.declared.components.AttributeUse.{AttributeUse}
use Rattle.validity_rules.specs.Attributes.{text_of}
use Rattle.validity_check.specs.declared.places.Run.{Run}
use Rattle.validity_check.specs.Ascending.{Ascend}
use Rattle.validity_check.specs.Uses.{IsRun, IsPlace}
use Rattle.validity_check.specs.Texts.{told, AreTexts}
use Rattle.validity_check.proofs.Ordered.{before, less_apart}

-- the texts of the attributes from this number on are found
pub record FoundFrom (xs : List (Name × List ℕ)) (us : List AttributeUse) (from : ℕ) (found : List (Option (Bor (List ℕ)))) (known : Run) : Type 0 where
  pub within : from ≤ length xs
  pub texts : AreTexts (drop from xs) us found
  pub run : IsRun us known

-- those of all attributes, where none is left before this number
pub all_found : (xs : List (Name × List ℕ)) (us : List AttributeUse) (from : ℕ) (found : List (Option (Bor (List ℕ)))) (known : Run) → from ≤ 0 → FoundFrom xs us from found known → AreTexts xs us found
all_found xs us from found known none h = let start : from ≡ 0 = omega (arith, none) in subst (λ n. AreTexts (drop n xs) us found) start h.texts

past : {X : Type 0} (xs : List X) (i : ℕ) → length xs ≤ i → drop i xs ≡ []
past [] zero h = refl
past [] (suc i) h = refl
past (x ∷ xs) zero h = absurd (omega (arith, h))
past (x ∷ xs) (suc i) h = past xs i (omega (arith, h))

none_at : (n k : ℕ) (t : Option (Bor (List ℕ))) → k < n → get_or (replicate n None) k t ≡ None
none_at zero k t h = absurd (omega (arith, h))
none_at (suc n) zero t h = refl
none_at (suc n) (suc k) t h = none_at n k t (omega (arith, h))

first_found : (x : Name × List ℕ) (xs : List (Name × List ℕ)) (n : Name) → x.0 ≡ n → text_of (x ∷ xs) n ≡ Some x.1
first_found x xs n same = let e : name_eq x.0 n ≡ true = (name_eq-Decides x.0 n).1 same in rw e refl

passed : (x : Name × List ℕ) (xs : List (Name × List ℕ)) (n : Name) → name_eq x.0 n ≡ false → text_of (x ∷ xs) n ≡ text_of xs n
passed x xs n e = rw e refl

-- equality tells the same of names in either order
turned : (a b : Name) → name_eq a b ≡ false → name_eq b a ≡ false
turned a b e = go (name_eq b a) refl
  where
    go : (r : Bool) → name_eq b a ≡ r → name_eq b a ≡ false
    go false h = h
    go true h = absurd (let same : a ≡ b = sym ((name_eq-Decides b a).0 h) in let yes : name_eq a b ≡ true = (name_eq-Decides a b).1 same in cc (yes, e))

module _ (us : List AttributeUse) where
  nothing_found : AreTexts [] us (replicate (length us) None)
  nothing_found = record { counted = length-replicate (length us) None; each = λ k t u below. ap told (none_at (length us) k t below) }

  pub none_yet : (xs : List (Name × List ℕ)) (texts : List (Option (Bor (List ℕ)))) (run : Run) → texts ≡ replicate (length us) None → IsRun us run → FoundFrom xs us (length xs) texts run
  none_yet xs texts run e r = record {
    within = omega arith;
    texts = subst (λ ys. AreTexts ys us texts) (sym (past xs (length xs) (omega arith))) (subst (λ ts. AreTexts [] us ts) (sym e) nothing_found);
    run = r;
  }

  module _ (sorted : Ascend us) (x : Name × List ℕ) (xs : List (Name × List ℕ)) (texts : List (Option (Bor (List ℕ)))) (h : AreTexts xs us texts) where
    none_more : IsPlace us x.0 None → AreTexts (x ∷ xs) us texts
    none_more away = record {
      counted = h.counted;
      each = λ k t u below. h.each k t u below ∙ sym (passed x xs (get_or us k u).name (turned (get_or us k u).name x.0 (away k u below)));
    }

    module _ (i : ℕ) (place : IsPlace us x.0 (Some i)) (text : Bor (List ℕ)) (is : text.now ≡ x.1) where
      apart : (k : ℕ) (u : AttributeUse) → k < length us → (k < i) ⊎ (i < k) → name_eq x.0 (get_or us k u).name ≡ false
      apart k u below (inl less) = turned (get_or us k u).name x.0 (subst (λ n. name_eq (get_or us k u).name n ≡ false) (place.1 u) (less_apart (get_or us k u).name (get_or us i u).name (before us k i u sorted less place.0)))
      apart k u below (inr more) = subst (λ n. name_eq n (get_or us k u).name ≡ false) (place.1 u) (less_apart (get_or us i u).name (get_or us k u).name (before us i k u sorted more below))

      three : (k j : ℕ) → (k ≡ j) ⊎ ((k < j) ⊎ (j < k))
      three k j = grind arith

      differs : (k : ℕ) → (k < i) ⊎ (i < k) → k ≢ i
      differs k (inl less) e = omega (arith, less, e)
      differs k (inr more) e = omega (arith, more, e)

      here : (t : Option (Bor (List ℕ))) (u : AttributeUse) → told (get_or (set texts i (Some text)) i t) ≡ text_of (x ∷ xs) (get_or us i u).name
      here t u =
          let inside : i < length texts = (let c = h.counted in let b = place.0 in omega (arith, c, b)) in
          ap told (get_or-set_same texts i (Some text) t inside) ∙ ap Some is ∙ sym (first_found x xs (get_or us i u).name (sym (place.1 u)))

      one_more : AreTexts (x ∷ xs) us (set texts i (Some text))
      one_more = record {
        counted = length-set texts i (Some text) ∙ h.counted;
        each = λ k t u below. elim (three k i) [
          | inl same ↦ subst (λ j. told (get_or (set texts i (Some text)) j t) ≡ text_of (x ∷ xs) (get_or us j u).name) (sym same) (here t u)
          | inr other ↦ ap told (get_or-set_other texts i k (Some text) t (differs k other)) ∙ h.each k t u below ∙ sym (passed x xs (get_or us k u).name (apart k u below other))
        ];
      }

  module _ (sorted : Ascend us) (xs : List (Name × List ℕ)) (from left : ℕ) (texts : List (Option (Bor (List ℕ)))) (run next : Run) (h : FoundFrom xs us from texts run)
      (step : from ≡ left + 1) (x : Name × List ℕ) (is : x ≡ get_or xs left x) (again : IsRun us next)
    where
      below : left < length xs
      below = let w = h.within in omega (arith, w, step)

      cut : drop left xs ≡ x ∷ drop from xs
      cut = drop_more xs left x below ∙ ap (λ y. y ∷ drop (left + 1) xs) (sym is) ∙ ap (λ n. x ∷ drop n xs) (sym step)

      pub not_used : IsPlace us x.0 None → FoundFrom xs us left texts next
      not_used away = record {
        within = omega (arith, below);
        texts = subst (λ ys. AreTexts ys us texts) (sym cut) (none_more sorted x (drop from xs) texts h.texts away);
        run = again;
      }

      pub used : (i : ℕ) → IsPlace us x.0 (Some i) → (text : Bor (List ℕ)) → text.now ≡ x.1 → FoundFrom xs us left (set texts i (Some text)) next
      used i place text same = record {
        within = omega (arith, below);
        texts = subst (λ ys. AreTexts ys us (set texts i (Some text))) (sym cut) (one_more sorted x (drop from xs) texts h.texts i place text same);
        run = again;
      }

-- the text of a use
pub told_text : (xs : List (Name × List ℕ)) (us : List AttributeUse) (texts : List (Option (Bor (List ℕ)))) → AreTexts xs us texts → (i : ℕ) → i < length us
    → (t : Option (Bor (List ℕ))) → t ≡ get_or texts i t → (u : AttributeUse) → u ≡ get_or us i u → told t ≡ text_of xs u.name
told_text xs us texts h i below t e u f = ap told e ∙ h.each i t u below ∙ ap (λ v. text_of xs v.name) (sym f)
