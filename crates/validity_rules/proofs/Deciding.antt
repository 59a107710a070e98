-- Behind leaves that begin a list it is decided which leaf of a name follows, if any, and whether the list may end.
use Rattle.std.proofs.Common.{◌≡◌, ◌⊎◌, inl, inr, List, [], ◌∷◌, ◌++◌, sym, ◌∙◌, ap, subst, append_assoc, append-nil}
use Rattle.base_texts.specs.declared.texts.Name.{Name}
use Rattle.content_models.specs.Particle.{Particle}
use Rattle.content_models.specs.Language.{Leaf, names, Lang, Viable, ComesNext}
use Rattle.content_models.specs.Clear.{Clear}
use Rattle.content_models.specs.Occurring.{MayOccur}
use Rattle.content_models.proofs.Next.{law_of_next_leaves}
use Rattle.content_models.proofs.Starting.{some_list}
use Rattle.validity_rules.specs.Faults.{Begins, Unfinished}
use Rattle.validity_rules.proofs.Kids.{begins_same}
use Rattle.validity_rules.proofs.Telling.{Takes, told_list}

pub record Decides (p : Particle) : Type 0 where
  pub start : Begins p []
  pub step : (us : List Leaf) → Begins p us → (a : Name) → ((l : Leaf) × (l.name ≡ a) × Begins p (us ++ l ∷ [])) ⊎ (Viable p (names us ++ a ∷ []) → ⊥)
  pub finish : (us : List Leaf) → Begins p us → Lang p 0 [] us ⊎ Unfinished p (names us)

module _ (p : Particle) (c : Clear p []) (s : MayOccur p) where
  next_here : (us : List Leaf) → Begins p us → (l : Leaf) → ComesNext p (names us) l → Begins p (us ++ l ∷ [])
  next_here us b l (v, w, e, h) =
      let same : v ≡ us = begins_same p c v us (l ∷ w, h) b e in
      (w, subst (λ s. Lang p 0 [] s) (ap (λ z. z ++ l ∷ w) same ∙ sym (append_assoc us (l ∷ []) w)) h)

  step_by : (us : List Leaf) → Begins p us → (a : Name) → Viable p (names us ++ a ∷ []) ⊎ (Viable p (names us ++ a ∷ []) → ⊥)
      → ((l : Leaf) × (l.name ≡ a) × Begins p (us ++ l ∷ [])) ⊎ (Viable p (names us ++ a ∷ []) → ⊥)
  step_by us b a (inl v) = let n = law_of_next_leaves p c (names us) a v in inl (n.0, n.1, next_here us b n.0 n.2)
  step_by us b a (inr f) = inr f

  finish_by : (us : List Leaf) → Begins p us → Takes (Lang p 0 []) (names us) ⊎ (Takes (Lang p 0 []) (names us) → ⊥) → Lang p 0 [] us ⊎ Unfinished p (names us)
  finish_by us b (inl (w, h, e)) =
      let same : w ≡ us = begins_same p c w us ([], subst (λ z. Lang p 0 [] z) (sym (append-nil w)) h) b e in
      inl (subst (λ z. Lang p 0 [] z) same h)
  finish_by us b (inr f) = inr (λ w h e. f (w, h, e))

  pub decides : Decides p
  decides = record {
    start = some_list p 0 [] s;
    step = λ us b a. step_by us b a ((told_list p [] 0 [] c s).fronts (names us ++ a ∷ []));
    finish = λ us b. finish_by us b ((told_list p [] 0 [] c s).takes (names us));
  }
