-- The kids of two trees, side by side.
use Rattle.std.proofs.Common.{◌≡◌, List, [], ◌∷◌, ◌++◌, sym, ◌∙◌, ap}
use Rattle.base_trees.specs.Rose.{Rose, label_of, kids_of}
use Rattle.base_trees.proofs.Roses.{same_tree}

same_rest : {A : Type 0} (ys us vs : List A) → ys ++ us ≡ ys ++ vs → us ≡ vs
same_rest [] us vs h = h
same_rest (y ∷ ys) us vs h = same_rest ys us vs (cc)

module _ {L : Type 0} (a b : Rose L) (before : List (Rose L)) where
  -- a pair of kids that differ
  pub kids_differ : (left right : List (Rose L)) (kid other : Rose L) → before ++ (kid ∷ left) ≡ kids_of a → before ++ (other ∷ right) ≡ kids_of b → (kid ≡ other → ⊥) → a ≡ b → ⊥
  kids_differ left right kid other first second differ same =
      let tails : kid ∷ left ≡ other ∷ right = same_rest before (kid ∷ left) (other ∷ right) (first ∙ ap kids_of same ∙ sym second) in
      differ (cc)

  -- the kids of the first are all met
  pub both_end : (right : List (Rose L)) → before ++ [] ≡ kids_of a → before ++ right ≡ kids_of b → label_of a ≡ label_of b → right ≡ [] → a ≡ b
  both_end right first second label none = same_tree a b label (sym first ∙ ap (λ us. before ++ us) (sym none) ∙ second)

  pub none_left : (right : List (Rose L)) → before ++ [] ≡ kids_of a → before ++ right ≡ kids_of b → a ≡ b → right ≡ []
  none_left right first second same = same_rest before right [] (second ∙ ap kids_of (sym same) ∙ sym first)
