-- What the count of a tree's nodes needs of its label and its kids.
use Rattle.std.proofs.Common.{◌≡◌, ℕ, suc, List, ◌≤◌, ◌<◌, length, get_or, take, sym, ◌∙◌, ap, subst}
use Rattle.std.proofs.lemmas.List.{take_all}
use Rattle.base_trees.specs.Rose.{Rose, node, roses_of, node_count, count_all, height, depth_all, Allowed, AllowedAll}
use Rattle.base_trees.proofs.Roses.{length_all-roses_of, allowed-node}
use Rattle.base_trees.proofs.Kids.{kid-allowed}

module _ {L : Type 0} (P : L → ℕ → Type 0) (l : L) (kids : List (Rose L)) (t : Rose L) (is : node l (roses_of kids) ≡ t) where
  pub label_refused : (n : ℕ) → n ≡ length kids → (P l n → ⊥) → Allowed P t → ⊥
  label_refused n long out h =
      let a : Allowed P (node l (roses_of kids)) = subst (Allowed P) (sym is) h in
      out (subst (P l) (length_all-roses_of kids ∙ sym long) a.0)

  module _ (items : List (Rose L)) (same : items ≡ kids) (i : ℕ) where
    pub kid_refused : (kid : Rose L) → i < length items → kid ≡ get_or items i kid → (Allowed P kid → ⊥) → Allowed P t → ⊥
    kid_refused kid at here out h =
        let a : Allowed P (node l (roses_of kids)) = subst (Allowed P) (sym is) h in
        out (kid-allowed items i kid at here P (subst (λ ts. AllowedAll P (roses_of ts)) (sym same) a.1))

    module _ (past : length items ≤ i) where
      taken : take i items ≡ kids
      taken = take_all i items past ∙ same

      pub tree_allowed : (n : ℕ) → n ≡ length kids → P l n → AllowedAll P (roses_of (take i items)) → Allowed P t
      tree_allowed n long here below =
          subst (Allowed P) is (allowed-node P l kids (subst (P l) long here) (subst (λ ts. AllowedAll P (roses_of ts)) taken below))

      pub tree_count : suc (count_all (roses_of (take i items))) ≡ node_count t
      tree_count = ap (λ ts. suc (count_all (roses_of ts))) taken ∙ ap node_count is

      pub tree_height : suc (depth_all (roses_of (take i items))) ≡ height t
      tree_height = ap (λ ts. suc (depth_all (roses_of ts))) taken ∙ ap height is
