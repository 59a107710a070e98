-- Kids by their number: each is smaller and less deep than its tree, and allowed where its tree is. The measure of a
-- recursion over trees in another crate is 'k * node_count t + rank' at a tree and 'k * count_all (roses_of ts) + rank'
-- at a list of kids.
use Rattle.std.proofs.Common.{◌≡◌, ℕ, ◌+◌, ◌≤◌, ◌<◌, max, List, [], ◌∷◌, ◌++◌, length, get_or, take, drop, Some, refl, sym, ◌∙◌, ap, subst, arith}
use Rattle.std.specs.Prelude.{slice_get}
use Rattle.std.proofs.lemmas.List.{take_more, drop_more, take-append-drop}
use Rattle.std.proofs.lemmas.List.Elements.{All-get_or}
use Rattle.std.proofs.lemmas.Option.{slice_get_within, get_or_from_slice_get}
use Rattle.base_trees.specs.Rose.{Rose, more, roses_of, kids_of, node_count, count_all, height, depth_all, Allowed, AllowedAll}
use Rattle.base_trees.proofs.Roses.{node_count-kids, height-kids, allowed-kids, all_allowed-each, all_allowed-front, all_allowed-back, all_allowed-push, count_all-append, count_all-push, depth_all-append, depth_all-push}

-- a front, and what follows it
module _ {L : Type 0} (ts : List (Rose L)) (i : ℕ) where
  pub count_all-split : count_all (roses_of ts) ≡ count_all (roses_of (take i ts)) + count_all (roses_of (drop i ts))
  count_all-split = ap (λ us. count_all (roses_of us)) (sym (take-append-drop i ts)) ∙ count_all-append (take i ts) (drop i ts)

  pub depth_all-split : depth_all (roses_of ts) ≡ max (depth_all (roses_of (take i ts))) (depth_all (roses_of (drop i ts)))
  depth_all-split = ap (λ us. depth_all (roses_of us)) (sym (take-append-drop i ts)) ∙ depth_all-append (take i ts) (drop i ts)

  pub count_all-take-le : count_all (roses_of (take i ts)) ≤ count_all (roses_of ts)
  count_all-take-le = omega (arith, count_all-split)

  pub count_all-drop-le : count_all (roses_of (drop i ts)) ≤ count_all (roses_of ts)
  count_all-drop-le = omega (arith, count_all-split)

  pub all_allowed-take : (P : L → ℕ → Type 0) → AllowedAll P (roses_of ts) → AllowedAll P (roses_of (take i ts))
  all_allowed-take P h =
      all_allowed-front P (take i ts) (drop i ts) (subst (λ us. AllowedAll P (roses_of us)) (sym (take-append-drop i ts)) h)

  pub all_allowed-drop : (P : L → ℕ → Type 0) → AllowedAll P (roses_of ts) → AllowedAll P (roses_of (drop i ts))
  all_allowed-drop P h =
      all_allowed-back P (take i ts) (drop i ts) (subst (λ us. AllowedAll P (roses_of us)) (sym (take-append-drop i ts)) h)

-- the tree with number i of a list, as a loop has it
module _ {L : Type 0} (ts : List (Rose L)) (i : ℕ) (kid : Rose L) (at : i < length ts) (here : kid ≡ get_or ts i kid) where
  pub roses_of-drop : roses_of (drop i ts) ≡ more kid (roses_of (drop (i + 1) ts))
  roses_of-drop = ap roses_of (drop_more ts i kid at) ∙ ap (λ k. more k (roses_of (drop (i + 1) ts))) (sym here)

  pub count_all-drop : count_all (roses_of (drop i ts)) ≡ node_count kid + count_all (roses_of (drop (i + 1) ts))
  count_all-drop = ap count_all roses_of-drop

  pub take-more_kid : take (i + 1) ts ≡ take i ts ++ kid ∷ []
  take-more_kid = take_more ts i kid at ∙ ap (λ k. take i ts ++ k ∷ []) (sym here)

  pub count_all-take : count_all (roses_of (take (i + 1) ts)) ≡ count_all (roses_of (take i ts)) + node_count kid
  count_all-take = ap (λ us. count_all (roses_of us)) take-more_kid ∙ count_all-push (take i ts) kid

  pub depth_all-take : depth_all (roses_of (take (i + 1) ts)) ≡ max (depth_all (roses_of (take i ts))) (height kid)
  depth_all-take = ap (λ us. depth_all (roses_of us)) take-more_kid ∙ depth_all-push (take i ts) kid

  pub all_allowed-take_more : (P : L → ℕ → Type 0) → AllowedAll P (roses_of (take i ts)) → Allowed P kid → AllowedAll P (roses_of (take (i + 1) ts))
  all_allowed-take_more P h k = subst (λ us. AllowedAll P (roses_of us)) (sym take-more_kid) (all_allowed-push P (take i ts) kid h k)

  -- the kids up to this one have no more nodes than all
  pub count_all-front-le : count_all (roses_of (take i ts)) + node_count kid ≤ count_all (roses_of ts)
  count_all-front-le = omega (arith, count_all-take, count_all-take-le ts (i + 1))

  pub kid-count-le : node_count kid ≤ count_all (roses_of ts)
  kid-count-le = omega (arith, count_all-front-le)

  pub kid-height-le : height kid ≤ depth_all (roses_of ts)
  kid-height-le = omega (arith, depth_all-take, depth_all-split ts (i + 1))

  pub kid-allowed : (P : L → ℕ → Type 0) → AllowedAll P (roses_of ts) → Allowed P kid
  kid-allowed P h = subst (Allowed P) (sym here) (All-get_or (Allowed P) ts i kid at (all_allowed-each P ts h))

-- the kid with number i of a tree, as a loop over the kids has it
module _ {L : Type 0} (t : Rose L) (kids : List (Rose L)) (same : kids ≡ kids_of t) (i : ℕ) (kid : Rose L) (at : i < length kids) (here : kid ≡ get_or kids i kid) where
  pub node_count-kid : node_count kid + 1 ≤ node_count t
  node_count-kid = omega (arith, kid-count-le kids i kid at here, ap (λ ts. count_all (roses_of ts)) same, node_count-kids t)

  pub height-kid : height kid + 1 ≤ height t
  height-kid = omega (arith, kid-height-le kids i kid at here, ap (λ ts. depth_all (roses_of ts)) same, height-kids t)

  pub allowed-kid : (P : L → ℕ → Type 0) → Allowed P t → Allowed P kid
  allowed-kid P h = kid-allowed kids i kid at here P (subst (λ ts. AllowedAll P (roses_of ts)) (sym same) (allowed-kids P t h))

-- the kid with number i of a tree, as 'kid' gives it
module _ {L : Type 0} (t : Rose L) (i : ℕ) (kid : Rose L) (got : slice_get (kids_of t) i ≡ Some kid) where
  pub kid-within : i < length (kids_of t)
  kid-within = slice_get_within (kids_of t) i kid got

  pub kid-read : kid ≡ get_or (kids_of t) i kid
  kid-read = sym (get_or_from_slice_get (kids_of t) i kid kid got)

  pub node_count-got : node_count kid + 1 ≤ node_count t
  node_count-got = node_count-kid t (kids_of t) refl i kid kid-within kid-read

  pub height-got : height kid + 1 ≤ height t
  height-got = height-kid t (kids_of t) refl i kid kid-within kid-read

  pub allowed-got : (P : L → ℕ → Type 0) → Allowed P t → Allowed P kid
  allowed-got P h = allowed-kid t (kids_of t) refl i kid kid-within kid-read P h
