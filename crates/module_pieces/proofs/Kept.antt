-- Indexes of types, one behind another.
use Rattle.std.proofs.Common.{◌≡◌, ℕ, zero, suc, ◌<◌, ◌≤◌, ◌+◌, Option, Some, None, List, [], ◌∷◌, ◌++◌, length, take, get_or, refl, sym, ap, ◌∙◌, subst, arith}
use Rattle.std.specs.Prelude.{slice_get}
use Rattle.std.proofs.lemmas.List.{take_more}
use Rattle.std.specs.Option.{option_map}
use Rattle.std.proofs.lemmas.Option.{none-some, same_Some, slice_get_read}
use Rattle.base_trees.specs.Rose.{Rose, node, Roses, none, more, roses_of, list_of, label_of, kids_of}
use Rattle.base_trees.proofs.Roses.{node-parts, roses_of-list_of}
use Rattle.module_text.specs.declared.types.PlainLabel.{PlainLabel}
use Rattle.module_text.specs.declared.modules.PlainAssignment.{PlainAssignment}
use Rattle.module_pieces.specs.declared.indexes.Index.{Index}
use Rattle.module_text.specs.Resolving.{body_at}
use Rattle.module_pieces.specs.Indexed.{IsIndex, Indexes, IndexAll, EachOf}

-- ---- the types in a type

all-push : (is : List (Rose Index)) (ts : List (Rose PlainLabel)) (i : Rose Index) (t : Rose PlainLabel) → IndexAll (roses_of is) (roses_of ts) → Indexes i t
    → IndexAll (roses_of (is ++ i ∷ [])) (roses_of (ts ++ t ∷ []))
all-push [] [] i t h k = (k, tt)
all-push [] (u ∷ ts) i t h k = absurd h
all-push (j ∷ is) [] i t h k = absurd h
all-push (j ∷ is) (u ∷ ts) i t h k = (h.0, all-push is ts i t h.1 k)

pub all-more : (is now : List (Rose Index)) (ts : List (Rose PlainLabel)) (n : ℕ) (i : Rose Index) (t : Rose PlainLabel)
    → n < length ts → t ≡ get_or ts n t → IndexAll (roses_of is) (roses_of (take n ts)) → Indexes i t → now ≡ is ++ i ∷ []
    → IndexAll (roses_of now) (roses_of (take (n + 1) ts))
all-more is now ts n i t at here h k noted =
    subst (λ js. IndexAll (roses_of js) (roses_of (take (n + 1) ts))) (sym noted)
    (subst (λ us. IndexAll (roses_of (is ++ i ∷ [])) (roses_of us)) (sym (take_more ts n t at ∙ ap (λ u. take n ts ++ u ∷ []) (sym here)))
    (all-push is (take n ts) i t h k))

pub whole-index : (t : Rose PlainLabel) (index : Index) (is : List (Rose Index)) → IsIndex index (label_of t) → IndexAll (roses_of is) (roses_of (kids_of t))
    → Indexes (node index (roses_of is)) t
whole-index (node l ts) index is own all = (own, subst (IndexAll (roses_of is)) (roses_of-list_of ts) all)

-- the index of a type has that of its label, and those of its kids
pub own-index : (i : Rose Index) (t : Rose PlainLabel) → Indexes i t → IsIndex (label_of i) (label_of t)
own-index (node index is) (node l ts) h = h.0

pub kid-indexes : (i : Rose Index) (t : Rose PlainLabel) → Indexes i t → IndexAll (roses_of (kids_of i)) (roses_of (kids_of t))
kid-indexes (node index is) (node l ts) h =
    subst (λ js. IndexAll js (roses_of (list_of ts))) (sym (roses_of-list_of is)) (subst (IndexAll is) (sym (roses_of-list_of ts)) h.1)

pub index-each : (is : List (Rose Index)) (ts : List (Rose PlainLabel)) → IndexAll (roses_of is) (roses_of ts) → (k : ℕ) (i : Rose Index) (t : Rose PlainLabel)
    → slice_get is k ≡ Some i → slice_get ts k ≡ Some t → Indexes i t
index-each [] [] h k i t e here = absurd (none-some t here)
index-each [] (u ∷ ts) h k i t e here = absurd h
index-each (j ∷ is) [] h k i t e here = absurd h
index-each (j ∷ is) (u ∷ ts) h zero i t e here = subst (Indexes i) (same_Some u t here) (subst (λ m. Indexes m u) (same_Some j i e) h.0)
index-each (j ∷ is) (u ∷ ts) h (suc k) i t e here = index-each is ts h.1 k i t e here

pub index-count : (is : List (Rose Index)) (ts : List (Rose PlainLabel)) → IndexAll (roses_of is) (roses_of ts) → length is ≡ length ts
index-count [] [] h = refl
index-count [] (u ∷ ts) h = absurd h
index-count (j ∷ is) [] h = absurd h
index-count (j ∷ is) (u ∷ ts) h = ap suc (index-count is ts h.1)

-- ---- assignments

module _ {X : Type 0} (Is : X → PlainAssignment → Type 0) where
  each-push : (xs : List X) (P : List PlainAssignment) (x : X) (a : PlainAssignment) → EachOf Is xs P → Is x a → EachOf Is (xs ++ x ∷ []) (P ++ a ∷ [])
  each-push [] [] x a h k = (k, tt)
  each-push [] (b ∷ P) x a h k = absurd h
  each-push (y ∷ xs) [] x a h k = absurd h
  each-push (y ∷ xs) (b ∷ P) x a h k = (h.0, each-push xs P x a h.1 k)

  pub each-more : (xs now : List X) (P : List PlainAssignment) (n : ℕ) (x : X) (a : PlainAssignment)
      → n < length P → a ≡ get_or P n a → EachOf Is xs (take n P) → Is x a → now ≡ xs ++ x ∷ [] → EachOf Is now (take (n + 1) P)
  each-more xs now P n x a at here h k noted =
      subst (λ ys. EachOf Is ys (take (n + 1) P)) (sym noted)
      (subst (EachOf Is (xs ++ x ∷ [])) (sym (take_more P n a at ∙ ap (λ (b : PlainAssignment). take n P ++ b ∷ []) (sym here)))
      (each-push xs (take n P) x a h k))

  pub each-count : (xs : List X) (P : List PlainAssignment) → EachOf Is xs P → length xs ≡ length P
  each-count [] [] h = refl
  each-count [] (a ∷ P) h = absurd h
  each-count (y ∷ xs) [] h = absurd h
  each-count (y ∷ xs) (a ∷ P) h = ap suc (each-count xs P h.1)

  each-found : (xs : List X) (P : List PlainAssignment) → EachOf Is xs P → (k : ℕ) (x : X) (a : PlainAssignment)
      → slice_get xs k ≡ Some x → slice_get P k ≡ Some a → Is x a
  each-found [] [] h k x a e here = absurd (none-some a here)
  each-found [] (b ∷ P) h k x a e here = absurd h
  each-found (y ∷ xs) [] h k x a e here = absurd h
  each-found (y ∷ xs) (b ∷ P) h zero x a e here = subst (λ c. Is x c) (same_Some b a here) (subst (λ z. Is z b) (same_Some y x e) h.0)
  each-found (y ∷ xs) (b ∷ P) h (suc k) x a e here = each-found xs P h.1 k x a e here

  by_body : (xs : List X) (P : List PlainAssignment) → EachOf Is xs P → (k : ℕ) (x : X) (t : Rose PlainLabel) (o : Option PlainAssignment)
      → slice_get P k ≡ o → slice_get xs k ≡ Some x → option_map (λ (a : PlainAssignment). a.body) o ≡ Some t → (a : PlainAssignment) × (a.body ≡ t) × Is x a
  by_body xs P h k x t None here e same = absurd (none-some t same)
  by_body xs P h k x t (Some a) here e same = (a, same_Some a.body t same, each-found xs P h k x a e here)

  -- that of the assignment whose type this is
  pub each-at : (xs : List X) (P : List PlainAssignment) → EachOf Is xs P → (k : ℕ) (x : X) (t : Rose PlainLabel)
      → k < length P → x ≡ get_or xs k x → body_at P k ≡ Some t → (a : PlainAssignment) × (a.body ≡ t) × Is x a
  each-at xs P h k x t at here same =
      by_body xs P h k x t (slice_get P k) refl (slice_get_read xs (length P) k x (sym (each-count xs P h)) at here) same
