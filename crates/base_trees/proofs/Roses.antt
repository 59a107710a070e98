-- Trees by their label and the list of their kids.
use Rattle.std.proofs.Common.{◌≡◌, ℕ, suc, ◌+◌, max, List, [], ◌∷◌, ◌++◌, ◌≤◌, length, All, refl, sym, ◌∙◌, ap, subst, arith}
use Rattle.std.proofs.lemmas.List.Elements.{All-head, All-tail, All-cons}
use Rattle.base_trees.specs.Rose.{Rose, node, Roses, none, more, roses_of, list_of, label_of, kids_of, node_count, count_all, height, depth_all, length_all, Allowed, AllowedAll}

-- the trees below a label, and their list
pub list_of-roses_of : {L : Type 0} (ts : List (Rose L)) → list_of (roses_of ts) ≡ ts
list_of-roses_of [] = refl
list_of-roses_of (t ∷ ts) = ap (λ s. t ∷ s) (list_of-roses_of ts)

pub roses_of-list_of : {L : Type 0} (ts : Roses L) → roses_of (list_of ts) ≡ ts
roses_of-list_of none = refl
roses_of-list_of (more t ts) = ap (λ s. more t s) (roses_of-list_of ts)

pub length_all-roses_of : {L : Type 0} (ts : List (Rose L)) → length_all (roses_of ts) ≡ length ts
length_all-roses_of [] = refl
length_all-roses_of (t ∷ ts) = ap suc (length_all-roses_of ts)

pub length-list_of : {L : Type 0} (ts : Roses L) → length (list_of ts) ≡ length_all ts
length-list_of none = refl
length-list_of (more t ts) = ap suc (length-list_of ts)

-- a tree is its label and its kids
pub node-parts : {L : Type 0} (t : Rose L) → node (label_of t) (roses_of (kids_of t)) ≡ t
node-parts (node l ts) = ap (λ s. node l s) (roses_of-list_of ts)

pub same_tree : {L : Type 0} (t u : Rose L) → label_of t ≡ label_of u → kids_of t ≡ kids_of u → t ≡ u
same_tree t u same_label same_kids =
    sym (node-parts t) ∙ ap (λ l. node l (roses_of (kids_of t))) same_label ∙ ap (λ ks. node (label_of u) (roses_of ks)) same_kids ∙ node-parts u

pub kids_of-node : {L : Type 0} (l : L) (ts : List (Rose L)) → kids_of (node l (roses_of ts)) ≡ ts
kids_of-node l ts = list_of-roses_of ts

-- the count, the depth and the allowed kids of a tree, by its kids
pub node_count-kids : {L : Type 0} (t : Rose L) → node_count t ≡ suc (count_all (roses_of (kids_of t)))
node_count-kids (node l ts) = ap (λ s. suc (count_all s)) (sym (roses_of-list_of ts))

pub height-kids : {L : Type 0} (t : Rose L) → height t ≡ suc (depth_all (roses_of (kids_of t)))
height-kids (node l ts) = ap (λ s. suc (depth_all s)) (sym (roses_of-list_of ts))

pub allowed-label : {L : Type 0} (P : L → ℕ → Type 0) (t : Rose L) → Allowed P t → P (label_of t) (length (kids_of t))
allowed-label P (node l ts) h = subst (P l) (sym (length-list_of ts)) h.0

pub allowed-kids : {L : Type 0} (P : L → ℕ → Type 0) (t : Rose L) → Allowed P t → AllowedAll P (roses_of (kids_of t))
allowed-kids P (node l ts) h = subst (AllowedAll P) (sym (roses_of-list_of ts)) h.1

pub allowed-node : {L : Type 0} (P : L → ℕ → Type 0) (l : L) (ts : List (Rose L)) → P l (length ts) → AllowedAll P (roses_of ts) → Allowed P (node l (roses_of ts))
allowed-node P l ts here below = (subst (P l) (sym (length_all-roses_of ts)) here, below)

-- all are allowed where each is
pub all_allowed-each : {L : Type 0} (P : L → ℕ → Type 0) (ts : List (Rose L)) → AllowedAll P (roses_of ts) → All (Allowed P) ts
all_allowed-each P [] h = λ k d l. absurd (omega (arith, l))
all_allowed-each P (t ∷ ts) h = All-cons (Allowed P) t ts h.0 (all_allowed-each P ts h.1)

pub all_allowed-from_each : {L : Type 0} (P : L → ℕ → Type 0) (ts : List (Rose L)) → All (Allowed P) ts → AllowedAll P (roses_of ts)
all_allowed-from_each P [] h = tt
all_allowed-from_each P (t ∷ ts) h = (All-head (Allowed P) t ts h, all_allowed-from_each P ts (All-tail (Allowed P) t ts h))

-- a weaker demand
mutual
  pub allowed-weaker : {L : Type 0} (P Q : L → ℕ → Type 0) → ((l : L) (n : ℕ) → P l n → Q l n) → (t : Rose L) → Allowed P t → Allowed Q t
  allowed-weaker P Q f (node l ts) h = (f l (length_all ts) h.0, all_allowed-weaker P Q f ts h.1)

  pub all_allowed-weaker : {L : Type 0} (P Q : L → ℕ → Type 0) → ((l : L) (n : ℕ) → P l n → Q l n) → (ts : Roses L) → AllowedAll P ts → AllowedAll Q ts
  all_allowed-weaker P Q f none h = tt
  all_allowed-weaker P Q f (more t ts) h = (allowed-weaker P Q f t h.0, all_allowed-weaker P Q f ts h.1)

-- what holds of a tree where it holds of each kid holds of every tree
module _ {L : Type 0} (P : Rose L → Type 0) (step : (t : Rose L) → All P (kids_of t) → P t) where
  mutual
    pub by_kids : (t : Rose L) → P t
    by_kids (node l ts) = step (node l ts) (each_by_kids ts)

    pub each_by_kids : (ts : Roses L) → All P (list_of ts)
    each_by_kids none = λ k d l. absurd (omega (arith, l))
    each_by_kids (more t ts) = All-cons P t (list_of ts) (by_kids t) (each_by_kids ts)

-- lists one after the other
pub count_all-append : {L : Type 0} (ts us : List (Rose L)) → count_all (roses_of (ts ++ us)) ≡ count_all (roses_of ts) + count_all (roses_of us)
count_all-append [] us = omega arith
count_all-append (t ∷ ts) us = omega (arith, count_all-append ts us)

pub depth_all-append : {L : Type 0} (ts us : List (Rose L)) → depth_all (roses_of (ts ++ us)) ≡ max (depth_all (roses_of ts)) (depth_all (roses_of us))
depth_all-append [] us = omega arith
depth_all-append (t ∷ ts) us = omega (arith, depth_all-append ts us)

pub all_allowed-append : {L : Type 0} (P : L → ℕ → Type 0) (ts us : List (Rose L)) → AllowedAll P (roses_of ts) → AllowedAll P (roses_of us) → AllowedAll P (roses_of (ts ++ us))
all_allowed-append P [] us h k = k
all_allowed-append P (t ∷ ts) us h k = (h.0, all_allowed-append P ts us h.1 k)

pub all_allowed-front : {L : Type 0} (P : L → ℕ → Type 0) (ts us : List (Rose L)) → AllowedAll P (roses_of (ts ++ us)) → AllowedAll P (roses_of ts)
all_allowed-front P [] us h = tt
all_allowed-front P (t ∷ ts) us h = (h.0, all_allowed-front P ts us h.1)

pub all_allowed-back : {L : Type 0} (P : L → ℕ → Type 0) (ts us : List (Rose L)) → AllowedAll P (roses_of (ts ++ us)) → AllowedAll P (roses_of us)
all_allowed-back P [] us h = h
all_allowed-back P (t ∷ ts) us h = all_allowed-back P ts us h.1

-- one more at the end
pub count_all-push : {L : Type 0} (ts : List (Rose L)) (t : Rose L) → count_all (roses_of (ts ++ t ∷ [])) ≡ count_all (roses_of ts) + node_count t
count_all-push ts t = omega (arith, count_all-append ts (t ∷ []))

pub depth_all-push : {L : Type 0} (ts : List (Rose L)) (t : Rose L) → depth_all (roses_of (ts ++ t ∷ [])) ≡ max (depth_all (roses_of ts)) (height t)
depth_all-push ts t = omega (arith, depth_all-append ts (t ∷ []))

pub all_allowed-push : {L : Type 0} (P : L → ℕ → Type 0) (ts : List (Rose L)) (t : Rose L)
    → AllowedAll P (roses_of ts) → Allowed P t → AllowedAll P (roses_of (ts ++ t ∷ []))
all_allowed-push P ts t h k = all_allowed-append P ts (t ∷ []) h (k, tt)

-- a tree has a node and a level, and no more levels than nodes
pub node_count-positive : {L : Type 0} (t : Rose L) → 1 ≤ node_count t
node_count-positive (node l ts) = omega arith

pub height-positive : {L : Type 0} (t : Rose L) → 1 ≤ height t
height-positive (node l ts) = omega arith

mutual
  pub height-le-node_count : {L : Type 0} (t : Rose L) → height t ≤ node_count t
  height-le-node_count (node l ts) = omega (arith, depth_all-le-count_all ts)

  pub depth_all-le-count_all : {L : Type 0} (ts : Roses L) → depth_all ts ≤ count_all ts
  depth_all-le-count_all none = omega arith
  depth_all-le-count_all (more t ts) = omega (arith, height-le-node_count t, depth_all-le-count_all ts)

pub length-le-count_all : {L : Type 0} (ts : List (Rose L)) → length ts ≤ count_all (roses_of ts)
length-le-count_all [] = omega arith
length-le-count_all (t ∷ ts) = omega (arith, node_count-positive t, length-le-count_all ts)
