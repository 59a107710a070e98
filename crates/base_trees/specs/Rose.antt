-- A tree of labels: a label, and the trees below it in their order.
use Rattle.std.specs.Prelude.{◌≡◌, ℕ, suc, ◌+◌, ◌-◌, ◌^◌, min, max, List, [], ◌∷◌, refl}
use Rattle.std.specs.Coded.{Coded}
use base.Stored.{Gv, gnil, gcons}

mutual
  pub data Rose (L : Type 0) : Type 0 where
    node : L → Roses L → Rose L

  pub data Roses (L : Type 0) : Type 0 where
    none : Roses L
    more : Rose L → Roses L → Roses L

-- A list of trees as the children of a node.
abbrev pub roses_of : {L : Type 0} → List (Rose L) → Roses L
roses_of [] = none
roses_of (t ∷ ts) = more t (roses_of ts)

abbrev pub list_of : {L : Type 0} → Roses L → List (Rose L)
list_of none = []
list_of (more t ts) = t ∷ list_of ts

abbrev pub label_of : {L : Type 0} → Rose L → L
label_of (node l ts) = l

abbrev pub kids_of : {L : Type 0} → Rose L → List (Rose L)
kids_of (node l ts) = list_of ts

-- the number of nodes
abbrev mutual
  pub node_count : {L : Type 0} → Rose L → ℕ
  node_count (node l ts) = suc (count_all ts)

  pub count_all : {L : Type 0} → Roses L → ℕ
  count_all none = 0
  count_all (more t ts) = node_count t + count_all ts

-- the number of levels, which is 1 for a leaf
abbrev mutual
  pub height : {L : Type 0} → Rose L → ℕ
  height (node l ts) = suc (depth_all ts)

  pub depth_all : {L : Type 0} → Roses L → ℕ
  depth_all none = 0
  depth_all (more t ts) = max (height t) (depth_all ts)

-- the number of children
abbrev pub length_all : {L : Type 0} → Roses L → ℕ
length_all none = 0
length_all (more t ts) = suc (length_all ts)

-- The number of nodes as a 64-bit count: 2^64 - 1 if there are more.
abbrev pub shown_count : {L : Type 0} → Rose L → ℕ
shown_count t = min (node_count t) (2 ^ 64 - 1)

-- The number of levels as a 32-bit count: 2^32 - 1 if there are more.
abbrev pub shown_depth : {L : Type 0} → Rose L → ℕ
shown_depth t = min (height t) (2 ^ 32 - 1)

-- the label of each node allows its number of children
abbrev mutual
  pub Allowed : {L : Type 0} → (L → ℕ → Type 0) → Rose L → Type 0
  Allowed P (node l ts) = P l (length_all ts) × AllowedAll P ts

  pub AllowedAll : {L : Type 0} → (L → ℕ → Type 0) → Roses L → Type 0
  AllowedAll P none = Unit {0}
  AllowedAll P (more t ts) = Allowed P t × AllowedAll P ts

-- The codes of trees are different for different trees.
module _ {L : Type 0} (c : Coded L) where
  abbrev mutual
    pub code_rose : Rose L → Gv
    code_rose (node l ts) = gcons (c.code l) (code_roses ts)

    pub code_roses : Roses L → Gv
    code_roses none = gnil
    code_roses (more t ts) = gcons (code_rose t) (code_roses ts)

  mutual
    pub inj_rose : (x y : Rose L) → code_rose x ≡ code_rose y → x ≡ y
    inj_rose (node l ts) (node m us) p =
        let a : l ≡ m = c.inj l m (cc) in
        let b : ts ≡ us = inj_roses ts us (cc) in
        cc

    pub inj_roses : (x y : Roses L) → code_roses x ≡ code_roses y → x ≡ y
    inj_roses none none p = refl
    inj_roses none (more u us) p = absurd (cc)
    inj_roses (more t ts) none p = absurd (cc)
    inj_roses (more t ts) (more u us) p =
        let a : t ≡ u = inj_rose t u (cc) in
        let b : ts ≡ us = inj_roses ts us (cc) in
        cc

  abbrev pub coded_rose : Coded (Rose L)
  coded_rose = record { code = code_rose; inj = inj_rose }
