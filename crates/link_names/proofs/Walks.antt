-- Walks through a graph, and a search that follows them.
use Rattle.std.proofs.Common.{◌≡◌, ℕ, zero, suc, ◌+◌, ◌<◌, ◌≤◌, arith, Bool, true, false, ◌⊎◌, inl, inr, List, [], ◌∷◌, ◌++◌, length, take, get_or, refl, sym, ap, ◌∙◌, subst, Vec}
use Rattle.std.specs.Prelude.{◌↔◌, IsTrue}
use Rattle.std.specs.Global.{Global}
use Rattle.std.proofs.Math.ListN.{set, replicate, length-append, length-set}
use Rattle.std.proofs.lemmas.List.{take_more}
use Rattle.std.proofs.lemmas.Bool.{cases_lt, true≢false}
use Rattle.base_texts.proofs.Lists.{in_parts, in_front, in_end}
use Rattle.link_names.specs.Graphs.{rows_of, row, IsEdge, Leads, IsOnCycle}
use Rattle.base_texts.specs.Lists.{HasItem}
use Rattle.link_names.specs.Private.Searching.{mark, unseen, Opened}

-- lists of nodes

pub one_longer : (ns : List ℕ) (i n : ℕ) → i < length ns → n ≡ get_or ns i n → take (i + 1) ns ≡ take i ns ++ n ∷ []
one_longer ns i n lt is = take_more ns i n lt ∙ ap (λ x. take i ns ++ x ∷ []) (sym is)

-- rows

pub row_is : (g : List (Vec ℕ Global)) (n : ℕ) (v : Vec ℕ Global) → n < length g → v ≡ get_or g n v → row (rows_of g) n ≡ v.items
row_is [] n v lt e = absurd (omega (arith, lt))
row_is (w ∷ g) zero v lt e = ap (λ (x : Vec ℕ Global). x.items) (sym e)
row_is (w ∷ g) (suc n) v lt e = row_is g n v (omega (arith, lt)) e

pub no_row : (g : List (Vec ℕ Global)) (n : ℕ) → length g ≤ n → row (rows_of g) n ≡ []
no_row [] n le = refl
no_row (w ∷ g) zero le = absurd (omega (arith, le))
no_row (w ∷ g) (suc n) le = no_row g n (omega (arith, le))

-- marks

pub mark_is : (bs : List Bool) (n : ℕ) (b : Bool) → n < length bs → b ≡ get_or bs n b → mark bs n ≡ b
mark_is [] n b lt e = absurd (omega (arith, lt))
mark_is (x ∷ bs) zero b lt e = sym e
mark_is (x ∷ bs) (suc n) b lt e = mark_is bs n b (omega (arith, lt)) e

pub marked_below : (bs : List Bool) (n : ℕ) → mark bs n ≡ true → n < length bs
marked_below [] n e = absurd (true≢false (sym e))
marked_below (b ∷ bs) zero e = omega arith
marked_below (b ∷ bs) (suc n) e = let lt = marked_below bs n e in omega (arith, lt)

pub set_here : (bs : List Bool) (n : ℕ) → n < length bs → mark (set bs n true) n ≡ true
set_here [] n lt = absurd (omega (arith, lt))
set_here (b ∷ bs) zero lt = refl
set_here (b ∷ bs) (suc n) lt = set_here bs n (omega (arith, lt))

pub set_kept : (bs : List Bool) (n m : ℕ) → mark bs m ≡ true → mark (set bs n true) m ≡ true
set_kept [] n m e = e
set_kept (b ∷ bs) zero zero e = refl
set_kept (b ∷ bs) zero (suc m) e = e
set_kept (b ∷ bs) (suc n) zero e = e
set_kept (b ∷ bs) (suc n) (suc m) e = set_kept bs n m e

pub set_parts : (bs : List Bool) (n m : ℕ) → mark (set bs n true) m ≡ true → (mark bs m ≡ true) ⊎ (n ≡ m)
set_parts [] n m e = inl e
set_parts (b ∷ bs) zero zero e = inr refl
set_parts (b ∷ bs) zero (suc m) e = inl e
set_parts (b ∷ bs) (suc n) zero e = inl e
set_parts (b ∷ bs) (suc n) (suc m) e = elim (set_parts bs n m e) [ inl h ↦ inl h | inr h ↦ inr (ap suc h) ]

pub set_less : (bs : List Bool) (n : ℕ) → n < length bs → mark bs n ≡ false → suc (unseen (set bs n true)) ≡ unseen bs
set_less [] n lt e = absurd (omega (arith, lt))
set_less (true ∷ bs) zero lt e = absurd (true≢false e)
set_less (false ∷ bs) zero lt e = refl
set_less (true ∷ bs) (suc n) lt e = set_less bs n (omega (arith, lt)) e
set_less (false ∷ bs) (suc n) lt e = ap suc (set_less bs n (omega (arith, lt)) e)

-- what was marked and opened

pub opened_none : (s : List Bool) (o : List ℕ) → Opened s o s o []
opened_none s o = record {
  long = refl;
  kept = λ n e. e;
  found = λ n e. inl e;
  all = λ n h lt. absurd h;
  still = λ n h. h;
  seen_too = λ n h. inl h;
  less = omega arith;
}

module _ (s : List Bool) (o : List ℕ) (m : List Bool) (p ns : List ℕ) (n : ℕ) (h : Opened s o m p ns) where
  pub opened_old : (length m ≤ n) ⊎ (mark m n ≡ true) → Opened s o m p (ns ++ n ∷ [])
  opened_old old = record {
    long = h.long;
    kept = h.kept;
    found = λ k e. elim (h.found k e) [ inl f ↦ inl f | inr f ↦ inr (in_front ns n k f.0, f.1) ];
    all = λ k i lt. elim (in_parts ns n k i) [
      | inl f ↦ h.all k f lt
      | inr e ↦ elim old [
        | inl le ↦ let long = h.long in absurd (omega (arith, e, le, lt, long))
        | inr f ↦ subst (λ x. mark m x ≡ true) e f
      ]
    ];
    still = h.still;
    seen_too = h.seen_too;
    less = h.less;
  }

  pub opened_new : n < length m → mark m n ≡ false → Opened s o (set m n true) (p ++ n ∷ []) (ns ++ n ∷ [])
  opened_new lt free = record {
    long = length-set m n true ∙ h.long;
    kept = λ k e. set_kept m n k (h.kept k e);
    found = λ k e. elim (set_parts m n k e) [
      | inl f ↦ elim (h.found k f) [ inl g ↦ inl g | inr g ↦ inr (in_front ns n k g.0, in_front p n k g.1) ]
      | inr same ↦ inr (subst (HasItem (ns ++ n ∷ [])) same (in_end ns n), subst (HasItem (p ++ n ∷ [])) same (in_end p n))
    ];
    all = λ k i below. elim (in_parts ns n k i) [
      | inl f ↦ set_kept m n k (h.all k f below)
      | inr e ↦ subst (λ x. mark (set m n true) x ≡ true) e (set_here m n lt)
    ];
    still = λ k i. in_front p n k (h.still k i);
    seen_too = λ k i. elim (in_parts p n k i) [
      | inl f ↦ elim (h.seen_too k f) [ inl g ↦ inl g | inr g ↦ inr (set_kept m n k g) ]
      | inr e ↦ inr (subst (λ x. mark (set m n true) x ≡ true) e (set_here m n lt))
    ];
    less =
        let fewer = set_less m n lt free in
        let longer = length-append p (n ∷ []) in
        let before = h.less in
        omega (arith, fewer, longer, before);
  }

-- walks

pub one_step_more : (g : List (List ℕ)) (a : ℕ) (rs : List ℕ) (b c : ℕ) → Leads g a rs b → IsEdge g b c → Leads g a (rs ++ b ∷ []) c
one_step_more g a [] b c h e = (h, e)
one_step_more g a (r ∷ rs) b c h e = (h.0, one_step_more g r rs b c h.1 e)

-- what a search from a node has seen, and what is still open
pub record Searched (g : List (List ℕ)) (size node : ℕ) (seen : List Bool) (open_ : List ℕ) : Type 0 where
  pub long : length seen ≡ size
  pub reached : (n : ℕ) → mark seen n ≡ true → (rs : List ℕ) × Leads g node rs n
  pub opened : (n : ℕ) → HasItem open_ n → mark seen n ≡ true
  pub start : (n : ℕ) → IsEdge g node n → n < size → mark seen n ≡ true
  pub closed : (n : ℕ) → mark seen n ≡ true → HasItem open_ n ⊎ ((m : ℕ) → IsEdge g n m → m < size → mark seen m ≡ true)

pub searched_first : (g : List (List ℕ)) (size node : ℕ) (s m : List Bool) (p : List ℕ) → length s ≡ size → ((n : ℕ) → mark s n ≡ true → ⊥)
    → Opened s [] m p (row g node) → Searched g size node m p
searched_first g size node s m p long none h = record {
  long = h.long ∙ long;
  reached = λ n e. elim (h.found n e) [ inl f ↦ absurd (none n f) | inr f ↦ ([], f.0) ];
  opened = λ n i. elim (h.seen_too n i) [ inl f ↦ absurd f | inr f ↦ f ];
  start = λ n e lt. h.all n e (omega (arith, long, lt));
  closed = λ n e. elim (h.found n e) [ inl f ↦ absurd (none n f) | inr f ↦ inl f.1 ];
}

pub searched_more : (g : List (List ℕ)) (size node : ℕ) (s : List Bool) (rest : List ℕ) (at : ℕ) (m : List Bool) (p : List ℕ)
    → Searched g size node s (rest ++ at ∷ []) → Opened s rest m p (row g at) → Searched g size node m p
searched_more g size node s rest at m p f h = record {
  long = h.long ∙ f.long;
  reached = λ n e. elim (h.found n e) [
    | inl k ↦ f.reached n k
    | inr k ↦ let to = f.reached at (f.opened at (in_end rest at)) in (to.0 ++ at ∷ [], one_step_more g node to.0 at n to.1 k.0)
  ];
  opened = λ n i. elim (h.seen_too n i) [ inl k ↦ h.kept n (f.opened n (in_front rest at n k)) | inr k ↦ k ];
  start = λ n e lt. h.kept n (f.start n e lt);
  closed = λ n e. elim (h.found n e) [
    | inl k ↦ elim (f.closed n k) [
      | inl i ↦ elim (in_parts rest at n i) [
        | inl r ↦ inl (h.still n r)
        | inr same ↦ inr (λ to edge lt. let long = f.long in h.all to (subst (λ x. IsEdge g x to) (sym same) edge) (omega (arith, long, lt)))
      ]
      | inr done ↦ inr (λ to edge lt. h.kept to (done to edge lt))
    ]
    | inr k ↦ inl k.1
  ];
}

-- at the end all is seen that a walk leads to

module _ (g : List (Vec ℕ Global)) (node : ℕ) (s : List Bool) (f : Searched (rows_of g) (length g) node s []) where
  follows : (a : ℕ) (rs : List ℕ) (b : ℕ) → ((n : ℕ) → IsEdge (rows_of g) a n → n < length g → mark s n ≡ true) → b < length g → Leads (rows_of g) a rs b → mark s b ≡ true
  follows a [] b all lt h = all b h lt
  follows a (r ∷ rs) b all lt h =
      elim (cases_lt r (length g)) [
        | inl below ↦ elim (f.closed r (all r h.0 below)) [ inl i ↦ absurd i | inr done ↦ follows r rs b done lt h.1 ]
        | inr beyond ↦ absurd (nowhere rs h.1 (no_row g r beyond))
      ]
    where
      nowhere : (ts : List ℕ) → Leads (rows_of g) r ts b → row (rows_of g) r ≡ [] → ⊥
      nowhere [] l e = subst (λ x. HasItem x b) e l
      nowhere (t ∷ ts) l e = subst (λ x. HasItem x t) e l.0

  pub all_seen : node < length g → IsOnCycle (rows_of g) node → mark s node ≡ true
  all_seen lt h = follows node h.0 node f.start lt h.1

-- ranks

pub row_falls : (g : List (List ℕ)) (rank : ℕ → ℕ) → ((a b : ℕ) → IsEdge g a b → rank b ≤ rank a)
    → (a : ℕ) (rs : List ℕ) (b : ℕ) → Leads g a rs b → rank b ≤ rank a
row_falls g rank falls a [] b h = falls a b h
row_falls g rank falls a (r ∷ rs) b h = let one = falls a r h.0 in let rest = row_falls g rank falls r rs b h.1 in omega (arith, one, rest)

-- no cycle goes through a node from which each edge falls
pub off_cycles : (g : List (List ℕ)) (rank : ℕ → ℕ) → ((a b : ℕ) → IsEdge g a b → rank b ≤ rank a)
    → (a : ℕ) → ((b : ℕ) → IsEdge g a b → rank b < rank a) → IsOnCycle g a → ⊥
off_cycles g rank falls a below ([], h) = let lt = below a h in omega (arith, lt)
off_cycles g rank falls a below (r ∷ rs, h) = let lt = below r h.0 in let rest = row_falls g rank falls r rs a h.1 in omega (arith, lt, rest)

pub search_ends : (g : List (Vec ℕ Global)) (node : ℕ) (s : List Bool) (w : List ℕ) (b : Bool) → Searched (rows_of g) (length g) node s w → w ≡ []
    → node < length g → mark s node ≡ b → IsTrue b ↔ IsOnCycle (rows_of g) node
search_ends g node s w b f none lt is =
    let done : Searched (rows_of g) (length g) node s [] = subst (Searched (rows_of g) (length g) node s) none f in
    (λ e. f.reached node (is ∙ e), λ h. sym is ∙ all_seen g node s done lt h)

pub is_node : (g : List (List ℕ)) (size node : ℕ) (s : List Bool) (w rest : List ℕ) (at : ℕ) → Searched g size node s w → w ≡ rest ++ at ∷ [] → at < size
is_node g size node s w rest at f is =
    let lt = marked_below s at (f.opened at (subst (λ ns. HasItem ns at) (sym is) (in_end rest at))) in
    let long = f.long in
    omega (arith, lt, long)

pub unmarked : (k n : ℕ) → mark (replicate k false) n ≡ true → ⊥
unmarked zero n e = true≢false (sym e)
unmarked (suc k) zero e = true≢false (sym e)
unmarked (suc k) (suc n) e = unmarked k n e

pub nothing : (ws : List ℕ) (n : ℕ) → n ≡ length ws → n ≡ 0 → ws ≡ []
nothing [] n is none = refl
nothing (w ∷ ws) n is none = absurd (omega (arith, is, none))
