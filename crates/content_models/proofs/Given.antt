-- What entering and a step give is a leaf that may come there.
use Rattle.std.proofs.Common.{◌≡◌, ℕ, zero, suc, ◌+◌, ◌-◌, ◌<◌, ◌⊎◌, inl, inr, List, [], ◌∷◌, ◌++◌, Option, Some, None, Bool, true, ◌&&◌, cond, refl, sym, ap, subst, arith}
use Rattle.std.proofs.lemmas.Bool.{ltb-true}
use Rattle.base_texts.specs.declared.texts.Name.{Name}
use Rattle.base_texts.specs.Names.{name_eq}
use Rattle.base_texts.proofs.NameLaws.{name_eq-Decides}
use Rattle.content_models.specs.Particle.{Particle, occurs, Term, element, sequence, choice, all, Particles, none, more}
use Rattle.content_models.specs.Language.{Turn, Leaf, leaf_at, joined, Within, Lang, Body, InOrder, OneOf, size_of, turn_of}
use Rattle.content_models.specs.Clear.{and_then, first_in_order, empties, all_empty, follow_of_body, AreSingle, Clear, ClearInOrder}
use Rattle.content_models.proofs.Orders.{stands_alone}
use Rattle.content_models.proofs.Clearing.{ClearTerm, ClearAny}
use Rattle.content_models.specs.Occurring.{AllowOne, MayOccur, TermMayOccur, AllMayOccur}
use Rattle.content_models.specs.Spots.{Spot, at, Inner, here, inside, among, over, first_kid, next_kid, may_repeat, may_stop, enter, enter_term, enter_order, enter_one, finishes, finishes_term, finishes_order, finishes_one, next, next_term, next_order, next_one, leaf_of, leaf_of_term, leaf_in, After, AfterTerm, AfterOrder, AfterOne, AfterAll, Left, pick, unmarked, among_picked, leaf_among}
use Rattle.content_models.proofs.Starting.{some_times, within_more, some_body, some_order, some_any, empty_list, empty_order}
use Rattle.content_models.proofs.Entering.{both_true, no_here, no_here_one, no_among, no_among_one}
use Rattle.content_models.proofs.Options.{over_some, or_else_some, cond_some}
use Rattle.content_models.proofs.Among.{left_of, order_left, done_left, pick_gives}

-- a leaf of the name, which may come there, and after which something may come
pub record Gives (leaf : Option Leaf) (after before : List Leaf → Type 0) (a : Name) : Type 0 where
  pub l : Leaf
  pub leaf_is : leaf ≡ Some l
  pub named : l.name ≡ a
  pub back : (w : List Leaf) → after w → before (l ∷ w)
  pub rest : List Leaf
  pub some : after rest

-- nothing more may come where nothing more is needed
stop_within : (least : ℕ) (most : Option ℕ) (i k : ℕ) → may_stop least i ≡ true → Within least most (suc i + k) → Within least most (suc i + 0)
stop_within least None i k s h = let l : least < suc (suc i) = ltb-true least (suc (suc i)) s in omega arith
stop_within least (Some most) i k s h = let l : least < suc (suc i) = ltb-true least (suc (suc i)) s in (omega arith, omega (arith, h.1))

mutual
  pub done_after : (p : Particle) (n : ℕ) (path : List Turn) (s : Spot) (w : List Leaf) → MayOccur p → finishes p s ≡ true → After p n path s w → After p n path s []
  done_after (occurs t least most) n path (at i s) w c f (x, y, k, e, hx, ik, hk) =
      let b = both_true (finishes_term t s) (may_stop least i) f in
      ([], [], 0, refl, done_after_term t n (path ++ turn_of n i ∷ []) s x c.1 b.0 hx, stop_within least most i k b.1 ik, refl)

  pub done_after_term : (t : Term) (n : ℕ) (path : List Turn) (s : Inner) (w : List Leaf) → TermMayOccur t → finishes_term t s ≡ true → AfterTerm t n path s w → AfterTerm t n path s []
  done_after_term (element d a) n path here w c f h = refl
  done_after_term (element d a) n path (inside j s) w c f h = absurd h
  done_after_term (element d a) n path (among j ms) w c f h = absurd h
  done_after_term (sequence ps) n path s w c f h = done_after_order ps (suc n) path s w c f h
  done_after_term (choice ps) n path s w c f h = done_after_one ps (suc n) path s w c.1 f h
  done_after_term (all ps) n path here w c f h = absurd h
  done_after_term (all ps) n path (inside j s) w c f h = absurd h
  done_after_term (all ps) n path (among j ms) w c f (xs, e, h) = done_left ps ms (suc n) path xs c f h

  pub done_after_order : (ps : Particles) (n : ℕ) (path : List Turn) (s : Inner) (w : List Leaf) → AllMayOccur ps → finishes_order ps s ≡ true → AfterOrder ps n path s w → AfterOrder ps n path s []
  done_after_order none n path s w c f h = absurd h
  done_after_order (more p ps) n path here w c f h = absurd h
  done_after_order (more p ps) n path (inside zero s) w c f (x, y, e, hp, hs) =
      let b = both_true (finishes p s) (all_empty ps) f in
      ([], [], refl, done_after p n path s x c.0 b.0 hp, empty_order ps (n + size_of p) path c.1 b.1)
  done_after_order (more p ps) n path (inside (suc j) s) w c f h = done_after_order ps (n + size_of p) path (inside j s) w c.1 f h
  done_after_order (more p ps) n path (among j ms) w c f h = absurd h

  pub done_after_one : (ps : Particles) (n : ℕ) (path : List Turn) (s : Inner) (w : List Leaf) → AllMayOccur ps → finishes_one ps s ≡ true → AfterOne ps n path s w → AfterOne ps n path s []
  done_after_one none n path s w c f h = absurd h
  done_after_one (more p ps) n path here w c f h = absurd h
  done_after_one (more p ps) n path (inside zero s) w c f h = done_after p n path s w c.0 f h
  done_after_one (more p ps) n path (inside (suc j) s) w c f h = done_after_one ps (n + size_of p) path (inside j s) w c.1 f h
  done_after_one (more p ps) n path (among j ms) w c f h = absurd h

one_more_within : (least : ℕ) (most : Option ℕ) (k : ℕ) → Within least most (1 + k) → Within least most (suc k)
one_more_within least most k h = subst (λ j. Within least most j) (omega arith) h

occurs_gives : (t : Term) (least : ℕ) (most : Option ℕ) (n : ℕ) (path : List Turn) (s : Inner) (a : Name) → MayOccur (occurs t least most)
    → Gives (leaf_of_term t n (path ++ turn_of n 0 ∷ []) s) (AfterTerm t n (path ++ turn_of n 0 ∷ []) s) (Body t n (path ++ turn_of n 0 ∷ [])) a
    → Gives (leaf_of (occurs t least most) n path (at 0 s)) (After (occurs t least most) n path (at 0 s)) (Lang (occurs t least most) n path) a
occurs_gives t least most n path s a d g =
    let m = within_more least most d.0 in
    let r = some_times (λ i. Body t n (path ++ turn_of n i ∷ [])) (λ i. some_body t n (path ++ turn_of n i ∷ []) d.1) m.0 1 in
    record {
      l = g.l;
      leaf_is = g.leaf_is;
      named = g.named;
      back = λ w (x, y, k, e, hx, ik, hk). (suc k, one_more_within least most k ik, (g.l ∷ x, y, ap (λ z. g.l ∷ z) e, g.back x hx, hk));
      rest = g.rest ++ r.0;
      some = (g.rest, r.0, m.0, refl, g.some, subst (λ j. Within least most j) (omega arith) m.1, r.1);
    }

first_gives : (p : Particle) (ps : Particles) (n : ℕ) (path : List Turn) (s : Spot) (a : Name) → AllMayOccur ps
    → Gives (leaf_of p n path s) (After p n path s) (Lang p n path) a
    → Gives (leaf_in (more p ps) n path (inside 0 s)) (AfterOrder (more p ps) n path (inside 0 s)) (InOrder (more p ps) n path) a
first_gives p ps n path s a d g =
    let r = some_order ps (n + size_of p) path d in
    record {
      l = g.l;
      leaf_is = g.leaf_is;
      named = g.named;
      back = λ w (x, y, e, hp, hs). (g.l ∷ x, y, ap (λ z. g.l ∷ z) e, g.back x hp, hs);
      rest = g.rest ++ r.0;
      some = (g.rest, r.0, refl, g.some, r.1);
    }

-- the same of a later kid
later_gives : (p : Particle) (ps : Particles) (n : ℕ) (path : List Turn) (s : Inner) (a : Name) (before after : List Leaf → Type 0)
    → ((w : List Leaf) → before w → after w)
    → Gives (leaf_in ps (n + size_of p) path s) (AfterOrder ps (n + size_of p) path s) before a
    → Gives (leaf_in (more p ps) n path (next_kid s)) (AfterOrder (more p ps) n path (next_kid s)) after a
later_gives p ps n path here a before after f g = absurd (no_here ps (n + size_of p) path g.rest g.some)
later_gives p ps n path (among j ms) a before after f g = absurd (no_among ps (n + size_of p) path j ms g.rest g.some)
later_gives p ps n path (inside j s) a before after f g =
    record { l = g.l; leaf_is = g.leaf_is; named = g.named; back = λ w h. f (g.l ∷ w) (g.back w h); rest = g.rest; some = g.some }

later_one_gives : (p : Particle) (ps : Particles) (n : ℕ) (path : List Turn) (s : Inner) (a : Name) (before after : List Leaf → Type 0)
    → ((w : List Leaf) → before w → after w)
    → Gives (leaf_in ps (n + size_of p) path s) (AfterOne ps (n + size_of p) path s) before a
    → Gives (leaf_in (more p ps) n path (next_kid s)) (AfterOne (more p ps) n path (next_kid s)) after a
later_one_gives p ps n path here a before after f g = absurd (no_here_one ps (n + size_of p) path g.rest g.some)
later_one_gives p ps n path (among j ms) a before after f g = absurd (no_among_one ps (n + size_of p) path j ms g.rest g.some)
later_one_gives p ps n path (inside j s) a before after f g =
    record { l = g.l; leaf_is = g.leaf_is; named = g.named; back = λ w h. f (g.l ∷ w) (g.back w h); rest = g.rest; some = g.some }

order_pick : (p : Particle) (ps : Particles) (n : ℕ) (path : List Turn) (a : Name) (s : Inner) → AllMayOccur ps
    → ((r : Spot) → enter p a ≡ Some r → Gives (leaf_of p n path r) (After p n path r) (Lang p n path) a)
    → ((r : Inner) → enter_order ps a ≡ Some r → Gives (leaf_in ps (n + size_of p) path r) (AfterOrder ps (n + size_of p) path r) (InOrder ps (n + size_of p) path) a)
    → (empties p ≡ true → Lang p n path [])
    → (enter_order (more p ps) a ≡ Some s)
    → Gives (leaf_in (more p ps) n path s) (AfterOrder (more p ps) n path s) (InOrder (more p ps) n path) a
order_pick p ps n path a s d one rest empty e = go (or_else_some (over first_kid (enter p a)) (cond (empties p) (over next_kid (enter_order ps a)) None) s e)
  where
    go : (over first_kid (enter p a) ≡ Some s) ⊎ ((over first_kid (enter p a) ≡ None) × (cond (empties p) (over next_kid (enter_order ps a)) None ≡ Some s))
        → Gives (leaf_in (more p ps) n path s) (AfterOrder (more p ps) n path s) (InOrder (more p ps) n path) a
    go (inl f) =
        let o = over_some first_kid (enter p a) s f in
        subst (λ z. Gives (leaf_in (more p ps) n path z) (AfterOrder (more p ps) n path z) (InOrder (more p ps) n path) a) (sym o.2) (first_gives p ps n path o.0 a d (one o.0 o.1))
    go (inr f) =
        let q = cond_some (empties p) (over next_kid (enter_order ps a)) s f.1 in
        let o = over_some next_kid (enter_order ps a) s q.1 in
        subst (λ z. Gives (leaf_in (more p ps) n path z) (AfterOrder (more p ps) n path z) (InOrder (more p ps) n path) a) (sym o.2)
        (later_gives p ps n path o.0 a (InOrder ps (n + size_of p) path) (InOrder (more p ps) n path) (λ w h. ([], w, refl, empty q.0, h)) (rest o.0 o.1))

one_pick : (p : Particle) (ps : Particles) (n : ℕ) (path : List Turn) (a : Name) (s : Inner)
    → ((r : Spot) → enter p a ≡ Some r → Gives (leaf_of p n path r) (After p n path r) (Lang p n path) a)
    → ((r : Inner) → enter_one ps a ≡ Some r → Gives (leaf_in ps (n + size_of p) path r) (AfterOne ps (n + size_of p) path r) (OneOf ps (n + size_of p) path) a)
    → (enter_one (more p ps) a ≡ Some s)
    → Gives (leaf_in (more p ps) n path s) (AfterOne (more p ps) n path s) (OneOf (more p ps) n path) a
one_pick p ps n path a s one rest e = go (or_else_some (over first_kid (enter p a)) (over next_kid (enter_one ps a)) s e)
  where
    go : (over first_kid (enter p a) ≡ Some s) ⊎ ((over first_kid (enter p a) ≡ None) × (over next_kid (enter_one ps a) ≡ Some s))
        → Gives (leaf_in (more p ps) n path s) (AfterOne (more p ps) n path s) (OneOf (more p ps) n path) a
    go (inl f) =
        let o = over_some first_kid (enter p a) s f in
        let g = one o.0 o.1 in
        subst (λ z. Gives (leaf_in (more p ps) n path z) (AfterOne (more p ps) n path z) (OneOf (more p ps) n path) a) (sym o.2)
        (record { l = g.l; leaf_is = g.leaf_is; named = g.named; back = λ w h. inl (g.back w h); rest = g.rest; some = g.some })
    go (inr f) =
        let o = over_some next_kid (enter_one ps a) s f.1 in
        subst (λ z. Gives (leaf_in (more p ps) n path z) (AfterOne (more p ps) n path z) (OneOf (more p ps) n path) a) (sym o.2)
        (later_one_gives p ps n path o.0 a (OneOf ps (n + size_of p) path) (OneOf (more p ps) n path) (λ w h. inr h) (rest o.0 o.1))

here_only : (s : Inner) (n d : ℕ) (a b : Name) (path : List Turn) → b ≡ a → Some here ≡ Some s
    → Gives (leaf_of_term (element d b) n path s) (AfterTerm (element d b) n path s) (Body (element d b) n path) a
here_only s n d a b path is e =
    let q : here ≡ s = cc in
    subst (λ z. Gives (leaf_of_term (element d b) n path z) (AfterTerm (element d b) n path z) (Body (element d b) n path) a) q
    (record { l = leaf_at n d b path; leaf_is = refl; named = is; back = λ w h. ap (λ z. leaf_at n d b path ∷ z) h; rest = []; some = refl })

-- what picking a kid of an all gives, where its particles have lists before
among_gives : (ps : Particles) (ms : List Bool) (n : ℕ) (path : List Turn) (a : Name) (s : Inner) (before : List Leaf → Type 0) (xs : List (List Leaf)) → AreSingle ps → AllMayOccur ps
    → ((vs : List (List Leaf)) → Left ps ms n path vs → before (joined vs)) → Left ps ms n path xs → over among_picked (pick ps ms a) ≡ Some s
    → Gives (leaf_among ps n path s) (AfterAll ps n path s) before a
among_gives ps ms n path a s before xs single d put h e =
    let o = over_some among_picked (pick ps ms a) s e in
    let g = pick_gives ps ms n path a o.0 xs single d h o.1 in
    subst (λ z. Gives (leaf_among ps n path z) (AfterAll ps n path z) before a) (sym o.2)
    (record {
      l = g.l;
      leaf_is = g.leaf_is;
      named = g.named;
      back = λ w (vs, q, k). subst (λ u. before (g.l ∷ u)) (sym q) (put ((g.l ∷ []) ∷ vs) (g.back vs k));
      rest = joined g.rest;
      some = (g.rest, refl, g.some);
    })

mutual
  pub enter_gives : (p : Particle) (follow : List Name) (n : ℕ) (path : List Turn) (a : Name) (s : Spot) → Clear p follow → MayOccur p → enter p a ≡ Some s
      → Gives (leaf_of p n path s) (After p n path s) (Lang p n path) a
  enter_gives (occurs t least most) follow n path a s c d e =
      let o = over_some (at 0) (enter_term t a) s e in
      subst (λ z. Gives (leaf_of (occurs t least most) n path z) (After (occurs t least most) n path z) (Lang (occurs t least most) n path) a) (sym o.2)
      (occurs_gives t least most n path o.0 a d (enter_term_gives t (follow_of_body follow t most) n (path ++ turn_of n 0 ∷ []) a o.0 (c.2, c.4, stands_alone t least most follow c.3) d.1 o.1))

  pub enter_term_gives : (t : Term) (follow : List Name) (n : ℕ) (path : List Turn) (a : Name) (s : Inner) → ClearTerm t follow → TermMayOccur t → enter_term t a ≡ Some s
      → Gives (leaf_of_term t n path s) (AfterTerm t n path s) (Body t n path) a
  enter_term_gives (element d b) follow n path a s c g e =
      let q = cond_some (name_eq a b) (Some here) s e in here_only s n d a b path (sym ((name_eq-Decides a b).0 q.0)) q.1
  enter_term_gives (sequence ps) follow n path a s c d e = enter_order_gives ps follow (suc n) path a s c.1 d e
  enter_term_gives (choice ps) follow n path a s c d e = enter_one_gives ps follow (suc n) path a s (c.0.0, c.1) d.1 e
  enter_term_gives (all ps) follow n path a s c d e =
      let r = some_any ps (suc n) path d in
      among_gives ps (unmarked ps) (suc n) path a s (Body (all ps) n path) r.0 c.2.1 d
      (λ vs h. (vs, refl, order_left ps (suc n) path vs h)) (left_of ps (suc n) path r.0 r.1) e

  pub enter_order_gives : (ps : Particles) (follow : List Name) (n : ℕ) (path : List Turn) (a : Name) (s : Inner) → ClearInOrder ps follow → AllMayOccur ps → enter_order ps a ≡ Some s
      → Gives (leaf_in ps n path s) (AfterOrder ps n path s) (InOrder ps n path) a
  enter_order_gives none follow n path a s c d e = absurd (cc)
  enter_order_gives (more p ps) follow n path a s c d e =
      order_pick p ps n path a s d.1 (λ r q. enter_gives p (and_then (first_in_order ps) (all_empty ps) follow) n path a r c.0 d.0 q)
      (λ r q. enter_order_gives ps follow (n + size_of p) path a r c.1 d.1 q) (λ q. empty_list p n path d.0 q) e

  pub enter_one_gives : (ps : Particles) (follow : List Name) (n : ℕ) (path : List Turn) (a : Name) (s : Inner) → ClearAny ps follow → AllMayOccur ps → enter_one ps a ≡ Some s
      → Gives (leaf_in ps n path s) (AfterOne ps n path s) (OneOf ps n path) a
  enter_one_gives none follow n path a s c d e = absurd (cc)
  enter_one_gives (more p ps) follow n path a s c d e =
      one_pick p ps n path a s (λ r q. enter_gives p follow n path a r c.1.0 d.0 q) (λ r q. enter_one_gives ps follow (n + size_of p) path a r (c.0.1, c.1.1) d.1 q) e

-- a step that stays in the occurrence, or begins the next
occurs_step : (t : Term) (least : ℕ) (most : Option ℕ) (n : ℕ) (path : List Turn) (i : ℕ) (s : Inner) (a : Name) (z : Spot) (w0 : List Leaf) → MayOccur (occurs t least most)
    → After (occurs t least most) n path (at i s) w0
    → ((r : Inner) (x : List Leaf) → AfterTerm t n (path ++ turn_of n i ∷ []) s x → next_term t s a ≡ Some r
    → Gives (leaf_of_term t n (path ++ turn_of n i ∷ []) r) (AfterTerm t n (path ++ turn_of n i ∷ []) r) (AfterTerm t n (path ++ turn_of n i ∷ []) s) a)
    → ((r : Inner) → enter_term t a ≡ Some r
    → Gives (leaf_of_term t n (path ++ turn_of n (suc i) ∷ []) r) (AfterTerm t n (path ++ turn_of n (suc i) ∷ []) r) (Body t n (path ++ turn_of n (suc i) ∷ [])) a)
    → ((x : List Leaf) → finishes_term t s ≡ true → AfterTerm t n (path ++ turn_of n i ∷ []) s x → AfterTerm t n (path ++ turn_of n i ∷ []) s [])
    → next (occurs t least most) (at i s) a ≡ Some z
    → Gives (leaf_of (occurs t least most) n path z) (After (occurs t least most) n path z) (After (occurs t least most) n path (at i s)) a
occurs_step t least most n path i s a z w0 d (x, y, k, e, hx, ik, hk) stay enters done f =
    go (or_else_some (over (at i) (next_term t s a)) (cond (finishes_term t s && may_repeat most i) (over (at (suc i)) (enter_term t a)) None) z f)
  where
    bound : (m : Option ℕ) → may_repeat m i ≡ true → AllowOne least m → Within least m (suc i + k) → (j : ℕ) × Within least m (suc (suc i) + j)
    bound None r b w = (k, omega arith)
    bound (Some m) r b w =
        let l : suc i < m = ltb-true (suc i) m r in
        (m - suc (suc i), (omega (arith, b.0), omega arith))

    again : finishes_term t s ≡ true → may_repeat most i ≡ true → (r : Inner) → enter_term t a ≡ Some r
        → Gives (leaf_of (occurs t least most) n path (at (suc i) r)) (After (occurs t least most) n path (at (suc i) r)) (After (occurs t least most) n path (at i s)) a
    again fin may r q =
        let g = enters r q in
        let j = bound most may d.0 ik in
        let m = some_times (λ i. Body t n (path ++ turn_of n i ∷ [])) (λ i. some_body t n (path ++ turn_of n i ∷ []) d.1) j.0 (suc (suc i)) in
        record {
          l = g.l;
          leaf_is = g.leaf_is;
          named = g.named;
          back = λ w (x1, y1, k1, e1, h1, i1, t1).
              ([], g.l ∷ w, suc k1, refl, done x fin hx, subst (λ j. Within least most j) (omega arith) i1, (g.l ∷ x1, y1, ap (λ z. g.l ∷ z) e1, g.back x1 h1, t1));
          rest = g.rest ++ m.0;
          some = (g.rest, m.0, j.0, refl, g.some, j.1, m.1);
        }

    go : (over (at i) (next_term t s a) ≡ Some z) ⊎ ((over (at i) (next_term t s a) ≡ None) × (cond (finishes_term t s && may_repeat most i) (over (at (suc i)) (enter_term t a)) None ≡ Some z))
        → Gives (leaf_of (occurs t least most) n path z) (After (occurs t least most) n path z) (After (occurs t least most) n path (at i s)) a
    go (inl h) =
        let o = over_some (at i) (next_term t s a) z h in
        let g = stay o.0 x hx o.1 in
        subst (λ z. Gives (leaf_of (occurs t least most) n path z) (After (occurs t least most) n path z) (After (occurs t least most) n path (at i s)) a) (sym o.2)
        (record {
          l = g.l;
          leaf_is = g.leaf_is;
          named = g.named;
          back = λ w (x1, y1, k1, e1, h1, i1, t1). (g.l ∷ x1, y1, k1, ap (λ z. g.l ∷ z) e1, g.back x1 h1, i1, t1);
          rest = g.rest ++ y;
          some = (g.rest, y, k, refl, g.some, ik, hk);
        })
    go (inr h) =
        let q = cond_some (finishes_term t s && may_repeat most i) (over (at (suc i)) (enter_term t a)) z h.1 in
        let b = both_true (finishes_term t s) (may_repeat most i) q.0 in
        let o = over_some (at (suc i)) (enter_term t a) z q.1 in
        subst (λ z. Gives (leaf_of (occurs t least most) n path z) (After (occurs t least most) n path z) (After (occurs t least most) n path (at i s)) a) (sym o.2) (again b.0 b.1 o.0 o.1)

order_step : (p : Particle) (ps : Particles) (n : ℕ) (path : List Turn) (s : Spot) (a : Name) (z : Inner) (w0 : List Leaf)
    → AfterOrder (more p ps) n path (inside 0 s) w0
    → ((r : Spot) (x : List Leaf) → After p n path s x → next p s a ≡ Some r → Gives (leaf_of p n path r) (After p n path r) (After p n path s) a)
    → ((r : Inner) → enter_order ps a ≡ Some r → Gives (leaf_in ps (n + size_of p) path r) (AfterOrder ps (n + size_of p) path r) (InOrder ps (n + size_of p) path) a)
    → ((x : List Leaf) → finishes p s ≡ true → After p n path s x → After p n path s [])
    → next_order (more p ps) (inside 0 s) a ≡ Some z
    → Gives (leaf_in (more p ps) n path z) (AfterOrder (more p ps) n path z) (AfterOrder (more p ps) n path (inside 0 s)) a
order_step p ps n path s a z w0 (x, y, e, hp, hs) stay enters done f =
    go (or_else_some (over first_kid (next p s a)) (cond (finishes p s) (over next_kid (enter_order ps a)) None) z f)
  where
    go : (over first_kid (next p s a) ≡ Some z) ⊎ ((over first_kid (next p s a) ≡ None) × (cond (finishes p s) (over next_kid (enter_order ps a)) None ≡ Some z))
        → Gives (leaf_in (more p ps) n path z) (AfterOrder (more p ps) n path z) (AfterOrder (more p ps) n path (inside 0 s)) a
    go (inl h) =
        let o = over_some first_kid (next p s a) z h in
        let g = stay o.0 x hp o.1 in
        subst (λ z. Gives (leaf_in (more p ps) n path z) (AfterOrder (more p ps) n path z) (AfterOrder (more p ps) n path (inside 0 s)) a) (sym o.2)
        (record {
          l = g.l;
          leaf_is = g.leaf_is;
          named = g.named;
          back = λ w (x1, y1, e1, h1, t1). (g.l ∷ x1, y1, ap (λ z. g.l ∷ z) e1, g.back x1 h1, t1);
          rest = g.rest ++ y;
          some = (g.rest, y, refl, g.some, hs);
        })
    go (inr h) =
        let q = cond_some (finishes p s) (over next_kid (enter_order ps a)) z h.1 in
        let o = over_some next_kid (enter_order ps a) z q.1 in
        subst (λ z. Gives (leaf_in (more p ps) n path z) (AfterOrder (more p ps) n path z) (AfterOrder (more p ps) n path (inside 0 s)) a) (sym o.2)
        (later_gives p ps n path o.0 a (InOrder ps (n + size_of p) path) (AfterOrder (more p ps) n path (inside 0 s)) (λ w k. ([], w, refl, done x q.0 hp, k)) (enters o.0 o.1))

mutual
  pub next_gives : (p : Particle) (follow : List Name) (n : ℕ) (path : List Turn) (s : Spot) (a : Name) (z : Spot) (w : List Leaf) → Clear p follow → MayOccur p → After p n path s w
      → next p s a ≡ Some z → Gives (leaf_of p n path z) (After p n path z) (After p n path s) a
  next_gives (occurs t least most) follow n path (at i s) a z w c d h e =
      occurs_step t least most n path i s a z w d h
      (λ r x g q. next_term_gives t (follow_of_body follow t most) n (path ++ turn_of n i ∷ []) s a r x (c.2, c.4, stands_alone t least most follow c.3) d.1 g q)
      (λ r q. enter_term_gives t (follow_of_body follow t most) n (path ++ turn_of n (suc i) ∷ []) a r (c.2, c.4, stands_alone t least most follow c.3) d.1 q)
      (λ x f g. done_after_term t n (path ++ turn_of n i ∷ []) s x d.1 f g) e

  pub next_term_gives : (t : Term) (follow : List Name) (n : ℕ) (path : List Turn) (s : Inner) (a : Name) (z : Inner) (w : List Leaf) → ClearTerm t follow → TermMayOccur t → AfterTerm t n path s w
      → next_term t s a ≡ Some z → Gives (leaf_of_term t n path z) (AfterTerm t n path z) (AfterTerm t n path s) a
  next_term_gives (element m b) follow n path s a z w c d h e = absurd (cc (e))
  next_term_gives (sequence ps) follow n path s a z w c d h e = next_order_gives ps follow (suc n) path s a z w c.1 d h e
  next_term_gives (choice ps) follow n path s a z w c d h e = next_one_gives ps follow (suc n) path s a z w (c.0.0, c.1) d.1 h e
  next_term_gives (all ps) follow n path here a z w c d h e = absurd h
  next_term_gives (all ps) follow n path (inside j s) a z w c d h e = absurd h
  next_term_gives (all ps) follow n path (among j ms) a z w c d (xs, q, h) e =
      among_gives ps ms (suc n) path a z (AfterTerm (all ps) n path (among j ms)) xs c.2.1 d (λ vs k. (vs, refl, k)) h e

  pub next_order_gives : (ps : Particles) (follow : List Name) (n : ℕ) (path : List Turn) (s : Inner) (a : Name) (z : Inner) (w : List Leaf) → ClearInOrder ps follow → AllMayOccur ps → AfterOrder ps n path s w
      → next_order ps s a ≡ Some z → Gives (leaf_in ps n path z) (AfterOrder ps n path z) (AfterOrder ps n path s) a
  next_order_gives none follow n path s a z w c d h e = absurd h
  next_order_gives (more p ps) follow n path here a z w c d h e = absurd h
  next_order_gives (more p ps) follow n path (inside zero s) a z w c d h e =
      order_step p ps n path s a z w h
      (λ r x g q. next_gives p (and_then (first_in_order ps) (all_empty ps) follow) n path s a r x c.0 d.0 g q)
      (λ r q. enter_order_gives ps follow (n + size_of p) path a r c.1 d.1 q)
      (λ x f g. done_after p n path s x d.0 f g) e
  next_order_gives (more p ps) follow n path (inside (suc j) s) a z w c d h e =
      let o = over_some next_kid (next_order ps (inside j s) a) z e in
      subst (λ z. Gives (leaf_in (more p ps) n path z) (AfterOrder (more p ps) n path z) (AfterOrder ps (n + size_of p) path (inside j s)) a) (sym o.2)
      (later_gives p ps n path o.0 a (AfterOrder ps (n + size_of p) path (inside j s)) (AfterOrder ps (n + size_of p) path (inside j s)) (λ w k. k)
      (next_order_gives ps follow (n + size_of p) path (inside j s) a o.0 w c.1 d.1 h o.1))
  next_order_gives (more p ps) follow n path (among j ms) a z w c d h e = absurd h

  pub next_one_gives : (ps : Particles) (follow : List Name) (n : ℕ) (path : List Turn) (s : Inner) (a : Name) (z : Inner) (w : List Leaf) → ClearAny ps follow → AllMayOccur ps → AfterOne ps n path s w
      → next_one ps s a ≡ Some z → Gives (leaf_in ps n path z) (AfterOne ps n path z) (AfterOne ps n path s) a
  next_one_gives none follow n path s a z w c d h e = absurd h
  next_one_gives (more p ps) follow n path here a z w c d h e = absurd h
  next_one_gives (more p ps) follow n path (inside zero s) a z w c d h e =
      let o = over_some first_kid (next p s a) z e in
      let g = next_gives p follow n path s a o.0 w c.1.0 d.0 h o.1 in
      subst (λ z. Gives (leaf_in (more p ps) n path z) (AfterOne (more p ps) n path z) (After p n path s) a) (sym o.2)
      (record { l = g.l; leaf_is = g.leaf_is; named = g.named; back = g.back; rest = g.rest; some = g.some })
  next_one_gives (more p ps) follow n path (inside (suc j) s) a z w c d h e =
      let o = over_some next_kid (next_one ps (inside j s) a) z e in
      subst (λ z. Gives (leaf_in (more p ps) n path z) (AfterOne (more p ps) n path z) (AfterOne ps (n + size_of p) path (inside j s)) a) (sym o.2)
      (later_one_gives p ps n path o.0 a (AfterOne ps (n + size_of p) path (inside j s)) (AfterOne ps (n + size_of p) path (inside j s)) (λ w k. k)
      (next_one_gives ps follow (n + size_of p) path (inside j s) a o.0 w (c.0.1, c.1.1) d.1 h o.1))
  next_one_gives (more p ps) follow n path (among j ms) a z w c d h e = absurd h
