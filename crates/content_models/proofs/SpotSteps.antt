-- The leaf after a spot is the one that a step finds.
use Rattle.std.proofs.Common.{◌≡◌, ℕ, zero, suc, ◌+◌, ◌<◌, ◌⊎◌, inl, inr, List, [], ◌∷◌, ◌++◌, Option, Some, None, Bool, true, false, ◌&&◌, cond, refl, sym, ◌∙◌, subst, arith, nat_lt}
use Rattle.std.proofs.lemmas.Bool.{lt-ltb, ltb-true}
use Rattle.base_texts.specs.declared.texts.Name.{Name}
use Rattle.content_models.specs.Particle.{Particle, occurs, Term, element, sequence, choice, all, Particles, none, more}
use Rattle.content_models.specs.Language.{Turn, Leaf, names, Times, Within, Body, InOrder, size_of, turn_of}
use Rattle.content_models.specs.Clear.{IsNameIn, and_then, first_of_term, first_in_order, empties_term, all_empty, repeats, follow_of_body, Rule1, Rule2, Clear, ClearInOrder}
use Rattle.content_models.specs.Laws.{Opens}
use Rattle.content_models.proofs.Opening.{has_left, has_right, times_opens, body_opens, order_opens}
use Rattle.content_models.proofs.Splitting.{within_one, within_repeats}
use Rattle.content_models.proofs.Orders.{stands_alone}
use Rattle.content_models.proofs.Clearing.{ClearTerm, ClearAny}
use Rattle.content_models.specs.Occurring.{MayOccur, TermMayOccur, AllMayOccur}
use Rattle.content_models.specs.Spots.{Spot, at, Inner, here, inside, among, over, may_repeat, may_stop, enter_term, enter_order, finishes, finishes_term, finishes_order, finishes_one, next, next_term, next_order, next_one, leaf_of, leaf_of_term, leaf_in, After, AfterTerm, AfterOrder, AfterOne}
use Rattle.content_models.proofs.Options.{no_some}
use Rattle.content_models.proofs.Among.{left_done}
use Rattle.content_models.proofs.Entering.{left_finds, Found, FoundInner, heads, both_true, later_kid, later_one, enter_term_first, enter_order_first, enter_term_finds, enter_order_finds, all_apart}

both_empty : (x y : List Leaf) → [] ≡ x ++ y → (x ≡ []) × (y ≡ [])
both_empty [] y e = (refl, sym e)
both_empty (l ∷ x) y e = absurd (cc)

both_are : (e d : Bool) → e ≡ true → d ≡ true → (e && d) ≡ true
both_are e d h k = rw (h, k) refl

stop_bound : (least : ℕ) (most : Option ℕ) (i : ℕ) → Within least most (suc i + 0) → may_stop least i ≡ true
stop_bound least None i h = lt-ltb least (suc (suc i)) (omega (arith, h))
stop_bound least (Some most) i h = lt-ltb least (suc (suc i)) (omega (arith, h.0))

may_stop_now : (t : Term) (n : ℕ) (path : List Turn) (least : ℕ) (most : Option ℕ) (i : ℕ) (y : List Leaf) → Rule1 t least most
    → (k : ℕ) → Within least most (suc i + k) → Times (λ i. Body t n (path ++ turn_of n i ∷ [])) k (suc i) y → y ≡ [] → may_stop least i ≡ true
may_stop_now t n path least most i y one zero w h e = stop_bound least most i w
may_stop_now t n path least most i y (inl one) (suc k) w h e = lt-ltb least (suc (suc i)) (rw one.0 (omega arith))
may_stop_now t n path least most i y (inr full) (suc k) w h e =
    let o : empties_term t ≡ true = subst (λ s. Opens (first_of_term t) (empties_term t) (names s)) e
    (times_opens (λ i. Body t n (path ++ turn_of n i ∷ [])) (first_of_term t) (empties_term t) (λ j u b. body_opens t n (path ++ turn_of n j ∷ []) u b) (suc k) (suc i) y h) in
    absurd (cc (o, full))

mutual
  pub done_finishes : (p : Particle) (follow : List Name) (n : ℕ) (path : List Turn) (s : Spot) → Clear p follow → After p n path s [] → finishes p s ≡ true
  done_finishes (occurs t least most) follow n path (at i s) c (x, y, k, e, hx, ik, hk) =
      let b = both_empty x y e in
      both_are (finishes_term t s) (may_stop least i)
      (done_term t (follow_of_body follow t most) n (path ++ turn_of n i ∷ []) s (c.2, c.4, stands_alone t least most follow c.3) (subst (λ z. AfterTerm t n (path ++ turn_of n i ∷ []) s z) b.0 hx))
      (may_stop_now t n path least most i y c.0 k ik hk b.1)

  pub done_term : (t : Term) (follow : List Name) (n : ℕ) (path : List Turn) (s : Inner) → ClearTerm t follow → AfterTerm t n path s [] → finishes_term t s ≡ true
  done_term (element d a) follow n path here c h = refl
  done_term (element d a) follow n path (inside j s) c h = absurd h
  done_term (element d a) follow n path (among j ms) c h = absurd h
  done_term (sequence ps) follow n path s c h = done_order ps follow (suc n) path s c.1 h
  done_term (choice ps) follow n path s c h = done_one ps follow (suc n) path s (c.0.0, c.1) h
  done_term (all ps) follow n path here c h = absurd h
  done_term (all ps) follow n path (inside j s) c h = absurd h
  done_term (all ps) follow n path (among j ms) c (xs, e, h) = left_done ps ms (suc n) path xs h (sym e)

  pub done_order : (ps : Particles) (follow : List Name) (n : ℕ) (path : List Turn) (s : Inner) → ClearInOrder ps follow → AfterOrder ps n path s [] → finishes_order ps s ≡ true
  done_order none follow n path s c h = absurd h
  done_order (more p ps) follow n path here c h = absurd h
  done_order (more p ps) follow n path (inside zero s) c (x, y, e, hp, hs) =
      let b = both_empty x y e in
      both_are (finishes p s) (all_empty ps)
      (done_finishes p (and_then (first_in_order ps) (all_empty ps) follow) n path s c.0 (subst (λ z. After p n path s z) b.0 hp))
      (subst (λ z. Opens (first_in_order ps) (all_empty ps) (names z)) b.1 (order_opens ps (n + size_of p) path y hs))
  done_order (more p ps) follow n path (inside (suc j) s) c h = done_order ps follow (n + size_of p) path (inside j s) c.1 h
  done_order (more p ps) follow n path (among j ms) c h = absurd h

  pub done_one : (ps : Particles) (follow : List Name) (n : ℕ) (path : List Turn) (s : Inner) → ClearAny ps follow → AfterOne ps n path s [] → finishes_one ps s ≡ true
  done_one none follow n path s c h = absurd h
  done_one (more p ps) follow n path here c h = absurd h
  done_one (more p ps) follow n path (inside zero s) c h = done_finishes p follow n path s c.1.0 h
  done_one (more p ps) follow n path (inside (suc j) s) c h = done_one ps follow (n + size_of p) path (inside j s) (c.0.1, c.1.1) h
  done_one (more p ps) follow n path (among j ms) c h = absurd h

may_more : (least : ℕ) (most : Option ℕ) (i k : ℕ) → Within least most (suc i + suc k) → may_repeat most i ≡ true
may_more least None i k h = refl
may_more least (Some most) i k h = lt-ltb (suc i) most (omega (arith, h.1))

no_repeat : (t : Term) (least : ℕ) (most : Option ℕ) (follow : List Name) (i : ℕ) (a : Name) (b : Bool) → Rule2 t least most follow → may_stop least i ≡ true → IsNameIn a follow
    → cond (b && may_repeat most i) (over (at (suc i)) (enter_term t a)) None ≡ None
no_repeat t least most follow i a false two stop h = refl
no_repeat t least most follow i a true (inl eq) stop h =
    let less : least < suc (suc i) = ltb-true least (suc (suc i)) stop in
    rw eq (go (nat_lt (suc i) least) refl less)
  where
    go : (b : Bool) → nat_lt (suc i) least ≡ b → least < suc (suc i) → cond b (over (at (suc i)) (enter_term t a)) None ≡ None
    go true e l = absurd (let m : suc i < least = ltb-true (suc i) least e in omega arith)
    go false e l = refl
no_repeat t least most follow i a true (inr apart) stop h =
    let none : enter_term t a ≡ None = no_some (enter_term t a) (λ s q. apart a (enter_term_first t a s q) h) in
    rw none (go (may_repeat most i))
  where
    go : (b : Bool) → cond b (over {A = Inner} (at (suc i)) None) None ≡ None
    go true = refl
    go false = refl

mutual
  pub no_next : (p : Particle) (follow : List Name) (s : Spot) (a : Name) → Clear p follow → MayOccur p → finishes p s ≡ true → IsNameIn a follow → next p s a ≡ None
  no_next (occurs t least most) follow (at i s) a c d f h =
      let b = both_true (finishes_term t s) (may_stop least i) f in
      rw (no_next_term t (follow_of_body follow t most) s a (c.2, c.4, stands_alone t least most follow c.3) d.1 b.0 (has_left a follow (cond (repeats most) (first_of_term t) []) h))
      (no_repeat t least most follow i a (finishes_term t s) c.1 b.1 h)

  pub no_next_term : (t : Term) (follow : List Name) (s : Inner) (a : Name) → ClearTerm t follow → TermMayOccur t → finishes_term t s ≡ true → IsNameIn a follow → next_term t s a ≡ None
  no_next_term (element m b) follow s a c d f h = refl
  no_next_term (sequence ps) follow s a c d f h = no_next_order ps follow s a c.1 d f h
  no_next_term (choice ps) follow s a c d f h = no_next_one ps follow s a (c.0.0, c.1) d.1 f h
  no_next_term (all ps) follow s a c d f h = absurd (subst (λ g. IsNameIn a g) c.2.0 h)

  pub no_next_order : (ps : Particles) (follow : List Name) (s : Inner) (a : Name) → ClearInOrder ps follow → AllMayOccur ps → finishes_order ps s ≡ true → IsNameIn a follow → next_order ps s a ≡ None
  no_next_order none follow s a c d f h = refl
  no_next_order (more p ps) follow here a c d f h = refl
  no_next_order (more p ps) follow (inside zero s) a c d f h =
      let b = both_true (finishes p s) (all_empty ps) f in
      let one : next p s a ≡ None = no_next p (and_then (first_in_order ps) (all_empty ps) follow) s a c.0 d.0 b.0 (rw b.1 (has_right a (first_in_order ps) follow h)) in
      let rest : enter_order ps a ≡ None =
      no_some (enter_order ps a) (λ r q. all_apart ps follow c.1 d.1 b.1 a (enter_order_first ps a r q) h) in
      rw (one, b.0, rest) refl
  no_next_order (more p ps) follow (inside (suc j) s) a c d f h = rw (no_next_order ps follow (inside j s) a c.1 d.1 f h) refl
  no_next_order (more p ps) follow (among j ms) a c d f h = refl

  pub no_next_one : (ps : Particles) (follow : List Name) (s : Inner) (a : Name) → ClearAny ps follow → AllMayOccur ps → finishes_one ps s ≡ true → IsNameIn a follow → next_one ps s a ≡ None
  no_next_one none follow s a c d f h = refl
  no_next_one (more p ps) follow here a c d f h = refl
  no_next_one (more p ps) follow (inside zero s) a c d f h = rw (no_next p follow s a c.1.0 d.0 f h) refl
  no_next_one (more p ps) follow (inside (suc j) s) a c d f h = rw (no_next_one ps follow (inside j s) a (c.0.1, c.1.1) d.1 f h) refl
  no_next_one (more p ps) follow (among j ms) a c d f h = refl

-- a step stays in the occurrence, or begins the next
occurs_next : (t : Term) (least : ℕ) (most : Option ℕ) (follow : List Name) (n : ℕ) (path : List Turn) (i : ℕ) (s : Inner) (l : Leaf) (w : List Leaf)
    → Rule1 t least most
    → ((z : List Leaf) → AfterTerm t n (path ++ turn_of n i ∷ []) s (l ∷ z)
    → FoundInner (next_term t s l.name) (leaf_of_term t n (path ++ turn_of n i ∷ [])) (AfterTerm t n (path ++ turn_of n i ∷ [])) l z)
    → ((z : List Leaf) → Body t n (path ++ turn_of n (suc i) ∷ []) (l ∷ z)
    → FoundInner (enter_term t l.name) (leaf_of_term t n (path ++ turn_of n (suc i) ∷ [])) (AfterTerm t n (path ++ turn_of n (suc i) ∷ [])) l z)
    → (AfterTerm t n (path ++ turn_of n i ∷ []) s [] → finishes_term t s ≡ true)
    → (finishes_term t s ≡ true → IsNameIn l.name (follow_of_body follow t most) → next_term t s l.name ≡ None)
    → (x y : List Leaf) (k : ℕ) → l ∷ w ≡ x ++ y → AfterTerm t n (path ++ turn_of n i ∷ []) s x → Within least most (suc i + k)
    → Times (λ i. Body t n (path ++ turn_of n i ∷ [])) k (suc i) y
    → Found (next (occurs t least most) (at i s) l.name) (leaf_of (occurs t least most) n path) (After (occurs t least most) n path) l w
occurs_next t least most follow n path i s l w one stay enters done stuck x y k e hx ik hk = go (heads x y l w e) k ik hk
  where
    again : finishes_term t s ≡ true → (k : ℕ) → Within least most (suc i + suc k)
        → (z y2 : List Leaf) → w ≡ z ++ y2 → Body t n (path ++ turn_of n (suc i) ∷ []) (l ∷ z)
        → Times (λ i. Body t n (path ++ turn_of n i ∷ [])) k (suc (suc i)) y2
        → Found (next (occurs t least most) (at i s) l.name) (leaf_of (occurs t least most) n path) (After (occurs t least most) n path) l w
    again f k ik z y2 ew b r =
        let g = enters z b in
        let many : repeats most ≡ true = within_repeats least most (suc i + suc k) ik (omega arith) in
        let may : may_repeat most i ≡ true = may_more least most i k ik in
        let first : IsNameIn l.name (first_of_term t) = body_opens t n (path ++ turn_of n (suc i) ∷ []) (l ∷ z) b in
        let none : next_term t s l.name ≡ None = stuck f (rw many (has_right l.name follow (first_of_term t) first)) in
        record {
          spot = at (suc i) g.spot;
          found = rw (none, f, may, g.found) refl;
          leaf_is = g.leaf_is;
          rest = (z, y2, k, ew, g.rest, subst (λ j. Within least most j) (omega arith) ik, r);
        }

    empty_body : (k : ℕ) → Within least most (suc i + suc k) → (y1 : List Leaf) → y1 ≡ [] → Body t n (path ++ turn_of n (suc i) ∷ []) y1 → Rule1 t least most → ⊥
    empty_body k ik y1 e b (inl one) =
        let q : suc i + suc k ≡ 1 = within_one (suc i + suc k) (rw (one.0, one.1) at ik) in omega (arith, q)
    empty_body k ik y1 e b (inr full) =
        let q : empties_term t ≡ true = subst (λ s. Opens (first_of_term t) (empties_term t) (names s)) e (body_opens t n (path ++ turn_of n (suc i) ∷ []) y1 b) in
        cc (q, full)

    split : finishes_term t s ≡ true → (k : ℕ) → Within least most (suc i + suc k) → (y1 y2 : List Leaf)
        → Body t n (path ++ turn_of n (suc i) ∷ []) y1 → Times (λ i. Body t n (path ++ turn_of n i ∷ [])) k (suc (suc i)) y2
        → ((y1 ≡ []) × (y2 ≡ l ∷ w)) ⊎ ((z : List Leaf) × (y1 ≡ l ∷ z) × (w ≡ z ++ y2))
        → Found (next (occurs t least most) (at i s) l.name) (leaf_of (occurs t least most) n path) (After (occurs t least most) n path) l w
    split f k ik y1 y2 b r (inl h) = absurd (empty_body k ik y1 h.0 b one)
    split f k ik y1 y2 b r (inr h) = again f k ik h.0 y2 h.2 (subst (λ u. Body t n (path ++ turn_of n (suc i) ∷ []) u) h.1 b) r

    go : ((x ≡ []) × (y ≡ l ∷ w)) ⊎ ((z : List Leaf) × (x ≡ l ∷ z) × (w ≡ z ++ y))
        → (k : ℕ) → Within least most (suc i + k) → Times (λ i. Body t n (path ++ turn_of n i ∷ [])) k (suc i) y
        → Found (next (occurs t least most) (at i s) l.name) (leaf_of (occurs t least most) n path) (After (occurs t least most) n path) l w
    go (inr h) k ik hk =
        let f = stay h.0 (subst (λ u. AfterTerm t n (path ++ turn_of n i ∷ []) s u) h.1 hx) in
        record { spot = at i f.spot; found = rw f.found refl; leaf_is = f.leaf_is; rest = (h.0, y, k, h.2, f.rest, ik, hk) }
    go (inl h) zero ik hk = absurd (cc (h.1, hk))
    go (inl h) (suc k) ik (y1, y2, ey, b, r) =
        let f = done (subst (λ u. AfterTerm t n (path ++ turn_of n i ∷ []) s u) h.0 hx) in
        split f k ik y1 y2 b r (heads y1 y2 l w (sym h.1 ∙ ey))

-- a step stays in the kid, or enters those after it
order_next : (p : Particle) (ps : Particles) (n : ℕ) (path : List Turn) (s : Spot) (l : Leaf) (w x y : List Leaf) → l ∷ w ≡ x ++ y → After p n path s x → InOrder ps (n + size_of p) path y
    → ((z : List Leaf) → After p n path s (l ∷ z) → Found (next p s l.name) (leaf_of p n path) (After p n path) l z)
    → (InOrder ps (n + size_of p) path (l ∷ w) → FoundInner (enter_order ps l.name) (leaf_in ps (n + size_of p) path) (AfterOrder ps (n + size_of p) path) l w)
    → (After p n path s [] → finishes p s ≡ true)
    → (finishes p s ≡ true → IsNameIn l.name (first_in_order ps) → next p s l.name ≡ None)
    → FoundInner (next_order (more p ps) (inside zero s) l.name) (leaf_in (more p ps) n path) (AfterOrder (more p ps) n path) l w
order_next p ps n path s l w x y e hp hs stay enters done stuck = go (heads x y l w e)
  where
    go : ((x ≡ []) × (y ≡ l ∷ w)) ⊎ ((z : List Leaf) × (x ≡ l ∷ z) × (w ≡ z ++ y))
        → FoundInner (next_order (more p ps) (inside zero s) l.name) (leaf_in (more p ps) n path) (AfterOrder (more p ps) n path) l w
    go (inl h) =
        let f : finishes p s ≡ true = done (subst (λ u. After p n path s u) h.0 hp) in
        let later : InOrder ps (n + size_of p) path (l ∷ w) = subst (λ u. InOrder ps (n + size_of p) path u) h.1 hs in
        let none : next p s l.name ≡ None = stuck f (order_opens ps (n + size_of p) path (l ∷ w) later) in
        later_kid p ps n path (enter_order ps l.name) (next_order (more p ps) (inside zero s) l.name) l w (enters later) (rw (none, f) refl)
    go (inr h) =
        let f = stay h.0 (subst (λ u. After p n path s u) h.1 hp) in
        record { spot = inside 0 f.spot; found = rw f.found refl; leaf_is = f.leaf_is; rest = (h.0, y, h.2, f.rest, hs) }

mutual
  pub next_finds : (p : Particle) (follow : List Name) (n : ℕ) (path : List Turn) (s : Spot) (l : Leaf) (w : List Leaf) → Clear p follow → MayOccur p → After p n path s (l ∷ w)
      → Found (next p s l.name) (leaf_of p n path) (After p n path) l w
  next_finds (occurs t least most) follow n path (at i s) l w c d (x, y, k, e, hx, ik, hk) =
      occurs_next t least most follow n path i s l w c.0
      (λ z h. next_term_finds t (follow_of_body follow t most) n (path ++ turn_of n i ∷ []) s l z (c.2, c.4, stands_alone t least most follow c.3) d.1 h)
      (λ z b. enter_term_finds t (follow_of_body follow t most) n (path ++ turn_of n (suc i) ∷ []) l z (c.2, c.4, stands_alone t least most follow c.3) d.1 b)
      (λ h. done_term t (follow_of_body follow t most) n (path ++ turn_of n i ∷ []) s (c.2, c.4, stands_alone t least most follow c.3) h)
      (λ f h. no_next_term t (follow_of_body follow t most) s l.name (c.2, c.4, stands_alone t least most follow c.3) d.1 f h)
      x y k e hx ik hk

  pub next_term_finds : (t : Term) (follow : List Name) (n : ℕ) (path : List Turn) (s : Inner) (l : Leaf) (w : List Leaf) → ClearTerm t follow → TermMayOccur t → AfterTerm t n path s (l ∷ w)
      → FoundInner (next_term t s l.name) (leaf_of_term t n path) (AfterTerm t n path) l w
  next_term_finds (element m a) follow n path here l w c d h = absurd (cc)
  next_term_finds (element m a) follow n path (inside j s) l w c d h = absurd h
  next_term_finds (element m a) follow n path (among j ms) l w c d h = absurd h
  next_term_finds (sequence ps) follow n path s l w c d h = next_order_finds ps follow (suc n) path s l w c.1 d h
  next_term_finds (choice ps) follow n path s l w c d h = next_one_finds ps follow (suc n) path s l w (c.0.0, c.1) d.1 h
  next_term_finds (all ps) follow n path here l w c d h = absurd h
  next_term_finds (all ps) follow n path (inside j s) l w c d h = absurd h
  next_term_finds (all ps) follow n path (among j ms) l w c d (xs, e, h) = left_finds ps ms (suc n) path xs l w c.2.1 c.2.2 h e

  pub next_order_finds : (ps : Particles) (follow : List Name) (n : ℕ) (path : List Turn) (s : Inner) (l : Leaf) (w : List Leaf) → ClearInOrder ps follow → AllMayOccur ps
      → AfterOrder ps n path s (l ∷ w) → FoundInner (next_order ps s l.name) (leaf_in ps n path) (AfterOrder ps n path) l w
  next_order_finds none follow n path s l w c d h = absurd h
  next_order_finds (more p ps) follow n path here l w c d h = absurd h
  next_order_finds (more p ps) follow n path (inside zero s) l w c d (x, y, e, hp, hs) =
      order_next p ps n path s l w x y e hp hs
      (λ z h. next_finds p (and_then (first_in_order ps) (all_empty ps) follow) n path s l z c.0 d.0 h)
      (λ g. enter_order_finds ps follow (n + size_of p) path l w c.1 d.1 g)
      (λ h. done_finishes p (and_then (first_in_order ps) (all_empty ps) follow) n path s c.0 h)
      (λ f h. no_next p (and_then (first_in_order ps) (all_empty ps) follow) s l.name c.0 d.0 f (has_left l.name (first_in_order ps) (cond (all_empty ps) follow []) h))
  next_order_finds (more p ps) follow n path (inside (suc j) s) l w c d h =
      later_kid p ps n path (next_order ps (inside j s) l.name) (next_order (more p ps) (inside (suc j) s) l.name) l w
      (next_order_finds ps follow (n + size_of p) path (inside j s) l w c.1 d.1 h) refl
  next_order_finds (more p ps) follow n path (among j ms) l w c d h = absurd h

  pub next_one_finds : (ps : Particles) (follow : List Name) (n : ℕ) (path : List Turn) (s : Inner) (l : Leaf) (w : List Leaf) → ClearAny ps follow → AllMayOccur ps
      → AfterOne ps n path s (l ∷ w) → FoundInner (next_one ps s l.name) (leaf_in ps n path) (AfterOne ps n path) l w
  next_one_finds none follow n path s l w c d h = absurd h
  next_one_finds (more p ps) follow n path here l w c d h = absurd h
  next_one_finds (more p ps) follow n path (inside zero s) l w c d h =
      let f = next_finds p follow n path s l w c.1.0 d.0 h in
      record { spot = inside 0 f.spot; found = rw f.found refl; leaf_is = f.leaf_is; rest = f.rest }
  next_one_finds (more p ps) follow n path (inside (suc j) s) l w c d h =
      later_one p ps n path (next_one ps (inside j s) l.name) (next_one (more p ps) (inside (suc j) s) l.name) l w
      (next_one_finds ps follow (n + size_of p) path (inside j s) l w (c.0.1, c.1.1) d.1 h) refl
  next_one_finds (more p ps) follow n path (among j ms) l w c d h = absurd h
