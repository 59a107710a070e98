-- The first leaf of a list is the one that entering finds.
use Rattle.std.proofs.Common.{◌≡◌, ℕ, zero, suc, ◌+◌, ◌⊎◌, inl, inr, List, [], ◌∷◌, ◌++◌, Option, Some, None, Bool, true, false, ◌||◌, ◌&&◌, cond, refl, sym, ◌∙◌, ap, subst, arith}
use Rattle.base_texts.specs.declared.texts.Name.{Name}
use Rattle.base_texts.specs.Names.{name_eq}
use Rattle.base_texts.proofs.NameLaws.{name_eq-Decides}
use Rattle.content_models.specs.Particle.{Particle, occurs, Term, element, sequence, choice, all, Particles, none, more}
use Rattle.content_models.specs.Language.{Turn, Leaf, names, leaf_at, joined, Times, Within, Lang, Body, InOrder, OneOf, size_of, turn_of}
use Rattle.content_models.specs.Clear.{IsNameIn, Apart, is_zero, and_then, first, first_of_term, first_in_order, first_of_any, empties, empties_term, all_empty, repeats, follow_of_body, Rule1, Rule2, AreSingle, AllApart, Clear, ClearInOrder}
use Rattle.content_models.specs.Laws.{Opens}
use Rattle.content_models.proofs.Opening.{has_left, has_right, lang_opens, body_opens, order_opens, one_opens}
use Rattle.content_models.proofs.Splitting.{within_one}
use Rattle.content_models.proofs.Orders.{stands_alone}
use Rattle.content_models.proofs.Clearing.{ClearTerm, ClearAny}
use Rattle.content_models.specs.Occurring.{AllowOne, MayOccur, TermMayOccur, AllMayOccur}
use Rattle.content_models.proofs.Options.{over_some, cond_some, no_some}
use Rattle.content_models.proofs.Among.{left_of, left_short, head_of, takes_out, pick_first}
use Rattle.content_models.specs.Spots.{Spot, at, Inner, here, inside, among, over, or_else, first_kid, next_kid, enter, enter_term, enter_order, enter_one, leaf_of, leaf_of_term, leaf_in, After, AfterTerm, AfterOrder, AfterOne, AfterAll, Left, pick, unmarked, among_picked, leaf_among}

-- a spot found by entering or by a step, with the leaf there and what comes after it
pub record Found (o : Option Spot) (leaf : Spot → Option Leaf) (after : Spot → List Leaf → Type 0) (l : Leaf) (w : List Leaf) : Type 0 where
  pub spot : Spot
  pub found : o ≡ Some spot
  pub leaf_is : leaf spot ≡ Some l
  pub rest : after spot w

pub record FoundInner (o : Option Inner) (leaf : Inner → Option Leaf) (after : Inner → List Leaf → Type 0) (l : Leaf) (w : List Leaf) : Type 0 where
  pub spot : Inner
  pub found : o ≡ Some spot
  pub leaf_is : leaf spot ≡ Some l
  pub rest : after spot w

-- the first of two lists is empty, or it has the first leaf
pub heads : (x y : List Leaf) (l : Leaf) (w : List Leaf) → l ∷ w ≡ x ++ y → ((x ≡ []) × (y ≡ l ∷ w)) ⊎ ((z : List Leaf) × (x ≡ l ∷ z) × (w ≡ z ++ y))
heads [] y l w e = inl (refl, sym e)
heads (m ∷ x) y l w e = let same : l ≡ m = cc in inr (x, cc, cc)

pick_order : (f g : List Name) (empty : Bool) (a : Name) (o : Option Spot) (q : Option Inner) (s : Inner)
    → ((r : Spot) → o ≡ Some r → IsNameIn a f) → ((r : Inner) → q ≡ Some r → IsNameIn a g)
    → or_else (over first_kid o) (cond empty (over next_kid q) None) ≡ Some s → IsNameIn a (and_then f empty g)
pick_order f g empty a (Some r) q s l m e = has_left a f (cond empty g []) (l r refl)
pick_order f g true a None (Some r) s l m e = has_right a f g (m r refl)
pick_order f g true a None None s l m e = absurd (cc)
pick_order f g false a None q s l m e = absurd (cc)

pick_one : (f g : List Name) (a : Name) (o : Option Spot) (q : Option Inner) (s : Inner)
    → ((r : Spot) → o ≡ Some r → IsNameIn a f) → ((r : Inner) → q ≡ Some r → IsNameIn a g)
    → or_else (over first_kid o) (over next_kid q) ≡ Some s → IsNameIn a (f ++ g)
pick_one f g a (Some r) q s l m e = has_left a f g (l r refl)
pick_one f g a None (Some r) s l m e = has_right a f g (m r refl)
pick_one f g a None None s l m e = absurd (cc)

pub both_true : (e d : Bool) → (e && d) ≡ true → (e ≡ true) × (d ≡ true)
both_true true d h = (refl, h)
both_true false d h = absurd (cc)

only_second : (e d : Bool) → (e || d) ≡ true → e ≡ false → d ≡ true
only_second true d h n = absurd (cc)
only_second false d h n = h

only_first : (e d : Bool) → (e || d) ≡ true → d ≡ false → e ≡ true
only_first true d h n = refl
only_first false d h n = absurd (cc)

no_least : (least : ℕ) → is_zero least ≡ true → AllowOne least (Some least) → ⊥
no_least zero e b = omega (arith, b.1)
no_least (suc n) e b = cc

empty_occurs : (t : Term) (least : ℕ) (most : Option ℕ) (follow : List Name) → Rule1 t least most → Rule2 t least most follow → AllowOne least most
    → (empties_term t ≡ true → Apart (first_of_term t) (follow_of_body follow t most)) → (is_zero least || empties_term t) ≡ true → Apart (first_of_term t) follow
empty_occurs t least most follow (inl one) two b ih e =
    let d : empties_term t ≡ true = only_second (is_zero least) (empties_term t) e (ap is_zero one.0) in
    λ a f g. ih d a f (has_left a follow (cond (repeats most) (first_of_term t) []) g)
empty_occurs t least most follow (inr full) (inl same) b ih e =
    absurd (no_least least (only_first (is_zero least) (empties_term t) e full) (subst (λ m. AllowOne least m) same b))
empty_occurs t least most follow (inr full) (inr apart) b ih e = apart

order_apart : (f g follow : List Name) (through : Bool) → through ≡ true → Apart f (and_then g through follow) → Apart g follow → Apart (f ++ g) follow
order_apart [] g follow through h l r x i j = r x i j
order_apart (b ∷ f) g follow true h l r x (inl i) j = l x (inl i) (has_right x g follow j)
order_apart (b ∷ f) g follow true h l r x (inr i) j = order_apart f g follow true refl (λ y k m. l y (inr k) m) r x i j
order_apart (b ∷ f) g follow false h l r x i j = cc

mutual
  pub empty_apart : (p : Particle) (follow : List Name) → Clear p follow → MayOccur p → empties p ≡ true → Apart (first p) follow
  empty_apart (occurs t least most) follow c s e =
      empty_occurs t least most follow c.0 c.1 s.0 (λ d. term_apart t (follow_of_body follow t most) (c.2, c.4, stands_alone t least most follow c.3) s.1 d) e

  pub term_apart : (t : Term) (follow : List Name) → ClearTerm t follow → TermMayOccur t → empties_term t ≡ true → Apart (first_of_term t) follow
  term_apart (element d a) follow c s e = absurd (cc)
  term_apart (sequence ps) follow c s e = all_apart ps follow c.1 s e
  term_apart (choice ps) follow c s e = c.0.2 e
  term_apart (all ps) follow c s e = λ x i j. subst (λ f. IsNameIn x f) c.2.0 j

  pub all_apart : (ps : Particles) (follow : List Name) → ClearInOrder ps follow → AllMayOccur ps → all_empty ps ≡ true → Apart (first_in_order ps) follow
  all_apart none follow c s e = λ x i j. i
  all_apart (more p ps) follow c s e =
      let b = both_true (empties p) (all_empty ps) e in
      rw b.0 (order_apart (first p) (first_in_order ps) follow (all_empty ps) b.1
      (empty_apart p (and_then (first_in_order ps) (all_empty ps) follow) c.0 s.0 b.0) (all_apart ps follow c.1 s.1 b.1))

-- entering finds the first occurrence's first leaf
occurs_found : (t : Term) (least : ℕ) (most : Option ℕ) (n : ℕ) (path : List Turn) (o : Option Inner) (l : Leaf) (w : List Leaf) → Rule1 t least most
    → ((z : List Leaf) → Body t n (path ++ turn_of n 0 ∷ []) (l ∷ z) → FoundInner o (leaf_of_term t n (path ++ turn_of n 0 ∷ [])) (AfterTerm t n (path ++ turn_of n 0 ∷ [])) l z)
    → (k : ℕ) → Within least most k → Times (λ i. Body t n (path ++ turn_of n i ∷ [])) k 0 (l ∷ w)
    → Found (over (at 0) o) (leaf_of (occurs t least most) n path) (After (occurs t least most) n path) l w
occurs_found t least most n path o l w one ih zero ik h = absurd (cc)
occurs_found t least most n path o l w one ih (suc k) ik (x, y, e, b, r) = go (heads x y l w e) one
  where
    go : ((x ≡ []) × (y ≡ l ∷ w)) ⊎ ((z : List Leaf) × (x ≡ l ∷ z) × (w ≡ z ++ y)) → Rule1 t least most
        → Found (over (at 0) o) (leaf_of (occurs t least most) n path) (After (occurs t least most) n path) l w
    go (inl h) (inl one) =
        let k0 : k ≡ 0 = let q : suc k ≡ 1 = within_one (suc k) (rw (one.0, one.1) at ik) in omega arith in
        let y0 : y ≡ [] = subst (λ i. Times (λ i. Body t n (path ++ turn_of n i ∷ [])) i 1 y) k0 r in
        absurd (cc (h.1, y0))
    go (inl h) (inr full) =
        let q : empties_term t ≡ true = subst (λ s. Opens (first_of_term t) (empties_term t) (names s)) h.0 (body_opens t n (path ++ turn_of n 0 ∷ []) x b) in
        absurd (cc (q, full))
    go (inr h) any =
        let f = ih h.0 (subst (λ s. Body t n (path ++ turn_of n 0 ∷ []) s) h.1 b) in
        record {
          spot = at 0 f.spot;
          found = ap (over (at 0)) f.found;
          leaf_is = f.leaf_is;
          rest = (h.0, y, k, h.2, f.rest, subst (λ i. Within least most i) (omega arith) ik, r);
        }

pub no_here : (ps : Particles) (n : ℕ) (path : List Turn) (w : List Leaf) → AfterOrder ps n path here w → ⊥
no_here none n path w h = h
no_here (more p ps) n path w h = h

pub no_here_one : (ps : Particles) (n : ℕ) (path : List Turn) (w : List Leaf) → AfterOne ps n path here w → ⊥
no_here_one none n path w h = h
no_here_one (more p ps) n path w h = h

pub no_among : (ps : Particles) (n : ℕ) (path : List Turn) (j : ℕ) (ms : List Bool) (w : List Leaf) → AfterOrder ps n path (among j ms) w → ⊥
no_among none n path j ms w h = h
no_among (more p ps) n path j ms w h = h

pub no_among_one : (ps : Particles) (n : ℕ) (path : List Turn) (j : ℕ) (ms : List Bool) (w : List Leaf) → AfterOne ps n path (among j ms) w → ⊥
no_among_one none n path j ms w h = h
no_among_one (more p ps) n path j ms w h = h

-- the first leaf of what is left of an all is the one that picking finds
pub left_finds : (ps : Particles) (ms : List Bool) (n : ℕ) (path : List Turn) (xs : List (List Leaf)) (l : Leaf) (w : List Leaf) → AreSingle ps → AllApart ps
    → Left ps ms n path xs → l ∷ w ≡ joined xs
    → FoundInner (over among_picked (pick ps ms l.name)) (leaf_among ps n path) (AfterAll ps n path) l w
left_finds ps ms n path xs l w s own h e =
    let b = head_of xs (left_short ps ms n path xs s h) l w e in
    let t = takes_out ps ms n path l b.0 b.1 s own (subst (λ q. Left ps ms n path q) b.2 h) in
    record { spot = among t.kid t.marks; found = ap (over among_picked) t.found; leaf_is = t.leaf_is; rest = (b.0 ++ b.1, b.3, t.left) }

mutual
  pub enter_first : (p : Particle) (a : Name) (s : Spot) → enter p a ≡ Some s → IsNameIn a (first p)
  enter_first (occurs t least most) a s e = let o = over_some (at 0) (enter_term t a) s e in enter_term_first t a o.0 o.1

  pub enter_term_first : (t : Term) (a : Name) (s : Inner) → enter_term t a ≡ Some s → IsNameIn a (first_of_term t)
  enter_term_first (element d b) a s e = inl (((name_eq-Decides a b).0 (cond_some (name_eq a b) (Some here) s e).0))
  enter_term_first (sequence ps) a s e = enter_order_first ps a s e
  enter_term_first (choice ps) a s e = enter_one_first ps a s e
  enter_term_first (all ps) a s e =
      let o = over_some among_picked (pick ps (unmarked ps) a) s e in pick_first ps (unmarked ps) a o.0 o.1

  pub enter_order_first : (ps : Particles) (a : Name) (s : Inner) → enter_order ps a ≡ Some s → IsNameIn a (first_in_order ps)
  enter_order_first none a s e = absurd (cc)
  enter_order_first (more p ps) a s e =
      pick_order (first p) (first_in_order ps) (empties p) a (enter p a) (enter_order ps a) s (λ r q. enter_first p a r q) (λ r q. enter_order_first ps a r q) e

  pub enter_one_first : (ps : Particles) (a : Name) (s : Inner) → enter_one ps a ≡ Some s → IsNameIn a (first_of_any ps)
  enter_one_first none a s e = absurd (cc)
  enter_one_first (more p ps) a s e =
      pick_one (first p) (first_of_any ps) a (enter p a) (enter_one ps a) s (λ r q. enter_first p a r q) (λ r q. enter_one_first ps a r q) e

-- a spot among the later kids
pub later_kid : (p : Particle) (ps : Particles) (n : ℕ) (path : List Turn) (o : Option Inner) (q : Option Inner) (l : Leaf) (w : List Leaf)
    → FoundInner o (leaf_in ps (n + size_of p) path) (AfterOrder ps (n + size_of p) path) l w → q ≡ over next_kid o
    → FoundInner q (leaf_in (more p ps) n path) (AfterOrder (more p ps) n path) l w
later_kid p ps n path o q l w f e = go f.spot f.found f.leaf_is f.rest
  where
    go : (s : Inner) → o ≡ Some s → leaf_in ps (n + size_of p) path s ≡ Some l → AfterOrder ps (n + size_of p) path s w
        → FoundInner q (leaf_in (more p ps) n path) (AfterOrder (more p ps) n path) l w
    go here fo le re = absurd (no_here ps (n + size_of p) path w re)
    go (among j ms) fo le re = absurd (no_among ps (n + size_of p) path j ms w re)
    go (inside j s) fo le re = record { spot = inside (suc j) s; found = e ∙ ap (over next_kid) fo; leaf_is = le; rest = re }

pub later_one : (p : Particle) (ps : Particles) (n : ℕ) (path : List Turn) (o : Option Inner) (q : Option Inner) (l : Leaf) (w : List Leaf)
    → FoundInner o (leaf_in ps (n + size_of p) path) (AfterOne ps (n + size_of p) path) l w → q ≡ over next_kid o
    → FoundInner q (leaf_in (more p ps) n path) (AfterOne (more p ps) n path) l w
later_one p ps n path o q l w f e = go f.spot f.found f.leaf_is f.rest
  where
    go : (s : Inner) → o ≡ Some s → leaf_in ps (n + size_of p) path s ≡ Some l → AfterOne ps (n + size_of p) path s w
        → FoundInner q (leaf_in (more p ps) n path) (AfterOne (more p ps) n path) l w
    go here fo le re = absurd (no_here_one ps (n + size_of p) path w re)
    go (among j ms) fo le re = absurd (no_among_one ps (n + size_of p) path j ms w re)
    go (inside j s) fo le re = record { spot = inside (suc j) s; found = e ∙ ap (over next_kid) fo; leaf_is = le; rest = re }

order_found : (p : Particle) (ps : Particles) (n : ℕ) (path : List Turn) (l : Leaf) (w x y : List Leaf) → l ∷ w ≡ x ++ y → Lang p n path x → InOrder ps (n + size_of p) path y
    → ((z : List Leaf) → Lang p n path (l ∷ z) → Found (enter p l.name) (leaf_of p n path) (After p n path) l z)
    → (InOrder ps (n + size_of p) path (l ∷ w) → FoundInner (enter_order ps l.name) (leaf_in ps (n + size_of p) path) (AfterOrder ps (n + size_of p) path) l w)
    → (empties p ≡ true → Apart (first p) (first_in_order ps))
    → FoundInner (enter_order (more p ps) l.name) (leaf_in (more p ps) n path) (AfterOrder (more p ps) n path) l w
order_found p ps n path l w x y e hp hs one rest apart = go (heads x y l w e)
  where
    go : ((x ≡ []) × (y ≡ l ∷ w)) ⊎ ((z : List Leaf) × (x ≡ l ∷ z) × (w ≡ z ++ y))
        → FoundInner (enter_order (more p ps) l.name) (leaf_in (more p ps) n path) (AfterOrder (more p ps) n path) l w
    go (inl h) =
        let empty : empties p ≡ true = subst (λ s. Opens (first p) (empties p) (names s)) h.0 (lang_opens p n path x hp) in
        let later : InOrder ps (n + size_of p) path (l ∷ w) = subst (λ s. InOrder ps (n + size_of p) path s) h.1 hs in
        let none : enter p l.name ≡ None =
        no_some (enter p l.name) (λ s q. apart empty l.name (enter_first p l.name s q) (order_opens ps (n + size_of p) path (l ∷ w) later)) in
        later_kid p ps n path (enter_order ps l.name) (enter_order (more p ps) l.name) l w (rest later) (rw (none, empty) refl)
    go (inr h) =
        let f = one h.0 (subst (λ s. Lang p n path s) h.1 hp) in
        record { spot = inside 0 f.spot; found = rw f.found refl; leaf_is = f.leaf_is; rest = (h.0, y, h.2, f.rest, hs) }

mutual
  pub enter_finds : (p : Particle) (follow : List Name) (n : ℕ) (path : List Turn) (l : Leaf) (w : List Leaf) → Clear p follow → MayOccur p → Lang p n path (l ∷ w)
      → Found (enter p l.name) (leaf_of p n path) (After p n path) l w
  enter_finds (occurs t least most) follow n path l w c s h =
      occurs_found t least most n path (enter_term t l.name) l w c.0
      (λ z b. enter_term_finds t (follow_of_body follow t most) n (path ++ turn_of n 0 ∷ []) l z (c.2, c.4, stands_alone t least most follow c.3) s.1 b) h.0 h.1 h.2

  pub enter_term_finds : (t : Term) (follow : List Name) (n : ℕ) (path : List Turn) (l : Leaf) (w : List Leaf) → ClearTerm t follow → TermMayOccur t → Body t n path (l ∷ w)
      → FoundInner (enter_term t l.name) (leaf_of_term t n path) (AfterTerm t n path) l w
  enter_term_finds (element d a) follow n path l w c s h =
      let is : l ≡ leaf_at n d a path = cc in
      let named : l.name ≡ a = ap (λ k. k.name) is in
      record { spot = here; found = rw named (rw ((name_eq-Decides a a).1 refl) refl); leaf_is = cc; rest = cc }
  enter_term_finds (sequence ps) follow n path l w c s h = enter_order_finds ps follow (suc n) path l w c.1 s h
  enter_term_finds (choice ps) follow n path l w c s h = enter_one_finds ps follow (suc n) path l w (c.0.0, c.1) s.1 h
  enter_term_finds (all ps) follow n path l w c s (xs, e, h) =
      left_finds ps (unmarked ps) (suc n) path xs l w c.2.1 c.2.2 (left_of ps (suc n) path xs h) e

  pub enter_order_finds : (ps : Particles) (follow : List Name) (n : ℕ) (path : List Turn) (l : Leaf) (w : List Leaf) → ClearInOrder ps follow → AllMayOccur ps
      → InOrder ps n path (l ∷ w) → FoundInner (enter_order ps l.name) (leaf_in ps n path) (AfterOrder ps n path) l w
  enter_order_finds none follow n path l w c s h = absurd (cc)
  enter_order_finds (more p ps) follow n path l w c s h =
      order_found p ps n path l w h.0 h.1 h.2 h.3 h.4
      (λ z g. enter_finds p (and_then (first_in_order ps) (all_empty ps) follow) n path l z c.0 s.0 g)
      (λ g. enter_order_finds ps follow (n + size_of p) path l w c.1 s.1 g)
      (λ e a i j. empty_apart p (and_then (first_in_order ps) (all_empty ps) follow) c.0 s.0 e a i (has_left a (first_in_order ps) (cond (all_empty ps) follow []) j))

  pub enter_one_finds : (ps : Particles) (follow : List Name) (n : ℕ) (path : List Turn) (l : Leaf) (w : List Leaf) → ClearAny ps follow → AllMayOccur ps
      → OneOf ps n path (l ∷ w) → FoundInner (enter_one ps l.name) (leaf_in ps n path) (AfterOne ps n path) l w
  enter_one_finds none follow n path l w c s h = absurd h
  enter_one_finds (more p ps) follow n path l w c s (inl h) =
      let f = enter_finds p follow n path l w c.1.0 s.0 h in
      record { spot = inside 0 f.spot; found = rw f.found refl; leaf_is = f.leaf_is; rest = f.rest }
  enter_one_finds (more p ps) follow n path l w c s (inr h) =
      let none : enter p l.name ≡ None =
      no_some (enter p l.name) (λ r q. c.0.0 l.name (enter_first p l.name r q) (one_opens ps (n + size_of p) path (l ∷ w) h)) in
      later_one p ps n path (enter_one ps l.name) (enter_one (more p ps) l.name) l w (enter_one_finds ps follow (n + size_of p) path l w (c.0.1, c.1.1) s.1 h) (rw none refl)
