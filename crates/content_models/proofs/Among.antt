-- What is left of an all behind some of its leaves.
use Rattle.std.proofs.Common.{◌≡◌, ℕ, zero, suc, ◌+◌, ◌⊎◌, inl, inr, List, [], ◌∷◌, ◌++◌, Option, Some, None, Bool, true, false, cond, refl, sym, ◌∙◌, ap, subst, append_assoc, arith}
use Rattle.base_texts.specs.declared.texts.Name.{Name}
use Rattle.content_models.specs.Particle.{Particle, occurs, element, sequence, choice, all, Particles, none, more}
use Rattle.content_models.specs.Language.{Turn, Leaf, leaf_at, names, joined, Within, Lang, AnyOrder, size_of, turn_of}
use Rattle.content_models.specs.Clear.{IsNameIn, is_zero, first, first_of_any, empties, IsSingle, AreSingle, AllApart}
use Rattle.content_models.specs.Occurring.{AllowOne, MayOccur, AllMayOccur}
use Rattle.content_models.specs.Laws.{Opens}
use Rattle.content_models.proofs.Opening.{has_left, has_right, joined-append, inserted, lang_opens}
use Rattle.content_models.proofs.Orders.{KidLeaf, single_leaves}
use Rattle.content_models.proofs.Starting.{empty_list}
use Rattle.content_models.proofs.Telling.{has-Has, Has-has}
use Rattle.content_models.specs.Spots.{unmarked, is_named, Picked, picked, picked_later, pick, missing, leaf_of_kid, leaf_picked, over, Left}
use Rattle.content_models.proofs.Options.{over_some}

-- nothing has a mark before the first leaf
pub left_of : (ps : Particles) (n : ℕ) (path : List Turn) (xs : List (List Leaf)) → AnyOrder ps n path xs → Left ps (unmarked ps) n path xs
left_of none n path xs h = h
left_of (more p ps) n path xs (ys, x, zs, e, hp, hs) = (ys, x, zs, e, hp, left_of ps (n + size_of p) path (ys ++ zs) hs)

pub order_left : (ps : Particles) (n : ℕ) (path : List Turn) (xs : List (List Leaf)) → Left ps (unmarked ps) n path xs → AnyOrder ps n path xs
order_left none n path xs h = h
order_left (more p ps) n path xs (ys, x, zs, e, hp, hs) = (ys, x, zs, e, hp, order_left ps (n + size_of p) path (ys ++ zs) hs)

-- two places in a list: one place, or the first before the second, or behind it
abbrev pub Places : List (List Leaf) → List Leaf → List (List Leaf) → List (List Leaf) → List Leaf → List (List Leaf) → Type 0
Places ys u zs ys1 x zs1 =
    ((ys ≡ ys1) × (u ≡ x) × (zs ≡ zs1))
    ⊎ (((m : List (List Leaf)) × (ys1 ≡ ys ++ u ∷ m) × (zs ≡ m ++ x ∷ zs1))
    ⊎ ((m : List (List Leaf)) × (ys ≡ ys1 ++ x ∷ m) × (zs1 ≡ m ++ u ∷ zs)))

further : (w y : List Leaf) (ys : List (List Leaf)) (u : List Leaf) (zs ys1 : List (List Leaf)) (x : List Leaf) (zs1 : List (List Leaf)) → w ≡ y
    → Places ys u zs ys1 x zs1 → Places (w ∷ ys) u zs (y ∷ ys1) x zs1
further w y ys u zs ys1 x zs1 e (inl h) = inl ((λ i. e i ∷ h.0 i), h.1, h.2)
further w y ys u zs ys1 x zs1 e (inr (inl (m, a, b))) = inr (inl (m, (λ i. sym e i ∷ a i), b))
further w y ys u zs ys1 x zs1 e (inr (inr (m, a, b))) = inr (inr (m, (λ i. e i ∷ a i), b))

places : (ys : List (List Leaf)) (u : List Leaf) (zs ys1 : List (List Leaf)) (x : List Leaf) (zs1 : List (List Leaf)) → ys ++ u ∷ zs ≡ ys1 ++ x ∷ zs1
    → Places ys u zs ys1 x zs1
places [] u zs [] x zs1 e = inl (refl, cc, cc)
places [] u zs (y ∷ ys1) x zs1 e =
    let same : u ≡ y = cc in
    inr (inl (ys1, (λ i. sym same i ∷ ys1), cc))
places (w ∷ ys) u zs [] x zs1 e =
    let same : w ≡ x = cc in
    inr (inr (ys, (λ i. same i ∷ ys), cc))
places (w ∷ ys) u zs (y ∷ ys1) x zs1 e =
    let same : w ≡ y = cc in
    let rest : ys ++ u ∷ zs ≡ ys1 ++ x ∷ zs1 = cc in
    further w y ys u zs ys1 x zs1 same (places ys u zs ys1 x zs1 rest)

named_first : (p : Particle) (a : Name) → is_named p a ≡ true → IsNameIn a (first p)
named_first p a e = has-Has a (first p) e

cond_none : {A : Type 0} (b : Bool) (q : Option A) (r : A) → cond b None q ≡ Some r → (b ≡ false) × (q ≡ Some r)
cond_none true q r e = absurd (cc)
cond_none false q r e = (refl, e)

cond_either : {A : Type 0} (b : Bool) (s : A) (q : Option A) (r : A) → cond b (Some s) q ≡ Some r → ((b ≡ true) × (r ≡ s)) ⊎ ((b ≡ false) × (q ≡ Some r))
cond_either true s q r e = inl (refl, cc)
cond_either false s q r e = inr (refl, e)

pub pick_first : (ps : Particles) (ms : List Bool) (a : Name) (r : Picked) → pick ps ms a ≡ Some r → IsNameIn a (first_of_any ps)
pick_first none ms a r e = absurd (cc)
pick_first (more p ps) [] a r e = absurd (cc)
pick_first (more p ps) (true ∷ ms) a r e =
    let q = cond_none (is_named p a) (over (picked_later true) (pick ps ms a)) r e in
    let o = over_some (picked_later true) (pick ps ms a) r q.1 in
    has_right a (first p) (first_of_any ps) (pick_first ps ms a o.0 o.1)
pick_first (more p ps) (false ∷ ms) a r e =
    elim (cond_either (is_named p a) (picked 0 (true ∷ ms)) (over (picked_later false) (pick ps ms a)) r e) [
      | inl h ↦ has_left a (first p) (first_of_any ps) (named_first p a h.0)
      | inr h ↦
          let o = over_some (picked_later false) (pick ps ms a) r h.1 in
          has_right a (first p) (first_of_any ps) (pick_first ps ms a o.0 o.1)
    ]

not_named : (p : Particle) (fs : List Name) (a : Name) (b : Bool) → is_named p a ≡ b → IsNameIn a fs → ((x : Name) → IsNameIn x (first p) → IsNameIn x fs → ⊥) → is_named p a ≡ false
not_named p fs a false e h apart = e
not_named p fs a true e h apart = absurd (apart a (named_first p a e) h)

-- the leaf is that of the kid
kid_takes : (p : Particle) (n : ℕ) (path : List Turn) (l : Leaf) → KidLeaf p n path l → (is_named p l.name ≡ true) × (leaf_of_kid p n path ≡ Some l)
kid_takes (occurs (element d b) least most) n path l h =
    (Has-has l.name (b ∷ []) (inl (ap (λ k. k.name) h)), ap (λ k. Some k) (sym h))
kid_takes (occurs (sequence ps) least most) n path l h = absurd h
kid_takes (occurs (choice ps) least most) n path l h = absurd h
kid_takes (occurs (all ps) least most) n path l h = absurd h

-- A leaf is taken out of what is left: its kid is the one of its name, and the others are left.
pub record TakesOut (ps : Particles) (ms : List Bool) (n : ℕ) (path : List Turn) (l : Leaf) (rest : List (List Leaf)) : Type 0 where
  pub kid : ℕ
  pub marks : List Bool
  pub found : pick ps ms l.name ≡ Some (picked kid marks)
  pub leaf_is : leaf_picked ps n path kid ≡ Some l
  pub left : Left ps marks n path rest

not_nil : (ys : List (List Leaf)) (x : List Leaf) (zs : List (List Leaf)) → ys ++ x ∷ zs ≡ [] → ⊥
not_nil [] x zs e = cc
not_nil (y ∷ ys) x zs e = cc

later_name : (p : Particle) (ps : Particles) (ms : List Bool) (a : Name) (r : Picked) → AllApart (more p ps) → pick ps ms a ≡ Some r → is_named p a ≡ false
later_name p ps ms a r own e = not_named p (first_of_any ps) a (is_named p a) refl (pick_first ps ms a r e) own.0

later_free : (p : Particle) (ps : Particles) (ms : List Bool) (n : ℕ) (path : List Turn) (l : Leaf) (rest ys : List (List Leaf)) (x : List Leaf) (zs whole : List (List Leaf)) → AllApart (more p ps)
    → whole ≡ ys ++ x ∷ zs → rest ≡ ys ++ zs → Lang p n path x → TakesOut ps ms (n + size_of p) path l rest → TakesOut (more p ps) (false ∷ ms) n path l whole
later_free p ps ms n path l rest ys x zs whole own e d hp f = record {
  kid = suc f.kid;
  marks = false ∷ f.marks;
  found = rw (later_name p ps ms l.name (picked f.kid f.marks) own f.found, f.found) refl;
  leaf_is = f.leaf_is;
  left = (ys, x, zs, e, hp, subst (λ q. Left ps f.marks (n + size_of p) path q) d f.left);
}

pub takes_out : (ps : Particles) (ms : List Bool) (n : ℕ) (path : List Turn) (l : Leaf) (ys zs : List (List Leaf)) → AreSingle ps → AllApart ps
    → Left ps ms n path (ys ++ (l ∷ []) ∷ zs) → TakesOut ps ms n path l (ys ++ zs)
takes_out none ms n path l ys zs s own h = absurd (not_nil ys (l ∷ []) zs h)
takes_out (more p ps) [] n path l ys zs s own h = absurd h
takes_out (more p ps) (true ∷ ms) n path l ys zs s own h =
    let f = takes_out ps ms (n + size_of p) path l ys zs s.1 own.1 h in
    record {
      kid = suc f.kid;
      marks = true ∷ f.marks;
      found = rw (later_name p ps ms l.name (picked f.kid f.marks) own f.found, f.found) refl;
      leaf_is = f.leaf_is;
      left = f.left;
    }
takes_out (more p ps) (false ∷ ms) n path l ys zs s own (ys1, x, zs1, e, hp, hs) =
    go (λ us vs h. takes_out ps ms (n + size_of p) path l us vs s.1 own.1 h) (places ys (l ∷ []) zs ys1 x zs1 e)
  where
    go : ((us vs : List (List Leaf)) → Left ps ms (n + size_of p) path (us ++ (l ∷ []) ∷ vs) → TakesOut ps ms (n + size_of p) path l (us ++ vs))
        → Places ys (l ∷ []) zs ys1 x zs1 → TakesOut (more p ps) (false ∷ ms) n path l (ys ++ zs)
    go rec (inl h) =
        let here = single_leaves p n path (l ∷ []) s.0 (subst (λ q. Lang p n path q) (sym h.1) hp) in
        let k = kid_takes p n path l here.0 in
        record {
          kid = 0;
          marks = true ∷ ms;
          found = rw k.0 refl;
          leaf_is = k.1;
          left = subst (λ q. Left ps ms (n + size_of p) path q) (λ i. sym h.0 i ++ sym h.2 i) hs;
        }
    go rec (inr (inl (m, a, b))) =
        let rest : ys1 ++ zs1 ≡ ys ++ (l ∷ []) ∷ (m ++ zs1) = ap (λ q. q ++ zs1) a ∙ append_assoc ys ((l ∷ []) ∷ m) zs1 in
        let f = rec ys (m ++ zs1) (subst (λ q. Left ps ms (n + size_of p) path q) rest hs) in
        later_free p ps ms n path l (ys ++ (m ++ zs1)) (ys ++ m) x zs1 (ys ++ zs) own (ap (λ q. ys ++ q) b ∙ sym (append_assoc ys m (x ∷ zs1))) (sym (append_assoc ys m zs1)) hp f
    go rec (inr (inr (m, a, b))) =
        let rest : ys1 ++ zs1 ≡ (ys1 ++ m) ++ (l ∷ []) ∷ zs = ap (λ q. ys1 ++ q) b ∙ sym (append_assoc ys1 m ((l ∷ []) ∷ zs)) in
        let f = rec (ys1 ++ m) zs (subst (λ q. Left ps ms (n + size_of p) path q) rest hs) in
        later_free p ps ms n path l ((ys1 ++ m) ++ zs) ys1 x (m ++ zs) (ys ++ zs) own (ap (λ q. q ++ zs) a ∙ append_assoc ys1 (x ∷ m) zs) (append_assoc ys1 m zs) hp f

-- each list of a kid has one leaf at most
abbrev pub IsShort : List Leaf → Type 0
IsShort x = (x ≡ []) ⊎ ((l : Leaf) × (x ≡ l ∷ []))

abbrev pub AreShort : List (List Leaf) → Type 0
AreShort [] = Unit {0}
AreShort (x ∷ xs) = IsShort x × AreShort xs

single_short : (p : Particle) (n : ℕ) (path : List Turn) (x : List Leaf) → IsSingle p → Lang p n path x → IsShort x
single_short (occurs (element d a) least most) n path x s (zero, ik, h) = inl h
single_short (occurs (element d a) least most) n path x s (suc zero, ik, (y, z, e, b, r)) = inr (leaf_at n d a (path ++ turn_of n 0 ∷ []), e ∙ (λ i. b i ++ r i))
single_short (occurs (element d a) least most) n path x s (suc (suc k), ik, h) =
    let w = subst (λ m. Within least m (suc (suc k))) s.1 ik in absurd (omega (arith, w.1))
single_short (occurs (sequence ps) least most) n path x s h = absurd s.0
single_short (occurs (choice ps) least most) n path x s h = absurd s.0
single_short (occurs (all ps) least most) n path x s h = absurd s.0

short_among : (ys : List (List Leaf)) (x : List Leaf) (zs : List (List Leaf)) → IsShort x → AreShort (ys ++ zs) → AreShort (ys ++ x ∷ zs)
short_among [] x zs h k = (h, k)
short_among (y ∷ ys) x zs h k = (k.0, short_among ys x zs h k.1)

pub left_short : (ps : Particles) (ms : List Bool) (n : ℕ) (path : List Turn) (xs : List (List Leaf)) → AreSingle ps → Left ps ms n path xs → AreShort xs
left_short none ms n path xs s h = subst (λ q. AreShort q) (sym h) tt
left_short (more p ps) [] n path xs s h = absurd h
left_short (more p ps) (true ∷ ms) n path xs s h = left_short ps ms (n + size_of p) path xs s.1 h
left_short (more p ps) (false ∷ ms) n path xs s (ys, x, zs, e, hp, hs) =
    subst (λ q. AreShort q) (sym e) (short_among ys x zs (single_short p n path x s.0 hp) (left_short ps ms (n + size_of p) path (ys ++ zs) s.1 hs))

-- the first leaf of short lists is one of them alone
pub head_of : (xs : List (List Leaf)) → AreShort xs → (l : Leaf) (w : List Leaf) → l ∷ w ≡ joined xs
    → (ys : List (List Leaf)) × (zs : List (List Leaf)) × (xs ≡ ys ++ (l ∷ []) ∷ zs) × (w ≡ joined (ys ++ zs))
head_of [] s l w e = absurd (cc)
head_of (x ∷ xs) (inl h, t) l w e =
    let k = head_of xs t l w (e ∙ ap (λ z. z ++ joined xs) h) in
    (x ∷ k.0, k.1, ap (λ q. x ∷ q) k.2, k.3 ∙ ap (λ z. z ++ joined (k.0 ++ k.1)) (sym h))
head_of (x ∷ xs) (inr (m, h), t) l w e =
    let is : l ∷ w ≡ m ∷ joined xs = e ∙ ap (λ z. z ++ joined xs) h in
    let same : l ≡ m = cc in
    ([], xs, (λ i. (h ∙ ap (λ k. k ∷ []) (sym same)) i ∷ xs), cc)

-- nothing is left to come where each kid without a mark may be empty, and only there
no_leaves : (x y : List Leaf) → x ++ y ≡ [] → (x ≡ []) × (y ≡ [])
no_leaves [] y e = (refl, e)
no_leaves (l ∷ x) y e = absurd (cc)

pub left_done : (ps : Particles) (ms : List Bool) (n : ℕ) (path : List Turn) (xs : List (List Leaf)) → Left ps ms n path xs → joined xs ≡ [] → is_zero (missing ps ms) ≡ true
left_done none ms n path xs h e = refl
left_done (more p ps) [] n path xs h e = absurd h
left_done (more p ps) (true ∷ ms) n path xs h e = left_done ps ms (n + size_of p) path xs h e
left_done (more p ps) (false ∷ ms) n path xs (ys, x, zs, is, hp, hs) e =
    let one = no_leaves (joined ys) (x ++ joined zs) (sym (inserted ys x zs xs is) ∙ e) in
    let two = no_leaves x (joined zs) one.1 in
    let empty : empties p ≡ true = subst (λ z. Opens (first p) (empties p) (names z)) two.0 (lang_opens p n path x hp) in
    rw empty (left_done ps ms (n + size_of p) path (ys ++ zs) hs (joined-append ys zs ∙ (λ i. one.0 i ++ two.1 i)))

cond_zero : (b : Bool) (m : ℕ) → is_zero (cond b m (suc m)) ≡ true → (b ≡ true) × (is_zero m ≡ true)
cond_zero true m e = (refl, e)
cond_zero false m e = absurd (cc)

pub done_left : (ps : Particles) (ms : List Bool) (n : ℕ) (path : List Turn) (xs : List (List Leaf)) → AllMayOccur ps → is_zero (missing ps ms) ≡ true → Left ps ms n path xs
    → (vs : List (List Leaf)) × ([] ≡ joined vs) × Left ps ms n path vs
done_left none ms n path xs d e h = ([], refl, refl)
done_left (more p ps) [] n path xs d e h = absurd h
done_left (more p ps) (true ∷ ms) n path xs d e h = done_left ps ms (n + size_of p) path xs d.1 e h
done_left (more p ps) (false ∷ ms) n path xs d e (ys, x, zs, is, hp, hs) =
    let b = cond_zero (empties p) (missing ps ms) e in
    let rest = done_left ps ms (n + size_of p) path (ys ++ zs) d.1 b.1 hs in
    ([] ∷ rest.0, rest.1, ([], [], rest.0, refl, empty_list p n path d.0 b.0, rest.2))

-- What picking gives: a leaf that may come, and what may come behind it.
pub record PickGives (ps : Particles) (ms : List Bool) (n : ℕ) (path : List Turn) (a : Name) (r : Picked) : Type 0 where
  pub l : Leaf
  pub leaf_is : leaf_picked ps n path r.kid ≡ Some l
  pub named : l.name ≡ a
  pub back : (vs : List (List Leaf)) → Left ps r.marks n path vs → Left ps ms n path ((l ∷ []) ∷ vs)
  pub rest : List (List Leaf)
  pub some : Left ps r.marks n path rest

one_within : (least : ℕ) → AllowOne least (Some 1) → Within least (Some 1) 1
one_within least b = (b.0, omega arith)

the_name : (a b : Name) → (a ≡ b) ⊎ ⊥ → a ≡ b
the_name a b (inl e) = e
the_name a b (inr h) = absurd h

kid_gives : (p : Particle) (n : ℕ) (path : List Turn) (a : Name) → IsSingle p → MayOccur p → is_named p a ≡ true
    → (l : Leaf) × (leaf_of_kid p n path ≡ Some l) × (l.name ≡ a) × Lang p n path (l ∷ [])
kid_gives (occurs (element d b) least most) n path a s m e =
    let l = leaf_at n d b (path ++ turn_of n 0 ∷ []) in
    let one = one_within least (subst (λ k. AllowOne least k) s.1 m.0) in
    (l, refl, sym (the_name a b (has-Has a (b ∷ []) e)), (1, subst (λ k. Within least k 1) (sym s.1) one, (l ∷ [], [], refl, refl, refl)))
kid_gives (occurs (sequence ps) least most) n path a s m e = absurd s.0
kid_gives (occurs (choice ps) least most) n path a s m e = absurd s.0
kid_gives (occurs (all ps) least most) n path a s m e = absurd s.0

pub pick_gives : (ps : Particles) (ms : List Bool) (n : ℕ) (path : List Turn) (a : Name) (r : Picked) (xs : List (List Leaf)) → AreSingle ps → AllMayOccur ps
    → Left ps ms n path xs → pick ps ms a ≡ Some r → PickGives ps ms n path a r
pick_gives none ms n path a r xs s d h e = absurd (cc)
pick_gives (more p ps) [] n path a r xs s d h e = absurd h
pick_gives (more p ps) (true ∷ ms) n path a r xs s d h e =
    let q = cond_none (is_named p a) (over (picked_later true) (pick ps ms a)) r e in
    let o = over_some (picked_later true) (pick ps ms a) r q.1 in
    let g = pick_gives ps ms (n + size_of p) path a o.0 xs s.1 d.1 h o.1 in
    subst (λ z. PickGives (more p ps) (true ∷ ms) n path a z) (sym o.2)
    (record { l = g.l; leaf_is = g.leaf_is; named = g.named; back = g.back; rest = g.rest; some = g.some })
pick_gives (more p ps) (false ∷ ms) n path a r xs s d (ys, x, zs, is, hp, hs) e =
    go (λ r0 q. pick_gives ps ms (n + size_of p) path a r0 (ys ++ zs) s.1 d.1 hs q)
    (cond_either (is_named p a) (picked 0 (true ∷ ms)) (over (picked_later false) (pick ps ms a)) r e)
  where
    go : ((r0 : Picked) → pick ps ms a ≡ Some r0 → PickGives ps ms (n + size_of p) path a r0)
        → ((is_named p a ≡ true) × (r ≡ picked 0 (true ∷ ms))) ⊎ ((is_named p a ≡ false) × (over (picked_later false) (pick ps ms a) ≡ Some r))
        → PickGives (more p ps) (false ∷ ms) n path a r
    go rec (inl h) =
        let k = kid_gives p n path a s.0 d.0 h.0 in
        subst (λ z. PickGives (more p ps) (false ∷ ms) n path a z) (sym h.1)
        (record { l = k.0; leaf_is = k.1; named = k.2; back = λ vs g. ([], k.0 ∷ [], vs, refl, k.3, g); rest = ys ++ zs; some = hs })
    go rec (inr h) =
        let o = over_some (picked_later false) (pick ps ms a) r h.1 in
        let g = rec o.0 o.1 in
        subst (λ z. PickGives (more p ps) (false ∷ ms) n path a z) (sym o.2)
        (record {
          l = g.l;
          leaf_is = g.leaf_is;
          named = g.named;
          back = λ vs (us, y, ws, q, hy, hw). ((g.l ∷ []) ∷ us, y, ws, ap (λ z. (g.l ∷ []) ∷ z) q, hy, g.back (us ++ ws) hw);
          rest = x ∷ g.rest;
          some = ([], x, g.rest, refl, hp, g.some);
        })
