-- The leaf beside the last one, where that is a kid of the top.
use Rattle.std.proofs.Common.{◌≡◌, ℕ, zero, suc, ◌+◌, ◌<◌, ◌⊎◌, inl, inr, List, [], ◌∷◌, ◌++◌, length, get_or, ◌≤◌, Option, Some, None, Bool, true, false, ◌&&◌, ◌||◌, not, cond, refl, sym, ◌∙◌, ap, subst, arith}
use Rattle.std.specs.Prelude.{slice_get, IfSome}
use Rattle.base_trees.specs.Rose.{Rose, label_of, kids_of, height}
use Rattle.base_trees.proofs.Roses.{height-positive}
use Rattle.base_texts.specs.declared.texts.Name.{Name}
use Rattle.base_texts.specs.Names.{name_eq}
use Rattle.content_models.specs.Particle.{Particle, occurs, element, Particles, none, more}
use Rattle.content_models.specs.Clear.{empties}
use Rattle.content_models.specs.Spots.{at, Inner, here, inside, over, or_else, first_kid, next_kid, may_repeat, may_stop, enter_order, finishes, finishes_order, next, next_order}
use Rattle.content_match.specs.Private.Nearby.{IsNamedKid, LiesBehind, LiesBeside}
use Rattle.content_match.specs.Private.Plans.{IsPlan, drop_all, ends_in, is_leaf_of, is_kid_of}
use Rattle.content_match.specs.Private.Seeking.{again_at}
use Rattle.content_match.specs.Private.Standing.{IsLeaf, OnWay, Entered, spot_of}
use Rattle.content_match.specs.declared.beside.Beside.{Beside}
use Rattle.content_match.specs.declared.descent.Known.{Known}
use Rattle.content_match.specs.declared.descent.Known.TheVariants.{Begins}
use Rattle.content_match.specs.declared.plans.Group.{Group}
use Rattle.content_match.specs.declared.plans.PlanKind.{PlanKind}
use Rattle.content_match.specs.declared.plans.PlanKind.TheVariants.{Leaf as PlanLeaf, Group as PlanGroup}
use Rattle.content_match.specs.declared.plans.PlanLabel.{PlanLabel}
use Rattle.content_match.specs.declared.places.Turn.{Turn}
use Rattle.content_match.specs.declared.places.Leaf.{Leaf}
use Rattle.content_match.proofs.Picking.{kid_at, number_at, shift, next_order_at}
use Rattle.content_match.proofs.Planned.{OrderPlan, OnePlan, group_plan, leaf_plan, kid_plan, got_below, group_enters}
use Rattle.content_match.proofs.Within.{step_in, leaf_done, group_done}
use Rattle.content_match.proofs.Guessing.{guessed}
use Rattle.content_match.proofs.Descending.{kid_lower, enter_leaf, enter_group_both}
use Rattle.content_match.proofs.Onward.{both_no}

-- ---- the same leaf once more

again_leaf : (n : ℕ) (q : Particle) (child : Rose PlanLabel) (d : ℕ) (own a : Name) (turn : ℕ) → IsPlan n q child → (label_of child).kind ≡ PlanLeaf d own
    → (may_repeat (label_of child).max turn && name_eq a own) ≡ true → next q (at turn here) a ≡ Some (at (turn + 1) here)
again_leaf n q child d own a turn h e both =
    let l = leaf_plan n q child d own h e in
    ap (λ r. next r (at turn here) a) l.is ∙ go (may_repeat l.most turn) (name_eq a own) ((λ i. may_repeat (sym l.most_is i) turn && name_eq a own) ∙ both)
  where
    go : (b c : Bool) → (b && c) ≡ true → cond b (over (at (suc turn)) (cond c (Some here) None)) None ≡ Some (at (turn + 1) here)
    go true true f = ap (λ k. Some (at k here)) (omega arith)
    go true false f = absurd (cc)
    go false c f = absurd (cc)

-- a particle with a kid is a group
parent : (n k : ℕ) (p : Particle) (t child : Rose PlanLabel) → IsPlan n p t → slice_get (kids_of t) k ≡ Some child → (g : Group) × ((label_of t).kind ≡ PlanGroup g)
parent n k p t child h there = go (label_of t).kind refl
  where
    nothing : (k : ℕ) → slice_get {X = Rose PlanLabel} [] k ≡ None
    nothing k = refl

    go : (kind : PlanKind) → (label_of t).kind ≡ kind → (g : Group) × ((label_of t).kind ≡ PlanGroup g)
    go (PlanGroup g) e = (g, e)
    go (PlanLeaf d own) e = absurd (let q : slice_get (kids_of t) k ≡ None = ap (λ ts. slice_get ts k) (leaf_plan n p t d own h e).no_kids ∙ nothing k in cc (q, there))

pub again_beside : (t child : Rose PlanLabel) (k turn : ℕ) (d : ℕ) (own a : Name) (b : Beside) → slice_get (kids_of t) k ≡ Some child → (label_of child).kind ≡ PlanLeaf d own
    → (may_repeat (label_of child).max turn && name_eq a own) ≡ true → b.kid ≡ k → b.turn ≡ turn + 1 → b.leaf.particle ≡ (label_of child).number → b.leaf.decl ≡ d → LiesBeside t k turn a b
again_beside t child k turn d own a b there kind both kid_is turn_is number decl = record {
  child = child;
  there = ap (λ j. slice_get (kids_of t) j) kid_is ∙ there;
  number = number;
  decl = subst (λ z. IsLeaf z b.leaf.decl) (sym kind) (sym decl);
  small = omega arith;
  goes = λ n p h i.
      let g = parent n k p t child h there in
      let s = step_in n p t g.0 i k (at turn here) (at turn here) child a h g.1 there in
      s.3 (at (turn + 1) here) (again_leaf s.0 s.1 child d own a turn s.2 kind both) ∙ (λ j. Some (at i (inside (sym kid_is j) (at (sym turn_is j) here))));
}

-- ---- the leaf behind

done_leaf : (n : ℕ) (q : Particle) (child : Rose PlanLabel) (d : ℕ) (own a : Name) (turn : ℕ) → IsPlan n q child → (label_of child).kind ≡ PlanLeaf d own
    → (may_repeat (label_of child).max turn && name_eq a own) ≡ false → may_stop (label_of child).min turn ≡ true
    → (next q (at turn here) a ≡ None) × (finishes q (at turn here) ≡ true)
done_leaf n q child d own a turn h e other stop =
    let l = leaf_plan n q child d own h e in (
      ap (λ r. next r (at turn here) a) l.is ∙ go (may_repeat l.most turn) (name_eq a own) ((λ i. may_repeat (sym l.most_is i) turn && name_eq a own) ∙ other),
      ap (λ r. finishes r (at turn here)) l.is ∙ ap (λ m. may_stop m turn) (sym l.least_is) ∙ stop,
    )
  where
    go : (b c : Bool) → (b && c) ≡ false → cond b (over (at (suc turn)) (cond c (Some here) None)) None ≡ None
    go true true f = absurd (cc)
    go true false f = refl
    go false c f = refl

-- from a leaf of the name on, a sequence is entered there
enters_order : (k : ℕ) (ps : Particles) (d : ℕ) (b : Name) (least : ℕ) (most : Option ℕ) (a : Name) → kid_at k ps ≡ Some (occurs (element d b) least most) → name_eq a b ≡ true
    → enter_order (drop_all k ps) a ≡ Some (inside 0 (at 0 here))
enters_order k none d b least most a e q = absurd (cc)
enters_order zero (more p ps) d b least most a e q =
    let is : p ≡ occurs (element d b) least most = cc in
    enter_first p is
  where
    rest : Particle → Option Inner
    rest r = cond (empties r) (over next_kid (enter_order ps a)) None

    enter_first : (r : Particle) → r ≡ occurs (element d b) least most → enter_order (more r ps) a ≡ Some (inside 0 (at 0 here))
    enter_first r is =
        ap (λ z. enter_order (more z ps) a) is ∙ ap (λ z. or_else (over first_kid (over (at 0) (cond z (Some here) None))) (rest (occurs (element d b) least most))) q
enters_order (suc k) (more p ps) d b least most a e q = enters_order k ps d b least most a e q

module _ (t child : Rose PlanLabel) (k turn d : ℕ) (own a : Name) (b : Beside) (there : slice_get (kids_of t) k ≡ Some child) (kind : (label_of child).kind ≡ PlanLeaf d own)
    (other : (may_repeat (label_of child).max turn && name_eq a own) ≡ false) (stop : may_stop (label_of child).min turn ≡ true) (behind : LiesBehind t k a b) where
  behind_in_order : (n i : ℕ) (p : Particle) (g : Group) → IsPlan n p t → OrderPlan n p t g → next p (at i (inside k (at turn here))) a ≡ Some (at i (inside b.kid (at b.turn here)))
  behind_in_order n i p g h o =
      let q = kid_plan o.ps (kids_of t) (suc n) k child o.kids there in
      let done = done_leaf (number_at (suc n) k o.ps) q.0 child d own a turn q.2 kind other stop in
      let named = behind.named in
      let r = kid_plan o.ps (kids_of t) (suc n) (suc k) named.child o.kids named.there in
      let l = leaf_plan (number_at (suc n) (suc k) o.ps) r.0 named.child b.leaf.decl named.own r.2 named.kind in
      let entered = enters_order (suc k) o.ps b.leaf.decl named.own l.least l.most a (r.1 ∙ ap Some l.is) named.same in
      let last : suc k + 0 ≡ b.kid = let e = behind.kid_is in omega arith in
      let inner : next_order o.ps (inside k (at turn here)) a ≡ Some (inside b.kid (at b.turn here)) =
      next_order_at o.ps k q.0 (at turn here) a q.1
      ∙ (λ j. or_else (over (inside k) (done.0 j)) (cond (done.1 j) (over (shift (suc k)) (entered j)) None))
      ∙ (λ j. Some (inside (last j) (at (sym behind.turn_is j) here))) in
      ap (λ z. next z (at i (inside k (at turn here))) a) o.is
      ∙ (λ j. or_else (over (at i) (inner j)) (cond (finishes_order o.ps (inside k (at turn here)) && may_repeat o.most i) (over (at (suc i)) (enter_order o.ps a)) None))

  pub behind_beside : LiesBeside t k turn a b
  behind_beside = record {
    child = behind.named.child;
    there = ap (λ j. slice_get (kids_of t) j) behind.kid_is ∙ behind.named.there;
    number = behind.named.number;
    decl = subst (λ z. IsLeaf z b.leaf.decl) (sym behind.named.kind) refl;
    small = let e = behind.turn_is in omega arith;
    goes = λ n p h i. go n p h i (group_plan n p t behind.ordered.0 h behind.ordered.1);
  }
    where
      go : (n : ℕ) (p : Particle) → IsPlan n p t → (i : ℕ) → OrderPlan n p t behind.ordered.0 ⊎ OnePlan n p t behind.ordered.0
          → next p (at i (inside k (at turn here))) a ≡ Some (at i (inside b.kid (at b.turn here)))
      go n p h i (inl o) = behind_in_order n i p behind.ordered.0 h o
      go n p h i (inr o) = absurd (both_no behind.ordered.0.ordered behind.ordered.2 o.ordered)

-- ---- what is known of the name

again_some : (b : Bool) (known : Known) → cond b (Some Begins) None ≡ Some known → b ≡ true
again_some true known e = refl
again_some false known e = absurd (cc)

again_none : (b : Bool) → cond b (Some Begins) None ≡ None → b ≡ false
again_none true e = absurd (cc)
again_none false e = refl

pub again_both : (l : PlanLabel) (t : Rose PlanLabel) (turn : ℕ) (own a : Name) (known : Known) → l ≡ label_of t → again_at l.max turn own a ≡ Some known
    → (may_repeat (label_of t).max turn && name_eq a own) ≡ true
again_both l t turn own a known e h = ap (λ (m : PlanLabel). may_repeat m.max turn && name_eq a own) (sym e) ∙ again_some (may_repeat l.max turn && name_eq a own) known h

pub again_not : (l : PlanLabel) (t : Rose PlanLabel) (turn : ℕ) (own a : Name) → l ≡ label_of t → again_at l.max turn own a ≡ None
    → (may_repeat (label_of t).max turn && name_eq a own) ≡ false
again_not l t turn own a e h = ap (λ (m : PlanLabel). may_repeat m.max turn && name_eq a own) (sym e) ∙ again_none (may_repeat l.max turn && name_eq a own) h

pub each_some : (o : Option Beside) (t child : Rose PlanLabel) (k turn d : ℕ) (own a : Name) → slice_get (kids_of t) k ≡ Some child → (label_of child).kind ≡ PlanLeaf d own
    → (may_repeat (label_of child).max turn && name_eq a own) ≡ false → may_stop (label_of child).min turn ≡ true
    → IfSome o (λ b. LiesBehind t k a b) → IfSome o (λ b. LiesBeside t k turn a b)
each_some None t child k turn d own a there kind other stop h = tt
each_some (Some b) t child k turn d own a there kind other stop h = behind_beside t child k turn d own a b there kind other stop h

-- ---- the lists

-- the kid on the way is one of the particle
pub kid_on_way : (us : List Turn) (ks : List ℕ) (t : Rose PlanLabel) → OnWay us ks t → length us ≡ 2 → get_or ks 0 0 < length (kids_of t)
kid_on_way [] ks t h l = absurd (cc)
kid_on_way (u ∷ []) ks t h l = absurd (cc)
kid_on_way (u ∷ v ∷ us) [] t h l = absurd (let q = h.1.1 in cc)
kid_on_way (u ∷ v ∷ us) (k ∷ ks) t h l = got_below (kids_of t) k h.1.1 h.1.2

-- ---- the first leaf

-- a particle with such a kid has two levels
pub two_levels : (t : Rose PlanLabel) (k : ℕ) (a : Name) (leaf : Leaf) → IsNamedKid (kids_of t) k a leaf → 2 ≤ height t
two_levels t k a leaf named = omega (arith, (kid_lower t k named.child named.there).0, height-positive named.child)

pub enters_first : (l : PlanLabel) (t : Rose PlanLabel) (a : Name) (leaf : Leaf) (us mid new_us : List Turn) (ks new_ks : List ℕ) → l ≡ label_of t → IsNamedKid (kids_of t) 0 a leaf
    → mid ≡ us ++ record { particle = l.number; turn = 0 } ∷ [] → new_us ≡ mid ++ record { particle = leaf.particle; turn = 0 } ∷ [] → new_ks ≡ ks ++ 0 ∷ []
    → (n : ℕ) (p : Particle) → IsPlan n p t → Entered p t 0 a us new_us ks new_ks leaf
enters_first l t a leaf us mid new_us ks new_ks same named mid_is us_is ks_is n p h =
    let g = parent n 0 p t named.child h named.there in
    let first : is_kid_of (slice_get (kids_of t) 0) a ≡ true = ap (λ o. is_kid_of o a) named.there ∙ ap (λ z. is_leaf_of z a) named.kind ∙ named.same in
    let w = group_enters n p t g.0 0 a 0 h g.1 (guessed n p t g.0 0 a h g.1 (λ _. refl) first) in
    let below = enter_leaf w.number w.kid named.child leaf.decl 0 named.own a mid (ks ++ 0 ∷ []) (w.plan named.child named.there) named.kind named.same in
    let turns : mid ++ record { particle = (label_of named.child).number; turn = 0 } ∷ [] ≡ new_us = (λ i. mid ++ record { particle = sym named.number i; turn = 0 } ∷ []) ∙ sym us_is in
    let same_leaf = subst (λ (z : Leaf). Entered w.kid named.child 0 a mid (mid ++ record { particle = (label_of named.child).number; turn = 0 } ∷ []) (ks ++ 0 ∷ []) (ks ++ 0 ∷ []) z)
    (λ i. record { particle = sym named.number i; decl = leaf.decl }) below in
    enter_group_both (Some leaf) p l t named.child 0 a 0 us mid new_us ks (ks ++ 0 ∷ []) new_ks same mid_is refl w named.there
    (subst (λ z. Entered w.kid named.child 0 a mid z (ks ++ 0 ∷ []) new_ks leaf) turns
    (subst (λ z. Entered w.kid named.child 0 a mid (mid ++ record { particle = (label_of named.child).number; turn = 0 } ∷ []) (ks ++ 0 ∷ []) z leaf) (sym ks_is) same_leaf))

-- ---- the end

leaf_kind : (kind : PlanKind) (decl : ℕ) → IsLeaf kind decl → (d : ℕ) × (own : Name) × (kind ≡ PlanLeaf d own)
leaf_kind (PlanLeaf d own) decl h = (d, own, refl)
leaf_kind (PlanGroup g) decl h = absurd h

pub done_beside : (us : List Turn) (ks : List ℕ) (t : Rose PlanLabel) (g : Group) (done closed stop : Bool) → OnWay us ks t → length us ≡ 2 → (label_of t).kind ≡ PlanGroup g
    → ((child : Rose PlanLabel) → slice_get (kids_of t) (get_or ks 0 0) ≡ Some child → done ≡ may_stop (label_of child).min (get_or us 1 (record { particle = 0; turn = 0 })).turn)
    → closed ≡ (done && (not g.ordered || ends_in g (get_or ks 0 0))) → stop ≡ may_stop (label_of t).min (get_or us 0 (record { particle = 0; turn = 0 })).turn
    → (n : ℕ) (p : Particle) → IsPlan n p t → (closed && stop) ≡ finishes p (spot_of us ks)
done_beside [] ks t g done closed stop way l e done_is closed_is stop_is n p h = absurd (cc)
done_beside (u ∷ []) ks t g done closed stop way l e done_is closed_is stop_is n p h = absurd (cc)
done_beside (u ∷ v ∷ []) [] t g done closed stop way l e done_is closed_is stop_is n p h = absurd (let q = way.1.1 in cc)
done_beside (u ∷ v ∷ []) (k ∷ []) t g done closed stop way l e done_is closed_is stop_is n p h =
    let child = way.1.1 in
    let there = way.1.2 in
    let leaf = leaf_kind (label_of child).kind way.0.decl way.1.3.3 in
    group_done n p t g u.turn k (at v.turn here) child done closed stop h e there
    (λ m q plan. done_is child there ∙ leaf_done m q child leaf.0 leaf.1 (v ∷ []) [] way.0 v.turn plan leaf.2 way.1.3 (λ w ws f. ap (λ (zs : List Turn). (get_or zs 0 v).turn) (sym f)))
    closed_is stop_is
done_beside (u ∷ v ∷ []) (k ∷ j ∷ js) t g done closed stop way l e done_is closed_is stop_is n p h = absurd way.1.3.3
done_beside (u ∷ v ∷ w ∷ us) ks t g done closed stop way l e done_is closed_is stop_is n p h = absurd (cc)

pub no_leaf : (us : List Turn) (ks : List ℕ) (t : Rose PlanLabel) (d : ℕ) (own : Name) → OnWay us ks t → length us ≡ 2 → (label_of t).kind ≡ PlanLeaf d own → (n : ℕ) (p : Particle) → IsPlan n p t → ⊥
no_leaf [] ks t d own way l e n p h = cc
no_leaf (u ∷ []) ks t d own way l e n p h = cc
no_leaf (u ∷ v ∷ us) [] t d own way l e n p h = let q = way.1.1 in cc
no_leaf (u ∷ v ∷ us) (k ∷ ks) t d own way l e n p h = let g = parent n k p t way.1.1 h way.1.2 in let q = g.1 in cc
