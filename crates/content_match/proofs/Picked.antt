-- A step in an all, and its end, by its marks.
use Rattle.std.proofs.Common.{◌≡◌, ℕ, zero, suc, ◌+◌, ◌<◌, ◌≤◌, List, [], ◌∷◌, ◌++◌, length, replicate, get_or, set, drop, Option, Some, None, MatchOption, Bool, true, false, ◌||◌, ◌&&◌, cond, refl, sym, ◌∙◌, ap, subst, arith}
use Rattle.std.specs.Prelude.{not}
use Rattle.base_trees.specs.Rose.{Rose, node, roses_of, label_of, depth_all}
use Rattle.base_texts.specs.declared.texts.Name.{Name}
use Rattle.content_models.specs.Particle.{occurs, Term, element, sequence, choice, all, Particles, none, more}
use Rattle.content_models.specs.Language as language
use Rattle.content_models.specs.Language.{leaf_at, turn_of, size_of}
use Rattle.content_models.specs.Clear.{is_zero, empties, all_empty, AreSingle}
use Rattle.content_models.specs.Spots.{at, among, over, or_else, picked, pick, among_picked, unmarked, missing, enter_term, leaf_picked}
use Rattle.content_models.specs.SpotLaws.{step_from, may_end}
use Rattle.content_match.specs.Private.Alls.{whole, kids_in, needed, wanted_in, no_marks, IsAllPlan, AreRequired, IsMarked, AreMarks, KidTaken}
use Rattle.content_match.specs.Private.Plans.{own_leaf, is_needed, count_of, pick_one, IsPlan, IsPlanOf, ArePlans}
use Rattle.content_match.specs.Private.Standing.{AreWithin, spot_among, IsLeafAt, SamePlace}
use Rattle.content_match.specs.declared.places.Leaf.{Leaf}
use Rattle.content_match.specs.declared.places.Position.{Position}
use Rattle.content_match.specs.declared.places.Turn.{Turn}
use Rattle.content_match.specs.declared.plans.AllPlan.{AllPlan}
use Rattle.content_match.specs.declared.plans.PlanKind.{PlanKind}
use Rattle.content_match.specs.declared.plans.PlanKind.TheVariants.{Leaf as PlanLeaf, Group as PlanGroup}
use Rattle.content_match.specs.declared.plans.PlanLabel.{PlanLabel}
use Rattle.content_match.proofs.Descending.{within_more_turns}
use Rattle.content_match.proofs.Marking.{marked, some_wanted}

-- ---- the steps

no_more : {A : Type 0} (o : Option A) (b : Bool) (q : Option A) → or_else o (cond (b && false) q None) ≡ o
no_more (Some x) b q = refl
no_more None true q = refl
no_more None false q = refl

step_goes : (ps : Particles) (j : ℕ) (ms : List Bool) (a : Name) → step_from (whole ps) (Some (at 0 (among j ms))) a ≡ over (at 0) (over among_picked (pick ps ms a))
step_goes ps j ms a = no_more (over (at 0) (over among_picked (pick ps ms a))) (is_zero (missing ps ms)) (over (at 1) (enter_term (all ps) a))

-- with these marks a name leads where picking it leads
step_by : (ps : Particles) (ks : List ℕ) (ms : List Bool) (a : Name) → AreMarks ps ks ms → step_from (whole ps) (spot_among ks ms) a ≡ over (at 0) (over among_picked (pick ps ms a))
step_by ps [] ms a e = ap (λ z. over (at 0) (over among_picked (pick ps z a))) (sym e)
step_by ps (k ∷ ks) ms a e = step_goes ps k ms a

pub step_taken : (ps : Particles) (ks js : List ℕ) (ms ns : List Bool) (a : Name) (k : ℕ) → AreMarks ps ks ms → pick ps ms a ≡ Some (picked k ns) → js ≡ k ∷ []
    → step_from (whole ps) (spot_among ks ms) a ≡ spot_among js ns
step_taken ps ks js ms ns a k e found is =
    step_by ps ks ms a e ∙ ap (λ r. over (at 0) (over among_picked r)) found ∙ ap (λ zs. spot_among zs ns) (sym is)

pub step_refused : (ps : Particles) (ks : List ℕ) (ms : List Bool) (a : Name) → AreMarks ps ks ms → pick ps ms a ≡ None → step_from (whole ps) (spot_among ks ms) a ≡ None
step_refused ps ks ms a e found = step_by ps ks ms a e ∙ ap (λ r. over (at 0) (over among_picked r)) found

and_true : (b : Bool) → (b && true) ≡ b
and_true true = refl
and_true false = refl

and_zero : (e : Bool) (n : ℕ) → (e && is_zero n) ≡ is_zero (cond e n (suc n))
and_zero true n = refl
and_zero false n = refl

none_missing : (ps : Particles) → all_empty ps ≡ is_zero (missing ps (unmarked ps))
none_missing none = refl
none_missing (more p ps) = ap (λ b. empties p && b) (none_missing ps) ∙ and_zero (empties p) (missing ps (unmarked ps))

-- nothing more is needed exactly where no kid is missing
pub end_by : (ps : Particles) (ks : List ℕ) (ms : List Bool) → AreMarks ps ks ms → may_end (whole ps) (spot_among ks ms) ≡ is_zero (missing ps ms)
end_by ps [] ms e = none_missing ps ∙ ap (λ z. is_zero (missing ps z)) (sym e)
end_by ps (k ∷ ks) ms e = and_true (is_zero (missing ps ms))

-- ---- the plans of the kids

min_is : (n : ℕ) (t : Term) (least : ℕ) (most : Option ℕ) (u : Rose PlanLabel) → IsPlan n (occurs t least most) u → (label_of u).min ≡ least
min_is n t least most (node l ts) h = h.1

or_none : (b : Bool) → b ≡ (b || false)
or_none true = refl
or_none false = refl

pub are_required : (ps : Particles) (n : ℕ) (ts : List (Rose PlanLabel)) → ArePlans n ps (roses_of ts) → AreSingle ps → AreRequired ps (needed ts)
are_required none n [] h s = tt
are_required none n (t ∷ ts) h s = absurd h
are_required (more p ps) n [] h s = absurd h
are_required (more (occurs (element d a) least most) ps) n (t ∷ ts) h s =
    (ap (λ m. not (is_zero m)) (min_is n (element d a) least most t h.0) ∙ ap not (or_none (is_zero least)), are_required ps (n + 1) ts h.1 s.1)
are_required (more (occurs (sequence qs) least most) ps) n (t ∷ ts) h s = absurd s.0.0
are_required (more (occurs (choice qs) least most) ps) n (t ∷ ts) h s = absurd s.0.0
are_required (more (occurs (all qs) least most) ps) n (t ∷ ts) h s = absurd s.0.0

pub plans_count : (ps : Particles) (n : ℕ) (ts : List (Rose PlanLabel)) → ArePlans n ps (roses_of ts) → length ts ≡ count_of ps
plans_count none n [] h = refl
plans_count none n (t ∷ ts) h = absurd h
plans_count (more p ps) n [] h = absurd h
plans_count (more p ps) n (t ∷ ts) h = ap suc (plans_count ps (n + size_of p) ts h.1)

unmarked_is : (ps : Particles) (n : ℕ) (ts : List (Rose PlanLabel)) → ArePlans n ps (roses_of ts) → no_marks ts ≡ unmarked ps
unmarked_is none n [] h = refl
unmarked_is none n (t ∷ ts) h = absurd h
unmarked_is (more p ps) n [] h = absurd h
unmarked_is (more p ps) n (t ∷ ts) h = ap (λ z. false ∷ z) (unmarked_is ps (n + size_of p) ts h.1)

unmarked_count : (ps : Particles) → length (unmarked ps) ≡ count_of ps
unmarked_count none = refl
unmarked_count (more p ps) = ap suc (unmarked_count ps)

wanted_missing : (ps : Particles) (bs : List Bool) → AreRequired ps bs → wanted_in bs ≡ missing ps (unmarked ps)
wanted_missing none [] h = refl
wanted_missing none (b ∷ bs) h = absurd h
wanted_missing (more p ps) [] h = absurd h
wanted_missing (more p ps) (b ∷ bs) h = go b (empties p) h.0 (wanted_missing ps bs h.1)
  where
    go : (b e : Bool) → b ≡ not e → wanted_in bs ≡ missing ps (unmarked ps) → wanted_in (b ∷ bs) ≡ cond e (missing ps (unmarked ps)) (suc (missing ps (unmarked ps)))
    go true true h r = absurd (cc)
    go true false h r = ap suc r
    go false true h r = r
    go false false h r = absurd (cc)

-- before the first name
pub starts_marked : (a : AllPlan) (ks : List ℕ) (ms : List Bool) (wanted : ℕ) → IsAllPlan a → AreSingle (kids_in a) → ks ≡ [] → ms ≡ no_marks a.kids.items → wanted ≡ a.required
    → IsMarked (kids_in a) (needed a.kids.items) ms wanted × AreMarks (kids_in a) ks ms
starts_marked a ks ms wanted h s e is count =
    let none_on = is ∙ unmarked_is (kids_in a) 1 a.kids.items h.are_plans in
    let required = are_required (kids_in a) 1 a.kids.items h.are_plans s in (
      record {
        required_are = required;
        marks_fit = ap (λ (zs : List Bool). length zs) none_on ∙ unmarked_count (kids_in a);
        left_is = count ∙ h.count ∙ wanted_missing (kids_in a) (needed a.kids.items) required ∙ ap (λ zs. missing (kids_in a) zs) (sym none_on);
      },
      subst (λ zs. AreMarks (kids_in a) zs ms) (sym e) none_on,
    )

-- ---- the kid that takes a name

-- the leaf of a kid, by its plan
pub record KidTold (ps : Particles) (n : ℕ) (path : List language.Turn) (k : ℕ) (l : PlanLabel) : Type 0 where
  pub leaf : Leaf
  pub leaf_is : own_leaf l.number l.kind ≡ Some leaf
  pub number : leaf.particle ≡ l.number
  pub told : language.Leaf
  pub told_is : leaf_picked ps n path k ≡ Some told
  pub particle : told.particle ≡ leaf.particle
  pub decl : told.decl ≡ leaf.decl
  pub path_is : told.path ≡ path ++ turn_of leaf.particle 0 ∷ []

first_told : (d : ℕ) (a : Name) (least : ℕ) (most : Option ℕ) (ps : Particles) (n : ℕ) (path : List language.Turn) (t : Rose PlanLabel) → IsPlan n (occurs (element d a) least most) t
    → KidTold (more (occurs (element d a) least most) ps) n path zero (label_of t)
first_told d a least most ps n path (node l ts) h = record {
  leaf = record { particle = l.number; decl = d };
  leaf_is = go l.kind h.3;
  number = refl;
  told = leaf_at n d a (path ++ turn_of n 0 ∷ []);
  told_is = refl;
  particle = sym h.0;
  decl = refl;
  path_is = ap (λ m. path ++ turn_of m 0 ∷ []) (sym h.0);
}
  where
    go : (k : PlanKind) → IsPlanOf n (element d a) k ts → own_leaf l.number k ≡ Some (record { particle = l.number; decl = d })
    go (PlanLeaf e b) q = ap (λ z. Some (record { particle = l.number; decl = z })) q.0
    go (PlanGroup g) q = absurd q

pub kid_told : (ps : Particles) (n : ℕ) (path : List language.Turn) (ts : List (Rose PlanLabel)) (k : ℕ) (t d0 : Rose PlanLabel) → ArePlans n ps (roses_of ts) → AreSingle ps → k < length ts → t ≡ get_or ts k d0
    → KidTold ps n path k (label_of t)
kid_told none n path [] k t d0 h s l e = absurd (omega (arith, l))
kid_told none n path (u ∷ ts) k t d0 h s l e = absurd h
kid_told (more p ps) n path [] k t d0 h s l e = absurd h
kid_told (more (occurs (element d a) least most) ps) n path (u ∷ ts) zero t d0 h s l e =
    first_told d a least most ps n path t (subst (λ z. IsPlan n (occurs (element d a) least most) z) (sym e) h.0)
kid_told (more (occurs (sequence qs) least most) ps) n path (u ∷ ts) zero t d0 h s l e = absurd s.0.0
kid_told (more (occurs (choice qs) least most) ps) n path (u ∷ ts) zero t d0 h s l e = absurd s.0.0
kid_told (more (occurs (all qs) least most) ps) n path (u ∷ ts) zero t d0 h s l e = absurd s.0.0
kid_told (more p ps) n path (u ∷ ts) (suc k) t d0 h s l e =
    let r = kid_told ps (n + size_of p) path ts k t d0 h.1 s.1 (omega (arith, l)) e in
    record {
      leaf = r.leaf;
      leaf_is = r.leaf_is;
      number = r.number;
      told = r.told;
      told_is = r.told_is;
      particle = r.particle;
      decl = r.decl;
      path_is = r.path_is;
    }

-- where the matcher stands on the kid
pub kid_leaf : (ps : Particles) (k : ℕ) (l : PlanLabel) (us : List Turn) (ks : List ℕ) (ms : List Bool) → (r : KidTold ps 1 (turn_of 0 0 ∷ []) k l) → ks ≡ k ∷ []
    → us ≡ record { particle = 0; turn = 0 } ∷ record { particle = l.number; turn = 0 } ∷ [] → IsLeafAt (whole ps) (spot_among ks ms) us r.leaf
kid_leaf ps k l us ks ms r is turns =
    subst (λ vs. IsLeafAt (whole ps) (spot_among ks ms) vs r.leaf) (sym turns)
    (subst (λ js. IsLeafAt (whole ps) (spot_among js ms) (record { particle = 0; turn = 0 } ∷ record { particle = l.number; turn = 0 } ∷ []) r.leaf) (sym is)
    (record {
      spot = at 0 (among k ms);
      spot_is = refl;
      told = r.told;
      told_is = r.told_is;
      particle = r.particle;
      decl = r.decl;
      path_is = r.path_is ∙ ap (λ m. turn_of 0 0 ∷ turn_of m 0 ∷ []) r.number;
    }))

-- there is a kid, so there are two levels
pub two_levels : (ts : List (Rose PlanLabel)) (k : ℕ) → k < length ts → 1 ≤ depth_all (roses_of ts)
two_levels [] k l = absurd (omega (arith, l))
two_levels (node m us ∷ ts) k l = omega arith

pub within_two : (greatest n : ℕ) → AreWithin greatest (record { particle = 0; turn = 0 } ∷ record { particle = n; turn = 0 } ∷ [])
within_two greatest n = (omega arith, (omega arith, tt))

-- how many are needed
pub wanted_long : (ts : List (Rose PlanLabel)) → wanted_in (needed ts) ≤ length ts
wanted_long [] = omega arith
wanted_long (t ∷ ts) = go (is_needed (label_of t)) (wanted_long ts)
  where
    go : (b : Bool) → wanted_in (needed ts) ≤ length ts → wanted_in (b ∷ needed ts) ≤ suc (length ts)
    go true l = omega (arith, l)
    go false l = omega (arith, l)

pub unmarked_items : (ts : List (Rose PlanLabel)) → replicate (length ts) false ≡ no_marks ts
unmarked_items [] = refl
unmarked_items (t ∷ ts) = ap (λ zs. false ∷ zs) (unmarked_items ts)

pub needed_at : (ts : List (Rose PlanLabel)) (k : ℕ) (t d0 : Rose PlanLabel) → k < length ts → t ≡ get_or ts k d0 → get_or (needed ts) k false ≡ is_needed (label_of t)
needed_at [] k t d0 l e = absurd (omega (arith, l))
needed_at (u ∷ ts) zero t d0 l e = ap (λ (z : Rose PlanLabel). is_needed (label_of z)) (sym e)
needed_at (u ∷ ts) (suc k) t d0 l e = needed_at ts k t d0 (omega (arith, l)) e

-- the kid with its mark
pub marks_kid : (a : AllPlan) (k : ℕ) (t d0 : Rose PlanLabel) (needs : Bool) (ms ns : List Bool) (w v : ℕ) → k < length a.kids.items → t ≡ get_or a.kids.items k d0 → needs ≡ is_needed (label_of t)
    → k < count_of (kids_in a) → IsMarked (kids_in a) (needed a.kids.items) ms w → get_or ms k false ≡ false → ns ≡ set ms k true → w ≡ v + cond needs 1 0 → IsMarked (kids_in a) (needed a.kids.items) ns v
marks_kid a k t d0 needs ms ns w v l e is below h free marks wanted =
    subst (λ zs. IsMarked (kids_in a) (needed a.kids.items) zs v) (sym marks)
    (marked (kids_in a) (needed a.kids.items) ms w v k needs below h free (needed_at a.kids.items k t d0 l e ∙ sym is) wanted)

pub wants_kid : (a : AllPlan) (k : ℕ) (t d0 : Rose PlanLabel) (needs : Bool) (ms : List Bool) (w : ℕ) → k < length a.kids.items → t ≡ get_or a.kids.items k d0 → needs ≡ is_needed (label_of t)
    → k < count_of (kids_in a) → IsMarked (kids_in a) (needed a.kids.items) ms w → get_or ms k false ≡ false → needs ≡ true → 1 ≤ w
wants_kid a k t d0 needs ms w l e is below h free need =
    some_wanted (kids_in a) (needed a.kids.items) ms w k below h free (needed_at a.kids.items k t d0 l e ∙ sym is ∙ need)

-- what the answer is where the kid took the name
pub answer_is : (a : AllPlan) (k : ℕ) (old new : Position) (o : Option Leaf) (leaf : Leaf) → o ≡ Some leaf → KidTaken a k old new (Some leaf) → KidTaken a k old new o
answer_is a k old new o leaf e b = subst (λ q. KidTaken a k old new q) (sym e) b

pub taken_small : (a : AllPlan) (k : ℕ) (old new : Position) (o : Option Leaf) (greatest : ℕ) → KidTaken a k old new o → AreWithin greatest old.turns.items → AreWithin (greatest + 1) new.turns.items
taken_small a k old new None greatest t w =
    subst (λ (us : List Turn). AreWithin (greatest + 1) us) (sym t.1.turns) (within_more_turns greatest (greatest + 1) old.turns.items (omega arith) w)
taken_small a k old new (Some leaf) greatest t w = subst (λ (us : List Turn). AreWithin (greatest + 1) us) (sym t.2) (within_two (greatest + 1) leaf.particle)

pub taken_marks : (a : AllPlan) (k : ℕ) (old new : Position) (o : Option Leaf) → KidTaken a k old new o → AreMarks (kids_in a) old.kids.items old.marks.items → AreMarks (kids_in a) new.kids.items new.marks.items
taken_marks a k old new None t w =
    subst (λ (ms : List Bool). AreMarks (kids_in a) new.kids.items ms) (sym t.1.marks) (subst (λ (ks : List ℕ). AreMarks (kids_in a) ks old.marks.items) (sym t.1.kids) w)
taken_marks a k old new (Some leaf) t w = subst (λ (ks : List ℕ). AreMarks (kids_in a) ks new.marks.items) (sym t.1) tt

pub taken_gone : (a : AllPlan) (k : ℕ) (old new : Position) (o : Option Leaf) (name : Name) → KidTaken a k old new o → AreMarks (kids_in a) old.kids.items old.marks.items → pick_one (kids_in a) name ≡ Some k
    → MatchOption o
    ((step_from (whole (kids_in a)) (spot_among old.kids.items old.marks.items) name ≡ None) × SamePlace old new)
    (λ leaf. (step_from (whole (kids_in a)) (spot_among old.kids.items old.marks.items) name ≡ spot_among new.kids.items new.marks.items)
    × IsLeafAt (whole (kids_in a)) (spot_among new.kids.items new.marks.items) new.turns.items leaf)
taken_gone a k old new None name t marks e = (step_refused (kids_in a) old.kids.items old.marks.items name marks (t.0 name e), t.1)
taken_gone a k old new (Some leaf) name t marks e =
    (step_taken (kids_in a) old.kids.items new.kids.items old.marks.items new.marks.items name k marks (t.0 name e) t.1, t.3)

-- one that is needed is among those that are left
pub wanted_here : (ts : List (Rose PlanLabel)) (i : ℕ) (t : Rose PlanLabel) → i < length ts → t ≡ get_or ts i t → is_needed (label_of t) ≡ true → 1 ≤ wanted_in (needed (drop i ts))
wanted_here [] i t l e n = absurd (omega (arith, l))
wanted_here (u ∷ ts) zero t l e n = go (is_needed (label_of u)) (ap (λ (z : Rose PlanLabel). is_needed (label_of z)) (sym e) ∙ n)
  where
    go : (b : Bool) → b ≡ true → 1 ≤ wanted_in (b ∷ needed ts)
    go true h = omega arith
    go false h = absurd (cc)
wanted_here (u ∷ ts) (suc i) t l e n = wanted_here ts i t (omega (arith, l)) e n
