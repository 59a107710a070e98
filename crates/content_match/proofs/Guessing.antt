-- A kid that is an element of the name is the one that the tables tell.
use Rattle.std.proofs.Common.{◌≡◌, ℕ, zero, suc, ◌+◌, ◌≤◌, ◌⊎◌, inl, inr, List, Option, Some, None, Bool, true, false, ◌||◌, cond, refl, sym, ◌∙◌, ap, subst, arith}
use Rattle.std.specs.Prelude.{slice_get}
use Rattle.base_trees.specs.Rose.{Rose, label_of, kids_of}
use Rattle.base_texts.specs.declared.texts.Name.{Name}
use Rattle.base_texts.specs.Names.{name_eq}
use Rattle.content_models.specs.Particle.{Particle, occurs, element, Particles, none, more}
use Rattle.content_models.specs.Clear.{first, empties}
use Rattle.content_models.specs.Private.Deciding.{has}
use Rattle.content_models.specs.Spots.{over}
use Rattle.content_match.specs.Private.Plans.{found_in, count_of, pick_order, pick_one, drop_all, is_leaf_of, is_kid_of, IsPlan}
use Rattle.content_match.specs.declared.plans.Group.{Group}
use Rattle.content_match.specs.declared.plans.PlanKind.{PlanKind}
use Rattle.content_match.specs.declared.plans.PlanKind.TheVariants.{Leaf as PlanLeaf, Group as PlanGroup}
use Rattle.content_match.specs.declared.plans.PlanLabel.{PlanLabel}
use Rattle.content_match.proofs.Picking.{kid_at, number_at}
use Rattle.content_match.proofs.Planned.{OrderPlan, OnePlan, group_plan, leaf_plan, got_below, kid_plan, count_kids}

or_false : (b : Bool) → b ≡ true → (b || false) ≡ true
or_false true e = refl
or_false false e = absurd (cc)

-- a kid of this name
record KidOf (ts : List (Rose PlanLabel)) (k : ℕ) (a : Name) : Type 0 where
  pub kid : Rose PlanLabel
  pub there : slice_get ts k ≡ Some kid
  pub decl : ℕ
  pub own : Name
  pub kind : (label_of kid).kind ≡ PlanLeaf decl own
  pub same : name_eq a own ≡ true

kid_of : (ts : List (Rose PlanLabel)) (k : ℕ) (a : Name) → is_kid_of (slice_get ts k) a ≡ true → KidOf ts k a
kid_of ts k a e = go (slice_get ts k) refl e
  where
    leaf : (t : Rose PlanLabel) (i : PlanKind) → (label_of t).kind ≡ i → slice_get ts k ≡ Some t → is_leaf_of i a ≡ true → KidOf ts k a
    leaf t (PlanLeaf d b) is there q = record { kid = t; there = there; decl = d; own = b; kind = is; same = q }
    leaf t (PlanGroup g) is there q = absurd (cc)

    go : (o : Option (Rose PlanLabel)) → slice_get ts k ≡ o → is_kid_of o a ≡ true → KidOf ts k a
    go None there q = absurd (cc)
    go (Some t) there q = leaf t (label_of t).kind refl there q

picks_order : (k : ℕ) (ps : Particles) (d : ℕ) (b : Name) (least : ℕ) (most : Option ℕ) (a : Name) → kid_at k ps ≡ Some (occurs (element d b) least most) → name_eq a b ≡ true
    → pick_order (drop_all k ps) a ≡ Some 0
picks_order k none d b least most a e q = absurd (cc)
picks_order zero (more p ps) d b least most a e q =
    let is : p ≡ occurs (element d b) least most = cc in
    let begins : has (first p) a ≡ true = subst (λ z. has (first z) a ≡ true) (sym is) (or_false (name_eq a b) q) in
    ap (λ z. cond z (Some 0) (cond (empties p) (over suc (pick_order ps a)) None)) begins
picks_order (suc k) (more p ps) d b least most a e q = picks_order k ps d b least most a e q

picks_one : (ps : Particles) (d : ℕ) (b : Name) (least : ℕ) (most : Option ℕ) (a : Name) → kid_at 0 ps ≡ Some (occurs (element d b) least most) → name_eq a b ≡ true
    → pick_one ps a ≡ Some 0
picks_one none d b least most a e q = absurd (cc)
picks_one (more p ps) d b least most a e q =
    let is : p ≡ occurs (element d b) least most = cc in
    let begins : has (first p) a ≡ true = subst (λ z. has (first z) a ≡ true) (sym is) (or_false (name_eq a b) q) in
    ap (λ z. cond z (Some 0) (over suc (pick_one ps a))) begins

pub guessed : (n : ℕ) (p : Particle) (t : Rose PlanLabel) (g : Group) (from : ℕ) (a : Name) → IsPlan n p t → (label_of t).kind ≡ PlanGroup g
    → (g.ordered ≡ false → from ≡ 0) → is_kid_of (slice_get (kids_of t) from) a ≡ true → found_in g from a ≡ Some from
guessed n p t g from a h e zero_in found = go (group_plan n p t g h e)
  where
    k : KidOf (kids_of t) from a
    k = kid_of (kids_of t) from a found

    go : OrderPlan n p t g ⊎ OnePlan n p t g → found_in g from a ≡ Some from
    go (inl o) =
        let kid = kid_plan o.ps (kids_of t) (suc n) from k.kid o.kids k.there in
        let leaf = leaf_plan (number_at (suc n) from o.ps) kid.0 k.kid k.decl k.own kid.2 k.kind in
        let below : from ≤ count_of o.ps = omega (arith, got_below (kids_of t) from k.kid k.there, count_kids o.ps (kids_of t) (suc n) o.kids) in
        o.tells.0 from a below
        ∙ ap (over (λ j. from + j)) (picks_order from o.ps k.decl k.own leaf.least leaf.most a (kid.1 ∙ ap Some leaf.is) k.same)
        ∙ ap Some (omega arith)
    go (inr o) =
        let is : from ≡ 0 = zero_in o.ordered in
        let kid = kid_plan o.ps (kids_of t) (suc n) from k.kid o.kids k.there in
        let leaf = leaf_plan (number_at (suc n) from o.ps) kid.0 k.kid k.decl k.own kid.2 k.kind in
        let first_there = subst (λ j. kid_at j o.ps ≡ Some (occurs (element k.decl k.own) leaf.least leaf.most)) is (kid.1 ∙ ap Some leaf.is) in
        ap (λ j. found_in g j a) is ∙ o.tells a ∙ picks_one o.ps k.decl k.own leaf.least leaf.most a first_there k.same ∙ ap Some (sym is)
