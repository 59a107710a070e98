-- A content model, whether it is an all or not.
use Rattle.std.proofs.Common.{◌≡◌, ℕ, zero, suc, List, [], Option, Some, None, MatchOption, Bool, true, false, nat_eq, refl, sym, ◌∙◌, ap, subst}
use Rattle.base_trees.specs.Rose.{Rose, node, roses_of}
use Rattle.base_texts.specs.declared.texts.Name.{Name}
use Rattle.content_models.specs.Particle.{Particle, occurs, element, sequence, choice, all, Particles}
use Rattle.content_models.specs.Clear.{is_zero, Clear, IsNoAll, AreSingle}
use Rattle.content_models.specs.SpotLaws.{step_from, may_end}
use Rattle.content_match.specs.Private.Alls.{whole, kids_in}
use Rattle.content_match.specs.Private.Plans.{IsPlan, particle_of}
use Rattle.content_match.specs.Private.Standing.{OnWay, Stands, spot_of, spot_now, spot_in}
use Rattle.content_match.specs.Private.Tops.{particle_of_top, height_of, marks_of, required_of, IsTop, StandsAt, spot_at, Gone}
use Rattle.content_match.specs.Taking.{Matched, levels}
use Rattle.content_match.specs.Taking as taking
use Rattle.content_match.specs.declared.places.Leaf.{Leaf}
use Rattle.content_match.specs.declared.places.Position.{Position}
use Rattle.content_match.specs.declared.places.Turn.{Turn}
use Rattle.content_match.specs.declared.plans.AllPlan.{AllPlan}
use Rattle.content_match.specs.declared.plans.PlanLabel.{PlanLabel}
use Rattle.content_match.specs.declared.plans.TopPlan.{TopPlan}
use Rattle.content_match.specs.declared.plans.TopPlan.TheVariants.{Tree as TreePlan, All as WholePlan}
use Rattle.content_match.proofs.Picked.{starts_marked, end_by}
use borrow.Author.Tests.{eqb-true}
use Rattle.content_match.proofs.Taken.{height_levels, depth_levels, leaf_told, stands_spot}

-- where the content model is no all, the turns and the kids are the spot
pub spot_plain : (p : Particle) (us : List Turn) (ks : List ℕ) (ms : List Bool) → IsNoAll p → spot_in p us ks ms ≡ spot_now us ks
spot_plain (occurs (element d a) least most) us ks ms h = refl
spot_plain (occurs (sequence ps) least most) us ks ms h = refl
spot_plain (occurs (choice ps) least most) us ks ms h = refl
spot_plain (occurs (all ps) least most) us ks ms h = absurd h

pub spot_matched : (m : Matched) → IsNoAll m.particle → taking.spot_of m ≡ spot_now m.turns m.kids
spot_matched m h = spot_plain m.particle m.turns m.kids m.marks h

-- the plan of an all is no tree
pub tree_no_all : (n : ℕ) (p : Particle) (t : Rose PlanLabel) → IsPlan n p t → IsNoAll p
tree_no_all n (occurs (element d a) least most) (node l ts) h = tt
tree_no_all n (occurs (sequence ps) least most) (node l ts) h = tt
tree_no_all n (occurs (choice ps) least most) (node l ts) h = tt
tree_no_all n (occurs (all ps) least most) (node l ts) h = h.3

pub top_levels : (top : TopPlan) → IsTop top → height_of top ≡ levels (particle_of_top top)
top_levels (TreePlan t) h = height_levels 0 (particle_of t) t h
top_levels (WholePlan a) h = ap suc (depth_levels 1 (kids_in a) (roses_of a.kids.items) h.are_plans)

-- the kids of a clear all are single elements
pub single_kids : (ps : Particles) → Clear (whole ps) [] → AreSingle ps
single_kids ps c = c.3.4

-- ---- before the first name

pub stands_first : (top : TopPlan) (position : Position) → IsTop top → Clear (particle_of_top top) [] → position.turns.items ≡ [] → position.kids.items ≡ []
    → position.marks.items ≡ marks_of top → position.wanted ≡ required_of top → StandsAt top position
stands_first (TreePlan t) position h c us ks ms w = subst (λ (vs : List Turn). OnWay vs position.kids.items t) (sym us) ks
stands_first (WholePlan a) position h c us ks ms w =
    starts_marked a position.kids.items position.marks.items position.wanted h (single_kids (kids_in a) c) ks ms w

-- ---- a step

module _ (t : Rose PlanLabel) (old new : Position) (a : Name) (h : IsPlan 0 (particle_of t) t) (marks : new.marks.items ≡ old.marks.items) (wanted : new.wanted ≡ old.wanted) where
  plain : (position : Position) → spot_at (TreePlan t) position ≡ spot_now position.turns.items position.kids.items
  plain position = spot_plain (particle_of t) position.turns.items position.kids.items position.marks.items (tree_no_all 0 (particle_of t) t h)

  pub tree_gone : (o : Option Leaf)
      → MatchOption o
      ((step_from (particle_of t) (spot_now old.turns.items old.kids.items) a ≡ None) × (new.turns.items ≡ old.turns.items) × (new.kids.items ≡ old.kids.items))
      (λ leaf. (step_from (particle_of t) (spot_now old.turns.items old.kids.items) a ≡ spot_now new.turns.items new.kids.items) × Stands new.turns.items new.kids.items t leaf)
      → Gone (TreePlan t) old new a o
  tree_gone None g =
      (ap (λ s. step_from (particle_of t) s a) (plain old) ∙ g.0, record { turns = g.1; kids = g.2; marks = marks; wanted = wanted })
  tree_gone (Some leaf) g =
      let r = leaf_told new.turns.items new.kids.items leaf 0 (particle_of t) t h g.1 [] in (
        ap (λ s. step_from (particle_of t) s a) (plain old) ∙ g.0 ∙ sym (plain new),
        record {
          spot = spot_of new.turns.items new.kids.items;
          spot_is = plain new ∙ stands_spot new.turns.items new.kids.items t leaf g.1;
          told = r.told;
          told_is = r.is;
          particle = r.particle;
          decl = r.decl;
          path_is = r.path_is;
        },
      )

-- ---- the end

zero_is : (n : ℕ) → nat_eq n 0 ≡ is_zero n
zero_is zero = refl
zero_is (suc n) = go (nat_eq (suc n) 0) refl
  where
    go : (b : Bool) → nat_eq (suc n) 0 ≡ b → nat_eq (suc n) 0 ≡ false
    go true e = absurd (let q : suc n ≡ 0 = eqb-true (suc n) 0 e in cc)
    go false e = e

pub whole_ends : (a : AllPlan) (position : Position) → StandsAt (WholePlan a) position → nat_eq position.wanted 0 ≡ may_end (whole (kids_in a)) (spot_at (WholePlan a) position)
whole_ends a position (marked, marks) =
    zero_is position.wanted ∙ ap is_zero marked.left_is ∙ sym (end_by (kids_in a) position.kids.items position.marks.items marks)
