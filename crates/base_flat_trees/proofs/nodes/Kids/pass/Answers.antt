use Rattle.std.proofs.Common.{◌≡◌, ◌≤◌, ℕ, length, take, drop, sym, ◌∙◌, ap, subst, refl}
use Rattle.base_flat_trees.proofs.Forests.{parts, next_is}
use Rattle.base_flat_trees.proofs.nodes.Kids.pass.Goals as goal

pub split_at-requires : goal.split_at-requires
split_at-requires g c =
    subst (λ (n : ℕ). n ≤ length c.in-Some.later.now) c.if-first-below.false
    (parts c.self.inside.left.now c.in-Some.first.now c.in-Some.later.now c.in-Some.ensures.cases.0 c.self.invariant).within

pub invariant_of-self : goal.invariant_of-self
invariant_of-self g c =
    rw (c.split_at.ensures.back ∙ ap (λ (n : ℕ). drop n c.in-Some.later.now) (sym c.if-first-below.false))
    ((parts c.self.inside.left.now c.in-Some.first.now c.in-Some.later.now c.in-Some.ensures.cases.0 c.self.invariant).left)

pub returns-else-first-below : goal.returns-else-first-below
returns-else-first-below g c = (
  _,
  next_is c.args.self.now c.self.inside.left.now c.in-Some.first.now c.in-Some.later.now (take c.in-Some.first.now.below c.in-Some.later.now) c.split_at.result.1.now c.self.view_is c.in-Some.ensures.cases.0
      c.self.invariant refl (c.split_at.ensures.back ∙ ap (λ (n : ℕ). drop n c.in-Some.later.now) (sym c.if-first-below.false)),
)
