use Rattle.std.proofs.Common.{length, ap, refl}
use Rattle.base_trees.proofs.Kids.{all_allowed-take_more}
use Rattle.base_trees.proofs.Measured.{label_refused, kid_refused, tree_allowed}
use Rattle.base_trees.proofs.trees.Tree.+is_allowed.Goals as goal

pub returns-then-not-allows : goal.returns-then-not-allows
returns-then-not-allows g t c = (
  λ p. absurd (cc),
  λ h. absurd (label_refused g.L.Shape.allowed c.self.inside.label c.self.inside.kids.items c.args.self.now c.self.view_is
      (length c.as_slice-kids.result.now) (ap length c.as_slice-kids.ensures.value)
      (λ p. let q = rw c.if-not-allows.true at (c.allows.ensures.1 p) in cc) h),
)

pub returns-then-not-is_allowed : goal.returns-then-not-is_allowed
returns-then-not-is_allowed g t c = (
  λ p. absurd (cc),
  λ h. absurd (kid_refused g.L.Shape.allowed c.self.inside.label c.self.inside.kids.items c.args.self.now c.self.view_is
      c.as_slice-kids.result.now c.as_slice-kids.ensures.value c.loop-kid.kid-index
      c.kid-item.result c.loop-kid-test.true c.kid-item.is
      (λ p. let q = rw c.if-not-is_allowed.true at (c.is_allowed.ensures.1 p) in cc) h),
)

pub loop-kid-preserved : goal.loop-kid-preserved
loop-kid-preserved g t c =
    all_allowed-take_more c.as_slice-kids.result.now c.loop-kid.kid-index c.kid-item.result c.loop-kid-test.true c.kid-item.is
    g.L.Shape.allowed c.loop-kid.invariant (c.if-not-is_allowed.ensures.0 refl)

pub returns : goal.returns
returns g t c = (
  λ _. tree_allowed g.L.Shape.allowed c.self.inside.label c.self.inside.kids.items c.args.self.now c.self.view_is
      c.as_slice-kids.result.now c.as_slice-kids.ensures.value c.loop-kid.kid-index c.loop-kid-test.false
      (length c.as_slice-kids.result.now) (ap length c.as_slice-kids.ensures.value)
      (c.if-not-allows.ensures.0 refl) c.loop-kid.invariant,
  λ _. refl,
)
