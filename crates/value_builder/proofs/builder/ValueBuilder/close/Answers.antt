use Rattle.std.proofs.Common.{◌≤◌, refl, subst}
use Rattle.base_flat_trees.specs.Zips.{closed}
use Rattle.value_builder.proofs.Counts.{count-closed, closed-outside}
use Rattle.value_builder.proofs.Putting.{puts-same}
use Rattle.value_builder.proofs.builder.ValueBuilder.close.Goals as goal
use Rattle.value_builder.proofs.builder.ValueBuilder.close.Goals.{else-is_kept-via-then-is_kept+else-not-is_outside, else-is_kept-via-else-is_kept}

pub returns-then-not-is_outside : goal.returns-then-not-is_outside
returns-then-not-is_outside c = rw (← c.self.view_is) (puts-same closed _ _ count-closed refl refl (λ _. c.close_innermost.ensures))

pub returns-else-is_kept : goal.returns-else-is_kept
returns-else-is_kept c = rw (← c.self.view_is) (puts-same closed _ _ count-closed refl refl (λ within. elim c.else-is_kept.branch [
  | else-is_kept-via-then-is_kept+else-not-is_outside w ↦ closed-outside c.self.inside.kept (w.is_outside.ensures.0 w.if-not-is_outside.false)
  | else-is_kept-via-else-is_kept w ↦ absurd (cc (c.is_kept.ensures.1 (subst (λ b. b.nodes ≤ b.most) c.self.view_is within), w.if-is_kept.false))
]))
