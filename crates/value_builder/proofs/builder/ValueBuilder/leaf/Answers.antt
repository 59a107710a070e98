use Rattle.std.proofs.Common.{refl}
use Rattle.base_trees.specs.Rose.{node, none}
use Rattle.base_flat_trees.specs.Zips.{added}
use Rattle.value_builder.proofs.Counts.{count-added}
use Rattle.value_builder.proofs.Putting.{puts-more, puts-unkept}
use Rattle.value_builder.proofs.builder.ValueBuilder.leaf.Goals as goal
use Rattle.value_builder.proofs.builder.ValueBuilder.leaf.Goals.{in-Utf8+in-There-1, in-Utf8+in-Here-1, in-Sequence+in-There-1, in-Sequence+in-Here-1, in-Bool-1}

pub returns-in_ok-leaf : goal.returns-in_ok-leaf
returns-in_ok-leaf c =
    rw (← c.self.view_is) (puts-more (added (node c.args.label none)) 1 _ _ (count-added (node c.args.label none)) refl c.saturating_add-self-inside.ensures (λ _. c.in_ok-leaf.ensures.ok))

pub returns-else-is_kept : goal.returns-else-is_kept
returns-else-is_kept c =
    let leaf = node c.args.label none in
    rw (← c.self.view_is)
    (elim c.match-label.branch [
      | in-Utf8+in-There-1 w ↦ puts-unkept (added leaf) _ _ _ w.self-is (count-added leaf) refl c.saturating_add-self-inside.ensures (λ within. cc (c.is_kept.ensures.1 within, c.if-is_kept.false))
      | in-Utf8+in-Here-1 w ↦ puts-unkept (added leaf) _ _ _ w.self-is (count-added leaf) refl c.saturating_add-self-inside.ensures (λ within. cc (c.is_kept.ensures.1 within, c.if-is_kept.false))
      | in-Sequence+in-There-1 w ↦ puts-unkept (added leaf) _ _ _ w.self-is (count-added leaf) refl c.saturating_add-self-inside.ensures (λ within. cc (c.is_kept.ensures.1 within, c.if-is_kept.false))
      | in-Sequence+in-Here-1 w ↦ puts-unkept (added leaf) _ _ _ w.self-is (count-added leaf) refl c.saturating_add-self-inside.ensures (λ within. cc (c.is_kept.ensures.1 within, c.if-is_kept.false))
      | in-Bool-1 w ↦ puts-unkept (added leaf) _ _ _ w.self-is (count-added leaf) refl c.saturating_add-self-inside.ensures (λ within. cc (c.is_kept.ensures.1 within, c.if-is_kept.false))
    ])
