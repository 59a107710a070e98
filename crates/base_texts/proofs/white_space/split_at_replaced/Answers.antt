use Rattle.base_texts.proofs.Replacing.{found, before-IsCharBoundary, behind-IsCharBoundary, split_at, unplaced}
use Rattle.base_texts.proofs.white_space.split_at_replaced.Goals as goal

pub range-requires-clause-end_boundary : goal.range-requires-clause-end_boundary
range-requires-clause-end_boundary c = before-IsCharBoundary _ _ (found _ _ _ c.as_bytes.ensures.value c.in_ok-at.ensures)

pub range_from-requires : goal.range_from-requires
range_from-requires c some = behind-IsCharBoundary _ _ c.utf8.text (found _ _ _ c.as_bytes.ensures.value c.in_ok-at.ensures)

pub returns-clause-split : goal.returns-clause-split
returns-clause-split c = split_at _ _ _ _ (found _ _ _ c.as_bytes.ensures.value c.in_ok-at.ensures) c.range.ensures.value c.range_from.ensures.value

pub returns-in_err-at-clause-split : goal.returns-in_err-at-clause-split
returns-in_err-at-clause-split c = rw c.from_residual.ensures (unplaced _ _ c.as_bytes.ensures.value c.in_err-at.ensures)
