use Rattle.std.proofs.Common.{◌≡◌, ◌++◌, ◌+◌, ◌*◌, drop}
use Rattle.schema_read.proofs.Words.{node_count, count_all, roses_of, counted_among}
use Rattle.schema_read.proofs.documents.+counting.Given as goal

abbrev pub decreases-count_at : goal.decreases-count_at
decreases-count_at l = 2 * node_count l.tree.now

abbrev pub decreases-count_among : goal.decreases-count_among
decreases-count_among l = 2 * count_all (roses_of l.kids.now) + 1

-- those so far and those of the rest are all
abbrev pub invariant-count_among-loop-kid : goal.invariant-count_among-loop-kid
invariant-count_among-loop-kid l = l.counted.items ++ counted_among (roses_of (drop l.kid-index l.kids)) ≡ l.initial.counted.items ++ counted_among (roses_of l.kids)
