use Rattle.std.proofs.Common.{◌≡◌, ◌+◌, length}
use Rattle.base_flat_trees.proofs.nodes.Kids.pass_same.Given as goal

abbrev pub invariant-same : goal.invariant-same
invariant-same g l = l.count + length l.self ≡ length l.fn.self

abbrev pub decreases-same : goal.decreases-same
decreases-same g l = length l.self
