use Rattle.std.proofs.Common.{◌≡◌, ◌+◌, length}
use Rattle.base_flat_trees.proofs.nodes.Kids.len.Given as goal

abbrev pub invariant-sizes : goal.invariant-sizes
invariant-sizes g l = l.count + length l.kids ≡ length l.fn.self
