use Rattle.std.proofs.Common.{◌≡◌, drop}
use Rattle.base_trees.specs.Rose.{kids_of}
use Rattle.base_flat_trees.proofs.nodes.Node.kid.Given as goal

abbrev pub invariant-loop : goal.invariant-loop
invariant-loop g l = l.kids ≡ drop l.counter (kids_of l.self)
