-- Each child is smaller than its tree.
use Rattle.std.specs.Prelude.{◌+◌, ◌≤◌, List, [], ◌∷◌}
use Rattle.std.proofs.Common.{arith}
use denote.Param.Weighed.{most}
use Rattle.base_trees.specs.Rose.{Rose, node_count, count_all, roses_of}

pub most_le-node_count : {L : Type 0} (ts : List (Rose L)) → most (λ t. node_count t + 1) ts ≤ count_all (roses_of ts) + 1
most_le-node_count [] = omega arith
most_le-node_count (t ∷ ts) = omega (arith, most_le-node_count ts)
