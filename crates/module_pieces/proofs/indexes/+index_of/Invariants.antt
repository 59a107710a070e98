use Rattle.std.proofs.Common.{take}
use Rattle.base_trees.specs.Rose.{roses_of, node_count}
use Rattle.module_pieces.specs.Indexed.{IndexAll}
use Rattle.module_pieces.proofs.indexes.+index_of.Given as goal

abbrev pub decreases-index_of : goal.decreases-index_of
decreases-index_of l = node_count l.node.now

abbrev pub invariant-kids : goal.invariant-kids
invariant-kids l = IndexAll (roses_of l.indexes.items) (roses_of (take l.kid-index l.kids))
