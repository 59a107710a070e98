use Rattle.std.proofs.Common.{◌≡◌, ◌+◌, ◌*◌, drop, None}
use Rattle.base_trees.specs.Rose.{node_count, count_all, roses_of}
use Rattle.schema_syntax.specs.Scopes.{bindings_in}
use Rattle.schema_faults.specs.Faults.{first_fault, reasons_among}
use Rattle.schema_faults.proofs.checker.Checker.+faults.Given as goal

abbrev pub decreases-fault_of : goal.decreases-fault_of
decreases-fault_of l = 3 * node_count l.tree.now

abbrev pub decreases-fault_at : goal.decreases-fault_at
decreases-fault_at l = 3 * node_count l.tree.now + 1

abbrev pub decreases-fault_among : goal.decreases-fault_among
decreases-fault_among l = 3 * count_all (roses_of l.kids.now) + 2

-- the first fault of those that are left
abbrev pub invariant-fault_among-loop-kid : goal.invariant-fault_among-loop-kid
invariant-fault_among-loop-kid l =
    first_fault (reasons_among l.parent l.before (bindings_in l.self.scope.now) l.self.level (roses_of (drop l.kid-index l.kids)))
    ≡ first_fault (reasons_among l.parent None (bindings_in l.self.scope.now) l.self.level (roses_of l.kids))
