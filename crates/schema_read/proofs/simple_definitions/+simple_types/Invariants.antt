use Rattle.std.proofs.Common.{◌≡◌, ◌+◌, ◌*◌, drop}
use Rattle.schema_read.proofs.Words.{node_count, count_all, roses_of, bases_in, bindings_in, joined, variety_among, inner_types}
use Rattle.schema_read.proofs.simple_definitions.+simple_types.Given as goal

abbrev pub decreases-variety_at : goal.decreases-variety_at
decreases-variety_at l = 3 * node_count l.tree.now

abbrev pub decreases-simple_type : goal.decreases-simple_type
decreases-simple_type l = 3 * node_count l.tree.now

abbrev pub decreases-variety_among : goal.decreases-variety_among
decreases-variety_among l = 3 * count_all (roses_of l.kids.now) + 1

abbrev pub decreases-inner_types : goal.decreases-inner_types
decreases-inner_types l = 3 * count_all (roses_of l.kids.now) + 1

-- the first of those that are left
abbrev pub invariant-variety_among-loop-kid : goal.invariant-variety_among-loop-kid
invariant-variety_among-loop-kid l = variety_among (bindings_in l.scope) (roses_of (drop l.kid-index l.kids)) ≡ variety_among (bindings_in l.scope) (roses_of l.kids)

-- those so far and those of the rest are all
abbrev pub invariant-inner_types-loop-kid : goal.invariant-inner_types-loop-kid
invariant-inner_types-loop-kid l =
    joined (bases_in l.inner.items) (inner_types (bindings_in l.scope) (roses_of (drop l.kid-index l.kids))) ≡ inner_types (bindings_in l.scope) (roses_of l.kids)
