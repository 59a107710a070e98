use Rattle.std.proofs.Common.{◌≡◌, ◌<◌, ℕ, true, []}
use Rattle.link_names.specs.Graphs.{rows_of}
use Rattle.link_names.specs.Private.Searching.{mark}
use Rattle.link_simple.specs.Private.Ordering.{Walked}
use Rattle.link_simple.proofs.orders.order_of.Given as goal

-- those before this one are done
abbrev pub invariant-nodes : goal.invariant-nodes
invariant-nodes l =
    Walked (rows_of l.graph) [] l.walk.done.items l.walk.order.items × (l.walk.way.items ≡ [])
    × ((n : ℕ) → n < l.node → mark l.walk.done.items n ≡ true)
