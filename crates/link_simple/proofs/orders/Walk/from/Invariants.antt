use Rattle.std.proofs.Common.{◌≡◌, ◌*◌, ◌-◌, ◌⊎◌, ℕ, true, length}
use Rattle.link_names.specs.Graphs.{rows_of}
use Rattle.link_names.specs.Private.Searching.{mark, unseen}
use Rattle.link_simple.specs.Private.Ordering.{Walked, IsHeld}
use Rattle.link_simple.proofs.orders.Walk.from.Given as goal

-- the node is done or on the way, and what was done before is
abbrev pub invariant-way : goal.invariant-way
invariant-way l =
    Walked (rows_of l.graph) l.self.way.items l.self.done.items l.self.order.items
    × ((n : ℕ) → (mark l.fn.self.done.items n ≡ true) ⊎ (l.node ≡ n) → IsHeld l.self.way.items l.self.done.items n)

abbrev pub decreases-way : goal.decreases-way
decreases-way l = 2 * unseen l.self.done.items - length l.self.way.items
