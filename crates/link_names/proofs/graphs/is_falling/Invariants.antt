use Rattle.std.proofs.Common.{ℕ, ◌<◌, ◌≤◌, get_or}
use Rattle.link_names.specs.Graphs.{rows_of, IsEdge}
use Rattle.link_names.proofs.graphs.is_falling.Given as goal

abbrev pub invariant-rows : goal.invariant-rows
invariant-rows l = (a b : ℕ) → a < l.node → IsEdge (rows_of l.graph) a b → get_or l.ranks b 0 ≤ get_or l.ranks a 0
