use Rattle.std.proofs.Common.{◌+◌, ◌*◌, length}
use Rattle.link_names.specs.Graphs.{rows_of}
use Rattle.link_names.specs.Private.Searching.{unseen}
use Rattle.link_names.proofs.Walks.{Searched}
use Rattle.link_names.proofs.graphs.is_on_cycle.Given as goal

abbrev pub invariant-waiting : goal.invariant-waiting
invariant-waiting l = Searched (rows_of l.graph) (length l.graph) l.node l.seen.items l.waiting.items

abbrev pub decreases-waiting : goal.decreases-waiting
decreases-waiting l = 2 * unseen l.seen.items + length l.waiting.items
