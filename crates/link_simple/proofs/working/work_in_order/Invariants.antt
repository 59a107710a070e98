use Rattle.std.proofs.Common.{◌≡◌, ◌+◌, Bool, List, length, drop}
use Rattle.link_names.specs.Cycles.{edges}
use Rattle.link_names.specs.Private.Searching.{unseen}
use Rattle.link_names.specs.CyclesSeen.{definitions_of}
use Rattle.link_simple.specs.Private.Ordering.{Follow}
use Rattle.link_simple.specs.Private.Working.{StandsIn}
use Rattle.link_simple.proofs.working.work_in_order.Given as goal

-- each step did one, and the others follow
abbrev pub invariant-order : goal.invariant-order
invariant-order l =
    (done : List Bool) × StandsIn (definitions_of l.definitions) done l.work × Follow (edges (definitions_of l.definitions)) done (drop l.n-index l.order)
    × (unseen done + l.n-index ≡ length l.definitions)
