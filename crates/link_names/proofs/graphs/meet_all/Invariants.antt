use Rattle.std.proofs.Common.{take}
use Rattle.link_names.specs.Private.Searching.{Opened}
use Rattle.link_names.proofs.graphs.meet_all.Given as goal

-- those before this one were met
abbrev pub invariant-nodes : goal.invariant-nodes
invariant-nodes l = Opened l.fn.seen.items l.fn.waiting.items l.seen.items l.waiting.items (take l.node-index l.nodes)
