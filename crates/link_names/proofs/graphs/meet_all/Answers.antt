use Rattle.std.proofs.Common.{take, sym, subst}
use Rattle.std.proofs.lemmas.List.{take_more}
use Rattle.link_names.specs.Private.Searching.{Opened}
use Rattle.link_names.proofs.Walks.{opened_none}
use Rattle.link_names.proofs.graphs.meet_all.Goals as goal

pub nodes-init : goal.nodes-init
nodes-init c = opened_none c.args.seen.now.items c.args.waiting.now.items

pub nodes-preserved : goal.nodes-preserved
nodes-preserved c =
    let ns = c.args.nodes.now in
    let i = c.nodes.node-index in
    subst (Opened c.args.seen.now.items c.args.waiting.now.items c.meet.new.seen.items c.meet.new.waiting.items) (sym (take_more ns i 0 c.nodes-test.true))
    (c.in_ok-meet.ensures c.args.seen.now.items c.args.waiting.now.items (take i ns) c.nodes.invariant)
