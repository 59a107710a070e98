use Rattle.std.proofs.Common.{◌<◌, [], length, arith, rules, false, sym, ap, ◌∙◌, subst}
use Rattle.std.proofs.Math.ListN.{length-replicate}
use Rattle.link_names.specs.Graphs.{rows_of, row}
use Rattle.link_names.specs.Private.Searching.{Opened, mark}
use Rattle.link_names.proofs.Walks.{Searched, searched_first, searched_more, search_ends, is_node, row_is, mark_is, unmarked, nothing}
use Rattle.link_names.proofs.graphs.is_on_cycle.Goals as goal

pub waiting-init : goal.waiting-init
waiting-init c =
    let g = c.args.graph.now in
    let seen = c.in_ok-seen.seen.items in
    let marked = c.meet_all.new.seen.items in
    let waits = c.meet_all.new.waiting.items in
    let nodes = c.deref.ensures.value ∙ sym (row_is g c.args.node c.index-graph-node.result c.requires c.index-graph-node.is) in
    let met : Opened seen [] marked waits (row (rows_of g) c.args.node) =
    subst (Opened seen [] marked waits) nodes (subst (λ w. Opened seen w marked waits c.deref.result.now) c.new-waiting.ensures.items c.in_ok-meet_all.ensures) in
    let all = c.in_ok-seen.ensures.items_if_clones_equal (λ b e. e) in
    searched_first (rows_of g) (length g) c.args.node seen marked waits (ap length all ∙ length-replicate (length g) false)
    (λ n e. unmarked (length g) n (sym (ap (λ bs. mark bs n) all) ∙ e)) met

pub offset_bounds-graph-at : goal.offset_bounds-graph-at
offset_bounds-graph-at c =
    let g = c.args.graph.now in
    let lt : c.in-Some.at < length g = is_node (rows_of g) (length g) c.args.node c.waiting.seen.items c.waiting.waiting.items c.pop.new.self.items c.in-Some.at c.waiting.invariant c.in-Some.ensures.items in
    search rules

pub bounds-graph-at : goal.bounds-graph-at
bounds-graph-at c =
    let g = c.args.graph.now in
    is_node (rows_of g) (length g) c.args.node c.waiting.seen.items c.waiting.waiting.items c.pop.new.self.items c.in-Some.at c.waiting.invariant c.in-Some.ensures.items

pub waiting-preserved : goal.waiting-preserved
waiting-preserved c =
    let g = c.args.graph.now in
    let at = c.in-Some.at in
    let rest = c.pop.new.self.items in
    let lt : at < length g = is_node (rows_of g) (length g) c.args.node c.waiting.seen.items c.waiting.waiting.items rest at c.waiting.invariant c.in-Some.ensures.items in
    let seen = c.meet_all-in-Some.new.seen.items in
    let waits = c.meet_all-in-Some.new.waiting.items in
    searched_more (rows_of g) (length g) c.args.node c.waiting.seen.items rest at seen waits
    (subst (Searched (rows_of g) (length g) c.args.node c.waiting.seen.items) c.in-Some.ensures.items c.waiting.invariant)
    (subst (Opened c.waiting.seen.items rest seen waits) (c.deref-in-Some.ensures.value ∙ sym (row_is g at c.index-graph-at.result lt c.index-graph-at.is))
    c.in_ok-meet_all-2.ensures)

pub returns : goal.returns
returns c =
    let g = c.args.graph.now in
    let seen = c.waiting.seen.items in
    let long = c.waiting.invariant.long in
    let below = c.requires in
    let none = nothing c.waiting.waiting.items c.waiting.waiting.len c.waiting.waiting.ok.0 c.in_default.ensures.cases.0 in
    search_ends g c.args.node seen c.waiting.waiting.items c.index.result.now c.waiting.invariant none below
    (mark_is seen c.args.node c.index.result.now (omega (arith, long, below)) c.index.ensures)
