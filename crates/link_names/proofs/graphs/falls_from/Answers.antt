use Rattle.std.proofs.Common.{◌≡◌, arith, sym, ◌∙◌, subst}
use Rattle.link_names.specs.Graphs.{rows_of, row}
use Rattle.base_texts.specs.Lists.{HasItem}
use Rattle.link_names.proofs.Walks.{row_is}
use Rattle.link_names.proofs.graphs.falls_from.Goals as goal

pub returns : goal.returns
returns c = λ e b edge.
    let g = c.args.graph.now in
    let here : row (rows_of g) c.args.node ≡ c.deref.result.now = row_is g c.args.node c.index-graph-node.result c.requires c.index-graph-node.is ∙ sym c.deref.ensures.value in
    let told = c.none_above.ensures e b (subst (λ ns. HasItem ns b) here edge) in
    let rank = c.rank_of-rank.ensures in
    let some_rank = c.if-rank-eq0.false in
    omega (arith, told, rank, some_rank)
