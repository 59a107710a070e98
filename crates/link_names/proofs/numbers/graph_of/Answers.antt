use Rattle.std.proofs.Common.{◌≡◌, map, subst}
use Rattle.std.specs.Prelude.{IfOk}
use Rattle.link_names.specs.Cycles.{parts_in}
use Rattle.link_names.specs.Graphs.{rows_of}
use Rattle.link_names.specs.CyclesSeen.{definitions_of}
use Rattle.link_names.proofs.numbers.graph_of.Goals as goal

pub returns : goal.returns
returns c =
    let ds = definitions_of c.args.definitions.now in
    subst (λ ns. IfOk c.graph.result (λ graph. rows_of graph.items ≡ map (parts_in ns) ds)) c.in_ok-numbers.ensures c.graph.ensures
