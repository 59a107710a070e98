use Rattle.std.proofs.Common.{sym, ap, ◌∙◌, subst}
use Rattle.std.specs.Prelude.{map}
use Rattle.link_names.specs.Cycles.{parts_in, edges}
use Rattle.link_names.specs.Graphs.{rows_of}
use Rattle.link_names.specs.CyclesSeen.{definitions_of}
use Rattle.link_simple.specs.Private.Ordering.{IsAcyclic, IsInside, IsOrder}
use Rattle.link_simple.proofs.Told.{edges_inside}
use Rattle.link_simple.proofs.making.work.Goals as goal

pub order_of-requires-clause-inside : goal.order_of-requires-clause-inside
order_of-requires-clause-inside c =
    let ds = definitions_of c.args.definitions.now in
    let rows = ap rows_of c.deref.ensures.value ∙ c.in_ok-graph.ensures ∙ ap (λ ns. map (parts_in ns) ds) c.requires.numbers in
    subst IsInside (sym rows) (edges_inside ds)

pub order_of-requires-clause-acyclic : goal.order_of-requires-clause-acyclic
order_of-requires-clause-acyclic c =
    let ds = definitions_of c.args.definitions.now in
    let rows = ap rows_of c.deref.ensures.value ∙ c.in_ok-graph.ensures ∙ ap (λ ns. map (parts_in ns) ds) c.requires.numbers in
    subst IsAcyclic (sym rows) c.requires.acyclic

pub work_in_order-requires-clause-order : goal.work_in_order-requires-clause-order
work_in_order-requires-clause-order c =
    let ds = definitions_of c.args.definitions.now in
    let rows = ap rows_of c.deref.ensures.value ∙ c.in_ok-graph.ensures ∙ ap (λ ns. map (parts_in ns) ds) c.requires.numbers in
    subst (IsOrder (edges ds)) (sym c.deref-2.ensures.value) (subst (λ g. IsOrder g c.in_ok-order.order.items) rows c.in_ok-order.ensures)
