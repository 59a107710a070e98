use Rattle.std.proofs.Common.{◌≡◌, length, arith, subst}
use Rattle.std.proofs.lemmas.List.{length-map}
use Rattle.link_names.specs.declared.faults.LinkWhy.TheVariants.{CircularType}
use Rattle.link_names.specs.Order.{fault}
use Rattle.link_names.specs.Private.Keeping.{IsNext}
use Rattle.link_names.specs.Graphs.{IsOnCycle}
use Rattle.link_names.specs.CyclesSeen.{definition_of, definitions_of}
use Rattle.link_names.proofs.First.{next_step, at_end, definition_at}
use Rattle.link_names.proofs.cycles.first_of_graph.Goals as goal

pub numbers-preserved : goal.numbers-preserved
numbers-preserved c =
    let ds = definitions_of c.args.definitions.now in
    let n = c.numbers.n in
    next_step ds n (definition_of c.index-definitions-n.result) (definition_at c.args.definitions.now n c.index-definitions-n.result c.numbers-test.true c.index-definitions-n.is)
    c.numbers.found c.in_ok-found.found c.numbers.invariant
    (subst (λ g. IsNext (IsOnCycle g n) c.numbers.found (fault CircularType c.index-definitions-n.result.place) c.in_ok-found.found) c.requires c.in_ok-found.ensures)

pub returns : goal.returns
returns c =
    let xs = c.args.definitions.now in
    let long : length (definitions_of xs) ≡ length xs = length-map xs definition_of in
    let end = c.numbers-test.false in
    at_end (definitions_of xs) c.numbers.n (omega (arith, long, end)) c.numbers.found c.numbers.invariant
