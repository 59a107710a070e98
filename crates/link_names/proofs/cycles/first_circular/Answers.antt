use Rattle.std.proofs.Common.{ap, ◌∙◌, subst}
use Rattle.std.specs.Prelude.{IfOk}
use Rattle.link_names.specs.Order.{IsFirstSuch}
use Rattle.link_names.specs.Cycles.{IsCircularOf}
use Rattle.link_names.specs.CyclesSeen.{definitions_of}
use Rattle.link_names.proofs.cycles.first_circular.Goals as goal

pub returns : goal.returns
returns c =
    subst (λ ds. IfOk c.first_of_graph.result (λ found. IsFirstSuch (IsCircularOf ds) found))
    (ap definitions_of c.deref-2.ensures.value ∙ c.in_ok-definitions.ensures) c.first_of_graph.ensures
