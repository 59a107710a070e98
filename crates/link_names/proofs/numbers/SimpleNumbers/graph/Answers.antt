use Rattle.std.proofs.Common.{map, ap, ◌∙◌}
use Rattle.std.proofs.lemmas.List.{take_all}
use Rattle.link_names.specs.Cycles.{parts_in}
use Rattle.link_names.specs.CyclesSeen.{definitions_of}
use Rattle.link_names.specs.Tables.{told_by}
use Rattle.link_names.proofs.numbers.SimpleNumbers.graph.Goals as goal

pub returns : goal.returns
returns c =
    c.definitions.invariant
    ∙ ap (λ xs. map (parts_in (told_by c.args.self.now)) (definitions_of xs)) (take_all c.definitions.definition-index c.args.definitions.now c.definitions-test.false)
