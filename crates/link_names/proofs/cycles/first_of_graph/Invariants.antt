use Rattle.link_names.specs.Order.{IsFirstSuch}
use Rattle.link_names.specs.Cycles.{IsCircularBelow}
use Rattle.link_names.specs.CyclesSeen.{definitions_of}
use Rattle.link_names.proofs.cycles.first_of_graph.Given as goal

-- the first of those before this one
abbrev pub invariant-numbers : goal.invariant-numbers
invariant-numbers l = IsFirstSuch (IsCircularBelow (definitions_of l.definitions) l.n) l.found
