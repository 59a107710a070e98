use Rattle.std.proofs.Common.{◌≡◌, map, take}
use Rattle.link_names.specs.Cycles.{parts_in}
use Rattle.link_names.specs.Graphs.{rows_of}
use Rattle.link_names.specs.CyclesSeen.{definitions_of}
use Rattle.link_names.specs.Tables.{told_by}
use Rattle.link_names.proofs.numbers.SimpleNumbers.graph.Given as goal

-- those of the simple types before this one
abbrev pub invariant-definitions : goal.invariant-definitions
invariant-definitions l = rows_of l.graph.items ≡ map (parts_in (told_by l.self)) (definitions_of (take l.definition-index l.definitions))
