use Rattle.std.proofs.Common.{◌≡◌, ◌≤◌, length, drop}
use Rattle.base_texts.specs.declared.texts.Name.{Name}
use Rattle.std.specs.List.{position_from}
use Rattle.link_names.specs.Cycles.{is_named}
use Rattle.link_names.specs.CyclesSeen.{definitions_of}
use Rattle.link_names.specs.Tables.{named_in}
use Rattle.link_names.proofs.numbers.named.Given as goal

-- the table has those from this number on
abbrev pub invariant-last_first : goal.invariant-last_first
invariant-last_first l = (l.i ≤ length l.definitions) × ((a : Name) → named_in l.table a ≡ position_from (is_named a) l.i (definitions_of (drop l.i l.definitions)))

abbrev pub decreases-last_first : goal.decreases-last_first
decreases-last_first l = l.i
