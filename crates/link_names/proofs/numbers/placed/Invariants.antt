use Rattle.std.proofs.Common.{◌≡◌, ◌≤◌, length, drop}
use Rattle.link_names.specs.declared.places.Place.{Place}
use Rattle.std.specs.List.{position_from}
use Rattle.link_names.specs.Cycles.{stands_at}
use Rattle.link_names.specs.CyclesSeen.{definitions_of}
use Rattle.link_names.specs.Tables.{placed_in}
use Rattle.link_names.proofs.numbers.placed.Given as goal

-- the table has those from this number on
abbrev pub invariant-last_first : goal.invariant-last_first
invariant-last_first l = (l.i ≤ length l.definitions) × ((p : Place) → placed_in l.table p ≡ position_from (stands_at p) l.i (definitions_of (drop l.i l.definitions)))

abbrev pub decreases-last_first : goal.decreases-last_first
decreases-last_first l = l.i
