use Rattle.std.proofs.Common.{◌≡◌, ◌+◌, ◌≤◌, length, drop}
use Rattle.link_names.specs.declared.places.Place.{Place}
use Rattle.link_names.specs.Tables.{placed_in}
use Rattle.link_set.specs.Numbering.{number_placed}
use Rattle.link_set.specs.Private.Told.{entries_of}
use Rattle.link_set.proofs.numbers.by_place.Given as goal

-- the table has those from this one on
abbrev pub invariant-last_first : goal.invariant-last_first
invariant-last_first l = (l.i ≤ length l.entries) × ((p : Place) → placed_in l.table p ≡ number_placed (l.first + l.i) (entries_of (drop l.i l.entries)) p)

abbrev pub decreases-last_first : goal.decreases-last_first
decreases-last_first l = l.i
