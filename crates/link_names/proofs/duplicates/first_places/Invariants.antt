use Rattle.std.proofs.Common.{◌≡◌, ◌≤◌, length, drop}
use Rattle.base_texts.specs.declared.texts.Name.{Name}
use Rattle.link_names.specs.Seen.{globals_of}
use Rattle.link_names.specs.Private.Tables.{place_in, first_place}
use Rattle.link_names.proofs.duplicates.first_places.Given as goal

-- the table has those from this place on
abbrev pub invariant-last_first : goal.invariant-last_first
invariant-last_first l = (l.i ≤ length l.globals) × ((a : Name) → place_in l.places a ≡ first_place (globals_of (drop l.i l.globals)) a)

abbrev pub decreases-last_first : goal.decreases-last_first
decreases-last_first l = l.i
