use Rattle.std.proofs.Common.{◌≡◌, map, take}
use Rattle.link_names.specs.CyclesSeen.{definitions_of}
use Rattle.link_set.specs.Numbering.{simple_entry}
use Rattle.link_set.specs.Private.Told.{entries_of}
use Rattle.link_set.proofs.tables.simple_entries.Given as goal

-- those of the ones before this one
abbrev pub invariant-types : goal.invariant-types
invariant-types l = entries_of l.entries.items ≡ map simple_entry (definitions_of (take l.definition-index l.types))
