use Rattle.std.proofs.Common.{◌≡◌, map, take}
use Rattle.link_set.specs.Private.Seen.{elements_of}
use Rattle.link_set.specs.Numbering.{element_entry}
use Rattle.link_set.specs.Private.Told.{entries_of}
use Rattle.link_set.proofs.tables.element_entries.Given as goal

-- those of the ones before this one
abbrev pub invariant-elements : goal.invariant-elements
invariant-elements l = entries_of l.entries.items ≡ map element_entry (elements_of (take l.written-index l.elements))
