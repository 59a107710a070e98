use Rattle.std.proofs.Common.{◌≡◌, take}
use Rattle.link_set.specs.Private.Seen.{attributes_of}
use Rattle.link_set.specs.Sets.{attributes}
use Rattle.link_set.specs.Private.Told.{told_by}
use Rattle.link_set.proofs.tables.ComponentNumbers.attributes.Given as goal

-- those of the ones before this one
abbrev pub invariant-attributes : goal.invariant-attributes
invariant-attributes l = l.made.items ≡ attributes (told_by l.self) (attributes_of (take l.written-index l.attributes))
