use Rattle.std.proofs.Common.{◌≡◌, map, take}
use Rattle.schema_components.specs.Seen.{uses_in}
use Rattle.link_set.specs.Sets.{attribute_use}
use Rattle.link_set.specs.Private.Told.{found_in, told_by}
use Rattle.link_set.proofs.tables.ComponentNumbers.attribute_uses.Given as goal

-- those of the ones before this one
abbrev pub invariant-uses : goal.invariant-uses
invariant-uses l = l.made.items ≡ map (attribute_use (told_by l.self) (found_in l.globals) l.file) (uses_in (take l.attribute-index l.attributes))
