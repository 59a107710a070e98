use Rattle.std.proofs.Common.{◌≡◌, drop}
use Rattle.simple_facets.specs.Making.{AreEachSound}
use Rattle.schema_components.specs.Seen.{bases_in}
use Rattle.link_names.specs.Tables.{told_by}
use Rattle.link_simple.specs.Making.{part_spaces}
use Rattle.link_simple.specs.Private.Parts.{entries_of, seen_all, with_front}
use Rattle.link_simple.proofs.parts.MadeTypes.parts_of.Given as goal

-- those found are in front of the others
abbrev pub invariant-bases : goal.invariant-bases
invariant-bases l =
    (part_spaces (told_by l.self.numbers.now) (entries_of l.self.entries.now) l.file (bases_in l.bases)
    ≡ with_front (seen_all l.found.items) (part_spaces (told_by l.self.numbers.now) (entries_of l.self.entries.now) l.file (bases_in (drop l.base-index l.bases))))
    × AreEachSound (seen_all l.found.items)
