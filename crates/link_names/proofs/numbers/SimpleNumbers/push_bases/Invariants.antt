use Rattle.std.proofs.Common.{◌≡◌, ◌++◌, take}
use Rattle.schema_components.specs.Seen.{bases_in}
use Rattle.link_names.specs.Cycles.{parts_of_bases}
use Rattle.link_names.specs.Tables.{told_by}
use Rattle.link_names.proofs.numbers.SimpleNumbers.push_bases.Given as goal

-- those of the bases before this one were put behind
abbrev pub invariant-bases : goal.invariant-bases
invariant-bases l = l.out.items ≡ l.fn.out.items ++ parts_of_bases (told_by l.self) l.file (bases_in (take l.base-index l.bases))
