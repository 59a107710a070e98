use Rattle.std.proofs.Common.{◌≡◌, ◌+◌, ◌≤◌, length, drop}
use Rattle.base_texts.specs.declared.texts.Name.{Name}
use Rattle.link_names.specs.Tables.{named_in}
use Rattle.link_set.specs.Numbering.{number_named}
use Rattle.link_set.specs.Private.Told.{entries_of}
use Rattle.link_set.proofs.numbers.by_name.Given as goal

-- the table has those from this one on
abbrev pub invariant-last_first : goal.invariant-last_first
invariant-last_first l = (l.i ≤ length l.entries) × ((a : Name) → named_in l.table a ≡ number_named (l.first + l.i) (entries_of (drop l.i l.entries)) a)

abbrev pub decreases-last_first : goal.decreases-last_first
decreases-last_first l = l.i
