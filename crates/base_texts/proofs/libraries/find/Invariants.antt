use Rattle.std.proofs.Common.{◌≡◌, drop}
use Rattle.base_texts.specs.Entries.{beside}
use Rattle.base_texts.proofs.libraries.find.Given as goal

abbrev pub invariant-loop-entry : goal.invariant-loop-entry
invariant-loop-entry l = beside l.name l.entries ≡ beside l.name (drop l.entry-index l.entries)
