use Rattle.std.proofs.Common.{◌≡◌, drop}
use Rattle.base_texts.specs.Entries.{beside}
use Rattle.schema_syntax.proofs.attributes.value_of.Given as goal

-- it is among those that are left
abbrev pub invariant-loop-written : goal.invariant-loop-written
invariant-loop-written l = beside l.name (drop l.written-index l.own) ≡ beside l.name l.own
