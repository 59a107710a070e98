use Rattle.std.proofs.Common.{◌≡◌, ◌≤◌, length, drop}
use Rattle.std.specs.List.{position_from}
use Rattle.base_texts.specs.declared.texts.Name.{Name}
use Rattle.link_names.specs.Tables.{named_in}
use Rattle.link_simple.specs.StandardsSeen.{declared_of}
use Rattle.link_simple.specs.Standards as rule
use Rattle.link_simple.proofs.declared.named.Given as goal

-- the table has those from this number on
abbrev pub invariant-last_first : goal.invariant-last_first
invariant-last_first l = (l.i ≤ length l.declared) × ((a : Name) → named_in l.table a ≡ position_from (rule.has_name a) l.i (declared_of (drop l.i l.declared)))

abbrev pub decreases-last_first : goal.decreases-last_first
decreases-last_first l = l.i
