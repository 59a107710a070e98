use Rattle.std.proofs.Common.{length, ◌-◌}
use Rattle.std.specs.Prelude.{codes}
use Rattle.module_grammar.specs.Reading.{behind_at}
use Rattle.module_grammar.specs.TypeReading.{numbered_at}
use Rattle.module_parse.proofs.Looping.{More}
use Rattle.module_parse.proofs.items.listed_items.Given as goal

abbrev pub invariant-items : goal.invariant-items
invariant-items l = More (behind_at (codes ", ") numbered_at) l.bytes l.initial.next l.initial.items.items l.items.items l.next

abbrev pub decreases-items : goal.decreases-items
decreases-items l = length l.bytes - l.next.at
