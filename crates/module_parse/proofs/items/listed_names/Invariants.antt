use Rattle.std.proofs.Common.{length, ◌-◌}
use Rattle.std.specs.Prelude.{codes}
use Rattle.module_grammar.specs.Reading.{behind_at}
use Rattle.module_grammar.specs.NameReading.{plain_identifier_at}
use Rattle.module_parse.proofs.Looping.{More}
use Rattle.module_parse.proofs.items.listed_names.Given as goal

abbrev pub invariant-names : goal.invariant-names
invariant-names l = More (behind_at (codes ", ") plain_identifier_at) l.bytes l.initial.next l.initial.names.items l.names.items l.next

abbrev pub decreases-names : goal.decreases-names
decreases-names l = length l.bytes - l.next.at
