use Rattle.std.proofs.Common.{length, ◌-◌, ◌+◌, ◌*◌}
use Rattle.std.specs.Prelude.{codes}
use Rattle.module_grammar.specs.Reading.{behind_at}
use Rattle.module_grammar.specs.ValueReading.{value_at}
use Rattle.module_parse.proofs.Looping.{More}
use Rattle.module_parse.proofs.values.+values.Given as goal

abbrev pub decreases-value : goal.decreases-value
decreases-value l = 5 * l.depth + 0

abbrev pub decreases-another : goal.decreases-another
decreases-another l = 5 * l.depth + 1

abbrev pub decreases-chosen : goal.decreases-chosen
decreases-chosen l = 5 * l.depth + 1

abbrev pub decreases-listed : goal.decreases-listed
decreases-listed l = 5 * l.depth + 2

abbrev pub decreases-braced : goal.decreases-braced
decreases-braced l = 5 * l.depth + 3

abbrev pub decreases-late_value : goal.decreases-late_value
decreases-late_value l = 5 * l.depth + 4

abbrev pub invariant-listed-values : goal.invariant-listed-values
invariant-listed-values l = More (behind_at (codes ", ") (value_at l.depth)) l.bytes l.initial.next l.initial.values.items l.values.items l.next

abbrev pub decreases-listed-values : goal.decreases-listed-values
decreases-listed-values l = length l.bytes - l.next.at
