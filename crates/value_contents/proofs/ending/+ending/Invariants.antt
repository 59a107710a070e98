use Rattle.std.proofs.Common.{◌+◌, ◌*◌, length}
use Rattle.value_contents.proofs.ending.+ending.Given as goal

abbrev pub decreases-end : goal.decreases-end
decreases-end l = 3 * length l.from.turns.now + 2

abbrev pub decreases-end_term : goal.decreases-end_term
decreases-end_term l = 3 * length l.from.turns.now + 1

abbrev pub decreases-end_order : goal.decreases-end_order
decreases-end_order l = 3 * length l.from.turns.now
