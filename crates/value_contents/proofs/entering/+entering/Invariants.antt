use Rattle.std.proofs.Common.{◌+◌, ◌*◌, length}
use Rattle.value_contents.proofs.entering.+entering.Given as goal

abbrev pub decreases-enter : goal.decreases-enter
decreases-enter l = 3 * length l.to.turns.now + 2

abbrev pub decreases-enter_term : goal.decreases-enter_term
decreases-enter_term l = 3 * length l.to.turns.now + 1

abbrev pub decreases-enter_order : goal.decreases-enter_order
decreases-enter_order l = 3 * length l.to.turns.now
