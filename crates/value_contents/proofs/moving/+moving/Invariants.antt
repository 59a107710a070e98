use Rattle.std.proofs.Common.{◌+◌, ◌*◌, length}
use Rattle.value_contents.proofs.moving.+moving.Given as goal

abbrev pub decreases-step : goal.decreases-step
decreases-step l = 3 * length l.from.turns.now + 2

abbrev pub decreases-step_term : goal.decreases-step_term
decreases-step_term l = 3 * length l.from.turns.now + 1

abbrev pub decreases-step_order : goal.decreases-step_order
decreases-step_order l = 3 * length l.from.turns.now
