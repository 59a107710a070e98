use Rattle.ruvkhiska.specs.Runs.{Command}
use Rattle.ruvkhiska.proofs.run_words.Goals as goal

pub returns-in-Ok-Call : goal.returns-in-Ok-Call
returns-in-Ok-Call g c = (Command c.in-Ok-Call.call, c.run_call.ensures)
