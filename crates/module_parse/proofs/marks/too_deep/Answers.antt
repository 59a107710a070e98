use Rattle.module_parse.proofs.Chaining.{sunk_read, sunk_stops}
use Rattle.module_parse.proofs.marks.too_deep.Goals as goal

pub returns-in-Ok : goal.returns-in-Ok
returns-in-Ok c = sunk_read c.in-Ok.ensures.read

pub returns-in-Err : goal.returns-in-Err
returns-in-Err c = sunk_stops c.in-Err.ensures
