-- By recursion on the levels of nodes.
use Rattle.std.proofs.Common.{true}
use Rattle.per_fields.proofs.StopLaw.{stops_as_read, one_of_two}
use Rattle.per_fields.proofs.stop_laws.stops_first.Goals as goal

pub returns : goal.returns
returns c = record { as_read = stops_as_read true; one_of_two = one_of_two true }
