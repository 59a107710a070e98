-- The law of both variants.
use Rattle.std.proofs.Common.{false}
use Rattle.per_fields.proofs.Law as law
use Rattle.per_fields.proofs.StopLaw.{stops_as_read, one_of_two}
use Rattle.per_unaligned.proofs.laws.first_stop.Goals as goal

pub returns : goal.returns
returns c = record { one_of_two = one_of_two false; as_read = stops_as_read false; whole_octets = law.whole_octets false }
