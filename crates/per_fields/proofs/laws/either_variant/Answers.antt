-- The law is proved by recursion on the levels of nodes.
use Rattle.per_fields.proofs.Law as law
use Rattle.per_fields.proofs.laws.either_variant.Goals as goal

pub returns : goal.returns
returns c = record { either = law.either; not_both = law.not_both; one_value = law.one_value; one_stop = law.one_stop; whole_octets = law.whole_octets }
