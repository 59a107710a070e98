-- The law is proved by recursion on the levels of nodes.
use Rattle.der_fields.proofs.Law as law
use Rattle.der_fields.proofs.laws.first_stop.Goals as goal

pub returns : goal.returns
returns c = record { either = law.either; not_both = law.not_both; one_value = law.one_value; one_stop = law.one_stop }
