-- The law is proved by induction over the levels of elements, and over the parts of each type.
use Rattle.value_laws.proofs.Declarations.{one-value}
use Rattle.value_laws.proofs.laws.one_value.Goals as goal

pub returns : goal.returns
returns c = one-value
