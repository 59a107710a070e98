-- The law is proved by induction over the levels of elements: the kids of each are the child elements of the value.
use Rattle.value_laws.proofs.OwnDeclarations.{items-of-values}
use Rattle.value_laws.proofs.laws.items_of_values.Goals as goal

pub returns : goal.returns
returns c = items-of-values
