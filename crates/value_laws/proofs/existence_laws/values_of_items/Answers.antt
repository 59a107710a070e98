-- The law is proved by induction over the levels of elements: each content has a value for each part.
use Rattle.value_laws.proofs.Existence.{values-of-items}
use Rattle.value_laws.proofs.existence_laws.values_of_items.Goals as goal

pub returns : goal.returns
returns c = values-of-items
