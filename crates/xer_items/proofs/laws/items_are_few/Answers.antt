-- The law is proved by induction over the value.
use Rattle.xer_items.proofs.Sizes.{few-items}
use Rattle.xer_items.proofs.laws.items_are_few.Goals as goal

pub returns : goal.returns
returns c = few-items
