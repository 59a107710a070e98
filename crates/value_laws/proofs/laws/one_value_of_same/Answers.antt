-- The items of both values are valid with themselves, and items that are the same have one treated form.
use Rattle.value_laws.proofs.Orders.{one-value-of-same}
use Rattle.value_laws.proofs.OwnDeclarations.{items-of-values}
use Rattle.value_laws.proofs.laws.one_value_of_same.Goals as goal

pub returns : goal.returns
returns c = one-value-of-same items-of-values c.at_most_one.ensures c.same_validity.ensures
