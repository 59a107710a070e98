use Rattle.std.proofs.Common.{◌≡◌}
use Rattle.std.specs.Prelude.{map}
use Rattle.asn_values.specs.Orders.{are_just_set}
use Rattle.asn_values.specs.Values.{item_number}
use Rattle.asn_values.proofs.orders.are_just_set.Given as goal

abbrev pub invariant-items : goal.invariant-items
invariant-items l = are_just_set l.initial.left.items (map item_number l.items) ≡ are_just_set l.left.items (map item_number l.item-iterator)
