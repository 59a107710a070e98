use Rattle.std.proofs.Common.{refl}
use Rattle.map_assignments.proofs.Building.{if_ok}
use Rattle.map_assignments.proofs.orders.order_type.Goals as goal

pub returns : goal.returns
returns c =
    if_ok c.order_tree.result _ _
    (λ made is place T. (
      _,
      is,
      record { taken = c.in_ok-scope.scope; identifiers = c.in_ok-names.names.items; before_taken = c.in_ok-scope.ensures; then_taken = c.in_ok-names.ensures T; type = refl },
    ))
    c.order_tree.ensures
