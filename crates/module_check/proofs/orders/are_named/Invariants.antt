use Rattle.std.proofs.Common.{◌≡◌, drop}
use Rattle.module_text.specs.Orders.{are_equal}
use Rattle.module_check.specs.Elements.{texts_in, names_of}
use Rattle.module_check.proofs.orders.are_named.Given as goal

abbrev pub invariant-names : goal.invariant-names
invariant-names l =
    are_equal (texts_in (drop l.i l.elements)) (names_of (drop l.i l.names)) ≡ are_equal (texts_in l.elements) (names_of l.names)
