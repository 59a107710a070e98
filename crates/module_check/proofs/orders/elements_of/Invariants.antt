use Rattle.std.proofs.Common.{◌≡◌, ◌++◌, drop}
use Rattle.module_text.specs.Orders.{element_identifiers}
use Rattle.module_check.specs.Elements.{texts_in}
use Rattle.module_check.proofs.Ordering.{identifiers_from}
use Rattle.module_check.proofs.orders.elements_of.Given as goal

abbrev pub invariant-parts : goal.invariant-parts
invariant-parts l = texts_in l.elements.items ++ identifiers_from l.label l.i (drop l.i l.parts) ≡ element_identifiers l.label
