use Rattle.std.proofs.Common.{◌≡◌, drop}
use Rattle.module_text.specs.Orders.{is_group, parts_from, are_none, has_no_group}
use Rattle.module_check.proofs.orders.has_no_group.Given as goal

abbrev pub invariant-parts : goal.invariant-parts
invariant-parts l = are_none (parts_from l.label is_group l.i (drop l.i l.parts)) ≡ has_no_group l.label
