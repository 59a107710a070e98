use Rattle.std.proofs.Common.{◌≡◌, ◌++◌, drop}
use Rattle.std.specs.List.{flat_map}
use Rattle.module_print.specs.Printed.{printed_assignment}
use Rattle.module_print.proofs.printing.print_module.Given as goal

-- what is written, with what is still to be written
abbrev pub invariant-assignments : goal.invariant-assignments
invariant-assignments l =
    l.out.items ++ flat_map (printed_assignment l.module) (drop l.assignment-index l.assignments)
    ≡ l.initial.out.items ++ flat_map (printed_assignment l.module) l.assignments
