use Rattle.std.proofs.Common.{◌≡◌, ◌++◌}
use Rattle.module_print.specs.Notation.{indent}
use Rattle.module_print.proofs.notation.write_new_line.Given as goal

abbrev pub invariant-loop : goal.invariant-loop
invariant-loop l = l.out.items ≡ l.initial.out.items ++ indent l.counter
