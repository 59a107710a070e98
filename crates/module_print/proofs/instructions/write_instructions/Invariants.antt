use Rattle.std.proofs.Common.{◌≡◌, ◌++◌, drop}
use Rattle.std.specs.List.{flat_map}
use Rattle.module_print.specs.Instructions.{ranked, ranks}
use Rattle.module_print.proofs.instructions.write_instructions.Given as goal

-- what is written, with what is still to be written
abbrev pub invariant-places : goal.invariant-places
invariant-places l =
    l.out.items ++ flat_map (ranked l.generated l.form l.marks) (drop l.place-index ranks)
    ≡ l.initial.out.items ++ flat_map (ranked l.generated l.form l.marks) ranks
