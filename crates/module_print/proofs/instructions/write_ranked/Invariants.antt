use Rattle.std.proofs.Common.{◌≡◌, ◌++◌, drop}
use Rattle.std.specs.List.{flat_map}
use Rattle.module_print.specs.Instructions.{if_ranked}
use Rattle.module_print.proofs.instructions.write_ranked.Given as goal

-- what is written, with what is still to be written
abbrev pub invariant-marks : goal.invariant-marks
invariant-marks l =
    l.out.items ++ flat_map (if_ranked l.generated l.form l.place) (drop l.mark-index l.marks)
    ≡ l.initial.out.items ++ flat_map (if_ranked l.generated l.form l.place) l.marks
