use Rattle.std.proofs.Common.{◌≡◌, take}
use Rattle.std.specs.List.{flat_map}
use Rattle.module_print.specs.Notation.{doubled}
use Rattle.module_print.proofs.notation.split_plain.Given as goal

abbrev pub invariant-loop-len : goal.invariant-loop-len
invariant-loop-len l = flat_map doubled (take l.len l.bytes) ≡ take l.len l.bytes
