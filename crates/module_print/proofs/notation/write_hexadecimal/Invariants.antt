use Rattle.std.proofs.Common.{◌≡◌, ◌++◌, drop}
use Rattle.std.specs.List.{flat_map}
use Rattle.module_print.specs.Notation.{both_digits}
use Rattle.module_print.proofs.notation.write_hexadecimal.Given as goal

-- what is written, with what is still to be written
abbrev pub invariant-octets : goal.invariant-octets
invariant-octets l = l.out.items ++ flat_map both_digits (drop l.octet-index l.octets) ≡ l.initial.out.items ++ flat_map both_digits l.octets
