use Rattle.std.proofs.Common.{take}
use Rattle.asn_types.specs.Bounds.{AreWhole}
use Rattle.asn_types.proofs.bounds.see_numbers.Given as goal

abbrev pub invariant-numbers : goal.invariant-numbers
invariant-numbers l = AreWhole (take l.number-index l.numbers)
