use Rattle.std.proofs.Common.{◌≡◌, take}
use Rattle.simple_types.proofs.holding.same_flags.Given as goal

abbrev pub invariant-flags : goal.invariant-flags
invariant-flags l = take l.i l.a ≡ take l.i l.b
