use Rattle.std.proofs.Common.{take}
use Rattle.std.specs.List.{All}
use Rattle.simple_types.proofs.PlainTexts.{IsPlain}
use Rattle.simple_types.proofs.classes.are_plain.Given as goal

abbrev pub invariant-loop-b : goal.invariant-loop-b
invariant-loop-b l = All IsPlain (take l.b-index l.bytes)
