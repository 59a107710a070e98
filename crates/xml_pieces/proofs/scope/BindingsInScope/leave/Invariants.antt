use Rattle.std.proofs.Common.{◌≡◌, ◌-◌, take, length}
use Rattle.xml_pieces.proofs.scope.BindingsInScope.leave.Given as goal

abbrev pub invariant-loop : goal.invariant-loop
invariant-loop l = l.self ≡ take (length l.fn.self - l.counter) l.fn.self
