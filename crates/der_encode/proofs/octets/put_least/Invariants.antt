use Rattle.std.proofs.Common.{◌≡◌, ◌++◌}
use Rattle.der_encode.proofs.Least.{backwards}
use Rattle.der_encode.proofs.octets.put_least.Given as goal

abbrev pub invariant-octets : goal.invariant-octets
invariant-octets l = record { whole : l.back.items ++ backwards l.top l.negative l.left ≡ l.fn.back.items ++ backwards l.top l.negative l.number }

abbrev pub decreases-octets : goal.decreases-octets
decreases-octets l = l.left
