use Rattle.std.proofs.Common.{◌≡◌, ◌++◌, ◌∷◌, ◌/◌, ◌%◌}
use Rattle.der_encode.proofs.Sevens.{sevens_back}
use Rattle.der_encode.proofs.octets.put_context.Given as goal

abbrev pub invariant-sevens : goal.invariant-sevens
invariant-sevens l = record { whole : l.back.items ++ sevens_back l.left ≡ l.fn.back.items ++ (l.number % 128 ∷ sevens_back (l.number / 128)) }

abbrev pub decreases-sevens : goal.decreases-sevens
decreases-sevens l = l.left
