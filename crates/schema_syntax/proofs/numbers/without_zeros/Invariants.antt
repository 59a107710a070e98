use Rattle.std.proofs.Common.{◌≡◌, length}
use Rattle.schema_syntax.specs.Private.Comparing.{without_zeros}
use Rattle.schema_syntax.proofs.numbers.without_zeros.Given as goal

abbrev pub invariant-zeros : goal.invariant-zeros
invariant-zeros l = without_zeros l.rest ≡ without_zeros l.digits

abbrev pub decreases-zeros : goal.decreases-zeros
decreases-zeros l = length l.rest
