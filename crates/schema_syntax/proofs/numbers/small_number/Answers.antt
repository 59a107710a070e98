use Rattle.std.proofs.Common.{subst, ◌<◌}
use Rattle.schema_syntax.proofs.Digits.{over, too_large}
use Rattle.schema_syntax.proofs.numbers.small_number.Goals as goal

pub returns-then-number-gt4294967295 : goal.returns-then-number-gt4294967295
returns-then-number-gt4294967295 c =
    too_large _ (subst (λ n. 4294967295 < n) c.digits.invariant.1 (over c.digits.number c.digits.rest.now c.in-len1-up.len_at_least c.if-number-gt4294967295.true))
