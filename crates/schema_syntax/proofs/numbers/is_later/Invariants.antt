use Rattle.std.proofs.Common.{◌≡◌, length}
use Rattle.schema_syntax.specs.Private.Comparing.{is_later}
use Rattle.schema_syntax.proofs.numbers.is_later.Given as goal

-- the rest decides
abbrev pub invariant-digits : goal.invariant-digits
invariant-digits l = is_later l.rest l.others ≡ is_later l.a l.b

abbrev pub decreases-digits : goal.decreases-digits
decreases-digits l = length l.rest
