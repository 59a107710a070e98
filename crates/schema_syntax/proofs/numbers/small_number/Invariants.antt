use Rattle.std.proofs.Common.{◌≡◌, ◌<◌, true, length}
use Rattle.std.specs.List.{list_all}
use Rattle.base_texts.specs.Digits.{is_digit, number_from, number_of}
use Rattle.schema_syntax.proofs.numbers.small_number.Given as goal

abbrev pub invariant-digits : goal.invariant-digits
invariant-digits l = (list_all is_digit l.rest ≡ true) × (number_from l.number l.rest ≡ number_of l.digits) × (l.number < 4294967296)

abbrev pub decreases-digits : goal.decreases-digits
decreases-digits l = length l.rest
