use Rattle.std.proofs.Common.{◌≡◌, take}
use Rattle.std.specs.Prelude.{filter}
use Rattle.simple_facets.specs.Restricting.{keeps_number}
use Rattle.simple_facets.proofs.narrowing.kept_numbers.Given as goal

abbrev pub invariant-numbers : goal.invariant-numbers
invariant-numbers l = l.kept.items ≡ filter (keeps_number l.asked) (take l.n-index l.numbers)
