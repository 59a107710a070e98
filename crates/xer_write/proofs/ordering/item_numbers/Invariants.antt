use Rattle.std.proofs.Common.{◌≡◌, ◌++◌, map}
use Rattle.asn_values.specs.Values.{item_number}
use Rattle.xer_write.proofs.ordering.item_numbers.Given as goal

abbrev pub invariant-values : goal.invariant-values
invariant-values l = l.numbers.items ++ map item_number l.value-iterator ≡ map item_number l.fn.values
