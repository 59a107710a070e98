use Rattle.std.proofs.Common.{◌≡◌, ◌++◌, drop}
use Rattle.std.specs.List.{range_with_len}
use Rattle.asn_values.specs.Ordering.{taken, in_order}
use Rattle.xer_write.proofs.ordering.in_order.Given as goal

abbrev pub invariant-front : goal.invariant-front
invariant-front l = l.order.items ≡ range_with_len 0 l.i

abbrev pub invariant-numbers : goal.invariant-numbers
invariant-numbers l = l.order.items ++ taken l.all.items (drop l.number-index l.numbers) ≡ in_order l.flags l.numbers (range_with_len 0 l.count)
