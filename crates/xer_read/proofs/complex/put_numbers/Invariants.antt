use Rattle.std.proofs.Common.{map, take}
use Rattle.base_flat_trees.specs.Zips.{added_all}
use Rattle.value_builder.specs.Built.{Puts}
use Rattle.xer_read.specs.Private.Slots.{number_value}
use Rattle.xer_read.proofs.complex.put_numbers.Given as goal

abbrev pub invariant-numbers : goal.invariant-numbers
invariant-numbers l = Puts (added_all (map number_value (take l.number-index l.numbers))) l.initial.values l.values
