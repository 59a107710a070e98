use Rattle.std.proofs.Common.{◌≡◌, ◌++◌, map, drop, codes}
use Rattle.module_print.specs.Printed.{numbered_item}
use Rattle.module_print.proofs.Listing.{listed_from}
use Rattle.module_print.proofs.types.write_numbers.Given as goal

-- what is written, with the items that are still to be written
abbrev pub invariant-numbers : goal.invariant-numbers
invariant-numbers l =
    l.out.items ++ listed_from (codes " ") l.i (map numbered_item (drop l.i l.numbers))
    ≡ l.initial.out.items ++ listed_from (codes " ") 0 (map numbered_item l.numbers)
