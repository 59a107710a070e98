use Rattle.std.proofs.Common.{◌≡◌, ◌++◌, drop, codes}
use Rattle.module_print.proofs.Listing.{listed_from}
use Rattle.module_print.proofs.types.write_words.Given as goal

-- what is written, with the items that are still to be written
abbrev pub invariant-identifiers : goal.invariant-identifiers
invariant-identifiers l =
    l.out.items ++ listed_from (codes " ") l.i (drop l.i l.identifiers)
    ≡ l.initial.out.items ++ listed_from (codes " ") 0 l.identifiers
