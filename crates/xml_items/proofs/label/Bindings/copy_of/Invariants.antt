use Rattle.std.proofs.Common.{◌≡◌, ◌++◌, length}
use Rattle.xml_items.proofs.label.Bindings.copy_of.Given as goal

-- the copies so far, and what is left
abbrev pub invariant-each : goal.invariant-each
invariant-each l = l.copies.items ++ l.rest ≡ l.entries

abbrev pub decreases-each : goal.decreases-each
decreases-each l = length l.rest
