use Rattle.std.proofs.Common.{◌≡◌, replicate, None}
use Rattle.link_simple.proofs.working.nothing_made.Given as goal

abbrev pub invariant-types : goal.invariant-types
invariant-types l = l.entries.items ≡ replicate l.counter None
