use Rattle.std.proofs.Common.{◌≡◌}
use Rattle.link_simple.specs.Answering.{made_of}
use Rattle.link_simple.specs.Private.Parts.{entries_of}
use Rattle.link_simple.proofs.working.all_made.Given as goal

abbrev pub invariant-entries : goal.invariant-entries
invariant-entries l = entries_of l.yielded ≡ made_of l.simples.items
