use Rattle.std.proofs.Common.{◌≡◌, None, [], drop}
use Rattle.module_text.specs.Listed.{first}
use Rattle.module_text.specs.Faults.{numbered_faults}
use Rattle.module_pieces.proofs.items.numbered_fault.Given as goal

abbrev pub invariant-items : goal.invariant-items
invariant-items l = first (numbered_faults l.seen l.last (drop l.item-index l.items)) ≡ first (numbered_faults [] None l.items)
