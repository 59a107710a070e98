use Rattle.std.proofs.Common.{◌≡◌, None, [], drop}
use Rattle.std.specs.Option.{option_map}
use Rattle.module_text.specs.Listed.{first}
use Rattle.module_text.specs.Faults.{word_faults}
use Rattle.module_pieces.proofs.items.word_fault.Given as goal

abbrev pub invariant-items : goal.invariant-items
invariant-items l =
    first (word_faults l.order l.seen (option_map (λ w. w.now) l.last) (drop l.i l.items) (drop l.i l.words))
    ≡ first (word_faults l.order [] None l.items l.words)
