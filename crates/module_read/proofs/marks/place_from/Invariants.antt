use Rattle.std.proofs.Common.{◌≡◌, drop}
use Rattle.std.specs.Prelude.{bytes_eq}
use Rattle.std.specs.List.{position_from}
use Rattle.module_text.specs.declared.types.PlainName.{PlainName}
use Rattle.module_read.proofs.marks.place_from.Given as goal

abbrev pub invariant-items : goal.invariant-items
invariant-items l =
    position_from (λ (i : PlainName). bytes_eq i.name l.identifier) l.least (drop l.least l.items)
    ≡ position_from (λ (i : PlainName). bytes_eq i.name l.identifier) l.i (drop l.i l.items)
