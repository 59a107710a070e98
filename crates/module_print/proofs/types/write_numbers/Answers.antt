use Rattle.std.proofs.Common.{map, codes, ap, ◌∙◌}
use Rattle.std.proofs.lemmas.List.{drop_all}
use Rattle.module_print.specs.Printed.{numbered_item}
use Rattle.module_print.proofs.Listing.{listed-end}
use Rattle.module_print.proofs.types.write_numbers.Goals as goal

pub returns : goal.returns
returns c =
    c.in_ok-extend_from_slice-2.ensures.items
    ∙ listed-end (codes " ") c.args.out.now.items (codes "ENUMERATED {") c.extend_from_slice.new.self.items c.numbers.out.items (codes " }") c.numbers.i
    (map numbered_item c.args.numbers.now) _ (ap (map numbered_item) (drop_all c.numbers.i c.args.numbers.now c.numbers-test.false))
    c.in_ok-extend_from_slice.ensures.items c.numbers.invariant
