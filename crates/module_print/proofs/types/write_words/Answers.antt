use Rattle.std.proofs.Common.{codes, ◌∙◌}
use Rattle.std.proofs.lemmas.List.{drop_all}
use Rattle.module_print.proofs.Listing.{listed-end}
use Rattle.module_print.proofs.types.write_words.Goals as goal

pub returns : goal.returns
returns c =
    c.in_ok-extend_from_slice-3.ensures.items
    ∙ listed-end (codes " ") c.args.out.now.items (codes "ENUMERATED {") c.extend_from_slice.new.self.items c.identifiers.out.items (codes " }") c.identifiers.i
    c.args.identifiers.now _ (drop_all c.identifiers.i c.args.identifiers.now c.identifiers-test.false)
    c.in_ok-extend_from_slice.ensures.items c.identifiers.invariant
