use Rattle.std.proofs.Common.{◌++◌, take, append_assoc, sym, ap, ◌∙◌}
use Rattle.schema_components.specs.Seen.{base_of, bases_in}
use Rattle.link_names.specs.Cycles.{part_of, parts_of_bases}
use Rattle.link_names.specs.Tables.{told_by}
use Rattle.link_names.proofs.Numbering.{one_part}
use Rattle.link_names.proofs.numbers.SimpleNumbers.push_bases.Goals as goal

pub bases-preserved : goal.bases-preserved
bases-preserved c =
    let ns = told_by c.args.self.now in
    let file = c.args.file in
    let part = part_of ns file (base_of c.base-item.result) in
    c.in_ok-push_part.ensures ∙ ap (λ ms. ms ++ part) c.bases.invariant
    ∙ append_assoc c.args.out.now.items (parts_of_bases ns file (bases_in (take c.bases.base-index c.args.bases.now))) part
    ∙ ap (λ ms. c.args.out.now.items ++ ms) (sym (one_part ns file c.args.bases.now c.bases.base-index c.base-item.result c.bases-test.true c.base-item.is))
