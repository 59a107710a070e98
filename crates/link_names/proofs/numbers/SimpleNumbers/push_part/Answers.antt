use Rattle.std.proofs.Common.{sym, ap, ◌∙◌}
use Rattle.schema_components.specs.Seen.{base_of}
use Rattle.schema_components.proofs.Seen.{named_base, inner_base}
use Rattle.link_names.specs.Order.{place}
use Rattle.link_names.specs.Cycles.{part_of, one_of}
use Rattle.link_names.specs.Tables.{told_by, placed_in}
use Rattle.link_names.proofs.numbers.SimpleNumbers.push_part.Goals as goal

pub returns-in-Named : goal.returns-in-Named
returns-in-Named c =
    let told = ap (part_of (told_by c.args.self.now) c.args.file) (ap base_of c.in-Named.is ∙ named_base c.in-Named.reference) in
    rw told c.push_named.ensures

pub returns-in-Inner : goal.returns-in-Inner
returns-in-Inner c =
    let file = c.args.file in
    let told = ap (part_of (told_by c.args.self.now) file) (ap base_of c.in-Inner.is ∙ inner_base c.in-Inner.body)
    ∙ ap (λ b. one_of (placed_in c.args.self.now.placed (place file b.at))) (sym c.deref.ensures) in
    rw told c.push_placed.ensures
