use Rattle.std.proofs.Common.{sym, ap, ◌∙◌}
use Rattle.schema_components.specs.Seen.{base_of}
use Rattle.schema_components.proofs.Seen.{named_base, inner_base}
use Rattle.link_names.specs.Order.{place}
use Rattle.link_set.specs.Sets.{simple_of_base, or_zero}
use Rattle.link_set.specs.Private.Told.{told_by}
use Rattle.link_set.proofs.tables.ComponentNumbers.simple_of_base.Goals as goal

pub returns-in-Named : goal.returns-in-Named
returns-in-Named c =
    let told = ap (simple_of_base (told_by c.args.self.now) c.args.file) (ap base_of c.in-Named.is ∙ named_base c.in-Named.reference) in
    rw told c.simple_of_reference.ensures

pub returns-in-Inner : goal.returns-in-Inner
returns-in-Inner c =
    let file = c.args.file in
    let told = ap (simple_of_base (told_by c.args.self.now) file) (ap base_of c.in-Inner.is ∙ inner_base c.in-Inner.body)
    ∙ ap (λ b. or_zero ((told_by c.args.self.now).simples.placed (place file b.at))) (sym c.deref.ensures) in
    rw told c.at_place.ensures
