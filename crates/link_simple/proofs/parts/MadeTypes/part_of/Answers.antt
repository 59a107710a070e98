use Rattle.std.proofs.Common.{sym, ap, ◌∙◌}
use Rattle.schema_components.specs.Seen.{base_of}
use Rattle.schema_components.specs.Raw.{Named}
use Rattle.schema_components.proofs.Seen.{named_base, inner_base}
use Rattle.link_names.specs.Order.{place}
use Rattle.link_names.specs.Tables.{told_by}
use Rattle.link_simple.specs.Making.{space_at, part_space}
use Rattle.link_simple.specs.Private.Parts.{entries_of}
use Rattle.link_simple.proofs.Lending.{named_space}
use Rattle.link_simple.proofs.parts.MadeTypes.part_of.Goals as goal

pub returns-in-Named-clause-space : goal.returns-in-Named-clause-space
returns-in-Named-clause-space c =
    let told = ap base_of c.in-Named.is ∙ named_base c.in-Named.reference in
    named_space (told_by c.args.self.numbers.now) (entries_of c.args.self.entries.now) c.args.file (base_of c.args.base.now) (Named c.in-Named.reference) c.named_part.result
    c.named_part.ensures.space told

pub returns-in-Inner-clause-space : goal.returns-in-Inner-clause-space
returns-in-Inner-clause-space c =
    let file = c.args.file in
    let ns = told_by c.args.self.numbers.now in
    let made = entries_of c.args.self.entries.now in
    let told = ap base_of c.in-Inner.is ∙ inner_base c.in-Inner.body in
    c.lent_part.ensures.space ∙ ap (space_at made) c.number_at.ensures
    ∙ ap (λ b. space_at made (ns.placed (place file b.at))) c.deref.ensures
    ∙ sym (ap (part_space ns made file) told)
