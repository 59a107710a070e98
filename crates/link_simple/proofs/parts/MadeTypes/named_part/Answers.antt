use Rattle.std.proofs.Common.{Some, sym, ap, ◌∙◌}
use Rattle.schema_components.specs.Raw.{Named}
use Rattle.link_names.specs.Tables.{told_by}
use Rattle.link_simple.specs.Making.{space_at, part_space}
use Rattle.link_simple.specs.Private.Parts.{entries_of}
use Rattle.link_simple.proofs.parts.MadeTypes.named_part.Goals as goal

pub returns-in_ok-simple-in-Builtin-clause-space : goal.returns-in_ok-simple-in-Builtin-clause-space
returns-in_ok-simple-in-Builtin-clause-space c = λ file.
    ap Some c.in_ok-simple-in-Builtin.ensures.space
    ∙ sym (ap (λ r. part_space (told_by c.args.self.numbers.now) (entries_of c.args.self.entries.now) file (Named r)) c.in-Builtin.is)

pub returns-in-Other-clause-space : goal.returns-in-Other-clause-space
returns-in-Other-clause-space c = λ file.
    c.lent_part.ensures.space ∙ ap (space_at (entries_of c.args.self.entries.now)) c.number_of.ensures
    ∙ sym (ap (λ r. part_space (told_by c.args.self.numbers.now) (entries_of c.args.self.entries.now) file (Named r)) c.in-Other.is)
