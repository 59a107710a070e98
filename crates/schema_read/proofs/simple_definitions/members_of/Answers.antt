use Rattle.std.proofs.Common.{ap, ◌∙◌}
use Rattle.schema_read.proofs.Words.{bases_in, joined}
use Rattle.schema_read.proofs.Bases.{bases_in-append}
use Rattle.schema_read.proofs.simple_definitions.members_of.Goals as goal

pub returns : goal.returns
returns c =
    c.of.ensures
    ∙ (ap bases_in c.in_ok-append.ensures.items
    ∙ (bases_in-append c.in_ok-members.members.items c.args.inner.items
    ∙ ap (λ b. joined b (bases_in c.args.inner.items)) c.in_ok-members.ensures))
