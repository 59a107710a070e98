use Rattle.std.proofs.Common.{ap, ◌∙◌}
use Rattle.schema_read.proofs.Words.{UnionOf, union}
use Rattle.schema_read.proofs.simple_definitions.union_of.Goals as goal

pub returns : goal.returns
returns c = union c.in_ok-members.members ∙ ap UnionOf c.in_ok-members.ensures
