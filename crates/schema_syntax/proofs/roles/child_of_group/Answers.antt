use Rattle.std.proofs.Common.{rules}
use Rattle.schema_syntax.specs.Elements.{group_children}
use Rattle.schema_syntax.proofs.Tables.{none_beside}
use Rattle.schema_syntax.proofs.roles.child_of_group.Goals as goal

pub returns-in_default : goal.returns-in_default
returns-in_default c = none_beside c.args.name.now group_children (search rules)
