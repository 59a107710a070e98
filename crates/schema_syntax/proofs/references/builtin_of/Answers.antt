use Rattle.std.proofs.Common.{rules}
use Rattle.schema_syntax.specs.References.{builtins}
use Rattle.schema_syntax.proofs.Tables.{none_beside}
use Rattle.schema_syntax.proofs.references.builtin_of.Goals as goal

pub returns-in_default : goal.returns-in_default
returns-in_default c = none_beside c.args.name.now builtins (search rules)
