use Rattle.std.proofs.Common.{rules, ap}
use Rattle.schema_syntax.proofs.Tables.{none_beside}
use Rattle.schema_read.specs.SimpleTypes.{facet_makers, with_value}
use Rattle.schema_read.proofs.simple_definitions.facet_of.Goals as goal

pub returns-in_default : goal.returns-in_default
returns-in_default c = ap (λ make. with_value make c.args.value) (none_beside c.args.name.now facet_makers (search rules))
