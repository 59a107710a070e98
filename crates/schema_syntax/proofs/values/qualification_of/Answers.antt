use Rattle.std.proofs.Common.{rules}
use Rattle.schema_syntax.specs.Values.{qualifications}
use Rattle.schema_syntax.proofs.Tables.{none_beside}
use Rattle.schema_syntax.proofs.values.qualification_of.Goals as goal

pub returns-in_default : goal.returns-in_default
returns-in_default c = none_beside c.args.text.now qualifications (search rules)
