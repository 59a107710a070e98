use Rattle.schema_read.proofs.NameRules.{same_rule}
use Rattle.schema_read.proofs.laws.one_name_rule.Goals as goal

pub returns : goal.returns
returns c = same_rule
