use Rattle.module_grammar.proofs.ValueLaws.{value_early}
use Rattle.module_grammar.proofs.laws.values_are_read.Goals as goal

pub returns : goal.returns
returns c = value_early
