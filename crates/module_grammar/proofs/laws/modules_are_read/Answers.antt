use Rattle.module_grammar.proofs.ModuleLaws.{modules_exact}
use Rattle.module_grammar.proofs.laws.modules_are_read.Goals as goal

pub returns : goal.returns
returns c = modules_exact
