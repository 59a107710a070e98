use Rattle.module_grammar.proofs.Nested.{nested_exact}
use Rattle.module_grammar.proofs.text_laws.nested_exact.Goals as goal

pub returns : goal.returns
returns c = nested_exact
