use Rattle.module_grammar.proofs.Linking.{all_texts_read}
use Rattle.module_grammar.proofs.laws.texts_are_read.Goals as goal

pub returns : goal.returns
returns c = all_texts_read
