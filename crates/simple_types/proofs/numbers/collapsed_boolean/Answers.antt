use Rattle.simple_types.proofs.Collapsed.{one_word, many_are_none}
use Rattle.simple_types.proofs.numbers.collapsed_boolean.Goals as goal

pub returns-in-Some : goal.returns-in-Some
returns-in-Some c = rw (one_word c.args.text.now c.in-Some.word.now c.in-Some.ensures) c.boolean_of.ensures

pub returns-in-None : goal.returns-in-None
returns-in-None c = many_are_none c.args.text.now c.in-None.ensures
