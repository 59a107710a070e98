use Rattle.std.proofs.Common.{◌∙◌, rules, refl}
use Rattle.xml_read.proofs.Built.{character_takes, character_stops}
use Rattle.xml_read.proofs.builder.Builder.character.Goals as goal

pub returns-in-Some-clause-err : goal.returns-in-Some-clause-err
returns-in-Some-clause-err c = (refl, character_stops c.args.self.now c.args.c ∙ (search rules))

pub returns-clause-ok : goal.returns-clause-ok
returns-clause-ok c = character_takes c.args.self.now c.add_char.new.self c.args.c c.args.at c.count_brackets-brackets.result c.requires (search rules) (search rules) c.in_ok-add_char.ensures.state c.in_ok-add_char.ensures.kept
