use Rattle.std.proofs.Common.{◌∙◌, rules, refl}
use Rattle.xml_read.proofs.Built.{reference_takes, reference_stops}
use Rattle.xml_read.proofs.builder.Builder.reference.Goals as goal

pub returns-in-Some-clause-err : goal.returns-in-Some-clause-err
returns-in-Some-clause-err c = (refl, reference_stops c.args.self.now c.args.c ∙ (search rules))

pub returns-clause-ok : goal.returns-clause-ok
returns-clause-ok c = reference_takes c.args.self.now c.add_char.new.self c.args.c c.args.at c.requires (search rules) c.in_ok-add_char.ensures.state c.in_ok-add_char.ensures.kept
