use Rattle.std.proofs.Common.{◌∙◌, ap, ℕ, List, rules, refl}
use Rattle.xml_read.specs.Private.States.{added}
use Rattle.xml_read.specs.Private.Building.{state}
use Rattle.xml_read.proofs.Built.{cdata_takes, cdata_stops}
use Rattle.xml_read.proofs.builder.Builder.cdata.Goals as goal

pub returns-in-Some-clause-err : goal.returns-in-Some-clause-err
returns-in-Some-clause-err c = (refl, cdata_stops c.args.self.now c.args.text.now ∙ (search rules))

pub returns-clause-ok : goal.returns-clause-ok
returns-clause-ok c = cdata_takes c.args.self.now c.add.new.self c.args.text.now c.args.at c.requires.scoped (search rules) (c.in_ok-add.ensures.state ∙ ap (λ (t : List ℕ). added t c.args.at 0 (state c.args.self.now)) c.utf8_text.ensures) c.in_ok-add.ensures.kept
