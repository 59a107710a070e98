use Rattle.xml_items.proofs.Steps.{closes}
use Rattle.xml_items.proofs.builder.ItemBuilder.close.Goals as goal

pub invariant_of-self : goal.invariant_of-self
invariant_of-self c = (closes c.self.inside.store c.self.inside.builder c.close.new.self c.args.self.now c.self.view_is c.self.invariant c.close.ensures).fit

pub returns-clause-zip : goal.returns-clause-zip
returns-clause-zip c = (closes c.self.inside.store c.self.inside.builder c.close.new.self c.args.self.now c.self.view_is c.self.invariant c.close.ensures).is
