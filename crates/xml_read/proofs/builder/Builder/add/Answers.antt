use Rattle.std.proofs.Common.{rules}
use Rattle.xml_read.proofs.Built.{adds}
use Rattle.xml_read.proofs.builder.Builder.add.Goals as goal

pub returns-clause-state : goal.returns-clause-state
returns-clause-state c = adds c.args.self.now c.args.text.now _ c.args.at _ c.args.brackets (search rules) (search rules) (search rules)
