use Rattle.std.proofs.Common.{rules}
use Rattle.xml_read.proofs.Built.{outside_is}
use Rattle.xml_read.proofs.builder.Builder.is_outside.Goals as goal

pub returns : goal.returns
returns c = outside_is c.args.self.now c.is_empty.result (search rules)
