use Rattle.std.proofs.Common.{rules}
use Rattle.xml_read.proofs.Built.{declaration_takes}
use Rattle.xml_read.proofs.builder.Builder.declaration.Goals as goal

pub returns-clause-ok : goal.returns-clause-ok
returns-clause-ok c = declaration_takes c.args.self.now c.pass.new.self c.args.at c.requires (search rules) c.pass.ensures.state c.pass.ensures.kept
