use Rattle.std.proofs.Common.{sym, subst}
use Rattle.xml_pieces.specs.declared.found.Found.{Found}
use Rattle.xml_pieces.specs.Found.{seen}
use Rattle.xml_read.specs.Private.Building.{Takes}
use Rattle.xml_read.proofs.Built.{comment_takes, instruction_takes}
use Rattle.xml_read.proofs.builder.Builder.take.Goals as goal

pub returns-in-Comment-clause-ok : goal.returns-in-Comment-clause-ok
returns-in-Comment-clause-ok c = subst (λ (f : Found). Takes (seen f) c.args.at c.args.self.now c.pass.new.self) (sym c.in-Comment.is) (comment_takes c.args.self.now c.pass.new.self c.args.at c.requires.scoped c.pass.ensures.state c.pass.ensures.kept)

pub returns-in-Instruction-clause-ok : goal.returns-in-Instruction-clause-ok
returns-in-Instruction-clause-ok c = subst (λ (f : Found). Takes (seen f) c.args.at c.args.self.now c.pass-in-Instruction.new.self) (sym c.in-Instruction.is) (instruction_takes c.args.self.now c.pass-in-Instruction.new.self c.args.at c.requires.scoped c.pass-in-Instruction.ensures.state c.pass-in-Instruction.ensures.kept)
