use Rattle.std.proofs.Common.{sym, ◌∙◌}
use Rattle.xml_read.proofs.Built.{ends_open}
use Rattle.xml_read.proofs.builder.Builder.end_reason.Goals as goal

pub returns-then-is_open : goal.returns-then-is_open
returns-then-is_open c = ends_open c.args.self.now c.args.written.now c.requires (sym c.is_open.ensures ∙ c.if-is_open.true)
