use Rattle.std.proofs.Common.{sym, ◌∙◌}
use Rattle.xml_pieces.proofs.Ends.{stay_lines}
use Rattle.xml_pieces.proofs.value.with_line_ends.Goals as goal

pub returns-then-line_len-bytes : goal.returns-then-line_len-bytes
returns-then-line_len-bytes c = sym (stay_lines c.args.bytes.now (sym c.line_len.ensures.value ∙ c.if-line_len-bytes.true))
