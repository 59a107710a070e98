use Rattle.std.proofs.Common.{sym, ◌∙◌}
use Rattle.xml_pieces.proofs.Spelling.{plain_name}
use Rattle.xml_pieces.proofs.written_names.is_ascii_name_alone.Goals as goal

pub returns-then-is_short_part : goal.returns-then-is_short_part
returns-then-is_short_part c = λ is. plain_name c.args.written.now (sym c.is_short_part.ensures ∙ c.if-is_short_part.true) (sym c.is_ascii_ncname.ensures ∙ is)
