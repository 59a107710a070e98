use Rattle.std.proofs.Common.{rules}
use Rattle.xml_pieces.proofs.Values.{kept_value}
use Rattle.xml_pieces.proofs.value.value.Goals as goal

pub returns-then-is_kept : goal.returns-then-is_kept
returns-then-is_kept c = kept_value c.args.written.now (search rules) (search rules)
