use Rattle.std.proofs.Common.{rules}
use Rattle.xml_pieces.proofs.Utf8.{name_utf8}
use Rattle.xml_pieces.proofs.text.any_name.Goals as goal

pub is_name-requires : goal.is_name-requires
is_name-requires c = search (rules, (name_utf8 c.args.bytes.now c.requires).0)
