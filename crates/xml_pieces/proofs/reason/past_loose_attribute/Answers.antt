use Rattle.xml_pieces.proofs.Attributes.{written_utf8}
use Rattle.xml_pieces.proofs.reason.past_loose_attribute.Goals as goal

pub is_loose_value-requires : goal.is_loose_value-requires
is_loose_value-requires c = (written_utf8 c.args.bytes.now _ _ _ c.in_ok-written.ensures c.requires).1
