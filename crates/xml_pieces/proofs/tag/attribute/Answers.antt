use Rattle.xml_pieces.proofs.Attributes.{written_utf8}
use Rattle.xml_pieces.proofs.tag.attribute.Goals as goal

pub value-requires : goal.value-requires
value-requires c = (written_utf8 c.args.bytes.now _ _ _ c.in-Some.ensures c.requires).1
