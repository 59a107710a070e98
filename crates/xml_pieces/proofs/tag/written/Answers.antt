use Rattle.xml_pieces.proofs.Utf8.{space_utf8}
use Rattle.xml_pieces.proofs.tag.written.Goals as goal

pub name-requires : goal.name-requires
name-requires c = space_utf8 _ _ c.in_ok-spaced.ensures c.requires
