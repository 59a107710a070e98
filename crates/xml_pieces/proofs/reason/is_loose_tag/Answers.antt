use Rattle.xml_pieces.proofs.Utf8.{name_rest_utf8}
use Rattle.xml_pieces.proofs.reason.is_loose_tag.Goals as goal

pub past_loose_attributes-requires : goal.past_loose_attributes-requires
past_loose_attributes-requires c = (name_rest_utf8 _ _ _ c.in-Some.ensures c.requires).1
