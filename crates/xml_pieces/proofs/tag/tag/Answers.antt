use Rattle.xml_pieces.proofs.Utf8.{name_rest_utf8}
use Rattle.xml_pieces.proofs.Shutting.{bare_tag}
use Rattle.xml_pieces.proofs.tag.tag.Goals as goal

pub tag_of-requires : goal.tag_of-requires
tag_of-requires c = (name_rest_utf8 _ _ _ c.in-Some.ensures c.requires).1

pub returns-in-Some-past_end : goal.returns-in-Some-past_end
returns-in-Some-past_end c =
    rw c.new-attributes.ensures.items (bare_tag c.args.bytes.now c.in-Some.name.now c.in-Some.rest.now c.in-Some-past_end.behind.now c.in-Some.ensures c.in-Some-past_end.ensures)
